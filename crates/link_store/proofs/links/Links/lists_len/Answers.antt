use Rattle.std.proofs.Common.{◌≡◌, drop, length, ap, arith, rules}
use Rattle.std.proofs.lemmas.List.{length-drop}
use Rattle.link_store.specs.Slots.{nexts, cells}
use Rattle.link_store.specs.Kept.{lists_in}
use Rattle.link_store.proofs.Views.{length-lists_of}
use Rattle.link_store.proofs.links.Links.lists_len.Goals as goal

pub returns : goal.returns
returns g c =
    let links = c.self.inside in
    let count : length (drop 1 (lists_in links.slots.items links.heads.items links.lens.items)) ≡ length c.args.self.now.lists = ap (λ v. length v.lists) c.self.view_is in
    let rings : length (lists_in links.slots.items links.heads.items links.lens.items) ≡ length links.heads.items = length-lists_of (nexts links.slots.items) (cells links.slots.items) links.heads.items links.lens.items c.self.invariant.linked.joined.lens_len in
    let len : c.len.result ≡ length links.heads.items = search rules in
    omega (arith, count, rings, len, length-drop 1 (lists_in links.slots.items links.heads.items links.lens.items))
