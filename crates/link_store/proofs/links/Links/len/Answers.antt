use Rattle.std.proofs.Common.{◌<◌, ◌+◌, ◌∙◌, length, ap, subst, sym}
use Rattle.link_store.specs.Rings.{at}
use Rattle.link_store.proofs.Seen.{has_ring, length_seen}
use Rattle.link_store.proofs.links.Links.len.Goals as goal

pub len_of-requires : goal.len_of-requires
len_of-requires g c =
    let links = c.self.inside in
    let within : c.args.list + 1 < length links.heads.items = has_ring links.slots.items links.heads.items links.lens.items c.args.self.now c.args.list links.room links.pushed c.self.invariant.linked c.self.view_is c.requires in
    rw c.deref.ensures.value (subst (λ n. c.args.list + 1 < n) (sym c.self.invariant.linked.joined.lens_len) within)

pub returns : goal.returns
returns g c =
    let links = c.self.inside in
    let within : c.args.list + 1 < length links.heads.items = has_ring links.slots.items links.heads.items links.lens.items c.args.self.now c.args.list links.room links.pushed c.self.invariant.linked c.self.view_is c.requires in
    rw (← c.self.view_is) (c.len_of.ensures ∙ ap (λ ls. at ls (c.args.list + 1)) c.deref.ensures.value ∙ length_seen links.slots.items links.heads.items links.lens.items c.args.list c.self.invariant.linked within)
