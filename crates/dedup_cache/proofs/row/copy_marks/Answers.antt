use Rattle.std.proofs.Common.{◌≡◌, ◌∙◌, [], Option, Bor, length, refl, ap, subst, arith}
use Rattle.std.specs.Option.{IfSome}
use Rattle.std.proofs.lemmas.List.{length_push}
use Rattle.stored_types.specs.declared.mark.Mark.{Mark}
use Rattle.link_store.specs.Links.{HasItem, Item, Place, list_of}
use Rattle.link_store.proofs.Walked.{IsNext, all_walked, walked_more, fewer_than, it_stands, its_value, next_item}
use Rattle.dedup_cache.proofs.row.copy_marks.Goals as goal

pub marks-init : goal.marks-init
marks-init c = record { done = []; behind = list_of c.args.links.now 0; split = refl; copied = c.in_ok-copies.ensures.items; node = c.first-next.ensures }

pub unwrap-mark-requires : goal.unwrap-mark-requires
unwrap-mark-requires c =
    let items = list_of c.args.links.now 0 in
    let copies = c.marks.copies.items in
    let node = c.in-Some.node in
    let is : IsNext items copies node = next_item items copies c.marks.next node c.in-Some.is c.marks.invariant in
    c.get.ensures.live.1 (is.item.value, (record { list = 0; before = is.before; behind = is.behind }, it_stands items copies node is))

pub marks-preserved : goal.marks-preserved
marks-preserved c =
    let items = list_of c.args.links.now 0 in
    let copies = c.marks.copies.items in
    let node = c.in-Some.node in
    let is : IsNext items copies node = next_item items copies c.marks.next node c.in-Some.is c.marks.invariant in
    let item : Item Mark = record { node = node; value = is.item.value } in
    let place : Place Mark = record { list = 0; before = is.before; behind = is.behind } in
    let stands = it_stands items copies node is in
    let has : HasItem (record { node = node; value = c.unwrap-mark.result.now }) c.args.links.now =
    subst (λ (o : Option (Bor Mark)). IfSome o (λ value. HasItem (record { node = node; value = value.now }) c.args.links.now)) c.unwrap-mark.ensures c.get.ensures.value in
    let same : c.in_ok-copy.copy ≡ is.item.value = c.in_ok-copy.ensures ∙ its_value c.args.links.now c.numbers_differ.ensures.once item place c.unwrap-mark.result.now stands has in
    walked_more items copies c.push.new.self.items node c.in_ok-copy.copy c.next-next.result is same c.in_ok-push.ensures.items (c.next-next.ensures.behind is.item.value place stands)

pub marks-smaller : goal.marks-smaller
marks-smaller c =
    let items = list_of c.args.links.now 0 in
    let copies = c.marks.copies.items in
    let node = c.in-Some.node in
    let is : IsNext items copies node = next_item items copies c.marks.next node c.in-Some.is c.marks.invariant in
    omega (arith, fewer_than items copies node is, ap length c.in_ok-push.ensures.items, length_push copies c.in_ok-copy.copy)

pub returns : goal.returns
returns c = c.from.ensures ∙ all_walked (list_of c.args.links.now 0) c.marks.copies.items c.marks.next c.in_default.is c.marks.invariant
