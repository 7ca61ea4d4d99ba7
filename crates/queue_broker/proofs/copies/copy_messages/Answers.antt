use Rattle.std.proofs.Common.{◌≡◌, ◌∙◌, [], Option, Bor, length, refl, ap, subst, arith}
use Rattle.std.specs.Option.{IfSome}
use Rattle.std.proofs.lemmas.List.{length_push}
use Rattle.base_types.specs.declared.message.Msg.{Msg}
use Rattle.link_store.specs.Links.{HasItem, Item, Place, list_of}
use Rattle.link_store.proofs.Walked.{IsNext, all_walked, fewer_than, it_stands, its_value, next_item, walked_more}
use Rattle.queue_broker.proofs.copies.copy_messages.Goals as goal

pub messages-init : goal.messages-init
messages-init c = record { done = []; behind = list_of c.args.links.now c.args.list; split = refl; copied = c.in_ok-copies.ensures.items; node = c.first-next.ensures }

pub unwrap-message-requires : goal.unwrap-message-requires
unwrap-message-requires c =
    let items = list_of c.args.links.now c.args.list in
    let copies = c.messages.copies.items in
    let node = c.in-Some.node in
    let is : IsNext items copies node = next_item items copies c.messages.next node c.in-Some.is c.messages.invariant in
    c.get.ensures.live.1 (is.item.value, (record { list = c.args.list; before = is.before; behind = is.behind }, it_stands items copies node is))

pub messages-preserved : goal.messages-preserved
messages-preserved c =
    let items = list_of c.args.links.now c.args.list in
    let copies = c.messages.copies.items in
    let node = c.in-Some.node in
    let is : IsNext items copies node = next_item items copies c.messages.next node c.in-Some.is c.messages.invariant in
    let item : Item Msg = record { node = node; value = is.item.value } in
    let place : Place Msg = record { list = c.args.list; before = is.before; behind = is.behind } in
    let stands = it_stands items copies node is in
    let has : HasItem (record { node = node; value = c.unwrap-message.result.now }) c.args.links.now =
    subst (λ (o : Option (Bor Msg)). IfSome o (λ value. HasItem (record { node = node; value = value.now }) c.args.links.now)) c.unwrap-message.ensures c.get.ensures.value in
    let same : c.in_ok-copy.copy ≡ is.item.value = c.in_ok-copy.ensures ∙ its_value c.args.links.now c.numbers_differ.ensures.once item place c.unwrap-message.result.now stands has in
    walked_more items copies c.push.new.self.items node c.in_ok-copy.copy c.next-next.result is same c.in_ok-push.ensures.items (c.next-next.ensures.behind is.item.value place stands)

pub messages-smaller : goal.messages-smaller
messages-smaller c =
    let items = list_of c.args.links.now c.args.list in
    let copies = c.messages.copies.items in
    let node = c.in-Some.node in
    let is : IsNext items copies node = next_item items copies c.messages.next node c.in-Some.is c.messages.invariant in
    omega (arith, fewer_than items copies node is, ap length c.in_ok-push.ensures.items, length_push copies c.in_ok-copy.copy)

pub returns : goal.returns
returns c = c.from.ensures ∙ all_walked (list_of c.args.links.now c.args.list) c.messages.copies.items c.messages.next c.in_default.is c.messages.invariant
