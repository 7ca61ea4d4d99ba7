use Rattle.std.proofs.Common.{◌≡◌, ◌+◌, ◌∙◌, max, length, true≢false, refl, sym, ap, subst, arith}
use Rattle.std.proofs.lemmas.List.{length-map}
use Rattle.base_types.specs.declared.message.Msg.{Msg}
use Rattle.link_store.specs.Links.{LinksView}
use Rattle.queue_broker.specs.Broker.{BrokerView}
use Rattle.queue_broker.specs.Kept.{AreMore, hands_in, queue_in, queues_in}
use Rattle.queue_broker.proofs.Calls.{on_err}
use Rattle.queue_broker.proofs.More.{kept_more, room_kept, same_numbers, view_are}
use Rattle.queue_broker.proofs.broker.Broker.reserve_count.Goals as goal

pub make_lists-requires-clause-queues : goal.make_lists-requires-clause-queues
make_lists-requires-clause-queues c = omega (arith, c.self.invariant.1.queue_count, c.max-queue_room.ensures)

pub make_lists-requires-clause-hands : goal.make_lists-requires-clause-hands
make_lists-requires-clause-hands c = omega (arith, c.self.invariant.1.hand_count, c.max-hand_room.ensures)

pub make_lists-requires-clause-free : goal.make_lists-requires-clause-free
make_lists-requires-clause-free c = c.self.invariant.1.free_cells

pub invariant_of-self : goal.invariant_of-self
invariant_of-self c = rw c.in_err-make_nodes.ensures.err c.self.invariant

pub invariant_of-self-in_err-make_lists : goal.invariant_of-self-in_err-make_lists
invariant_of-self-in_err-make_lists c =
    let broker = c.self.inside in
    let (kept, room) = c.self.invariant in
    let same = c.in_ok-make_nodes.ensures.same in
    let before = room_kept broker.links c.make_nodes.new.links broker.queues broker.queues broker.hands broker.hands broker.free broker.free broker.queue_room broker.hand_room refl refl
    (omega (arith, ap (λ (v : LinksView Msg). length v.lists) same)) (omega arith) (omega arith) room.free_cells room in
    let more = subst (λ (l : LinksView Msg). AreMore l broker.free.items c.make_lists.new.links c.make_lists.new.free.items) same c.in_err-make_lists.ensures.more in (
      rw (c.in_err-make_lists.ensures.queues, c.in_err-make_lists.ensures.hands)
          (kept_more broker.links c.make_lists.new.links broker.queues.items broker.hands.items broker.free.items c.make_lists.new.free.items broker.waiting broker.spare kept c.make_nodes.new.links.spare more broker.spare (omega (arith, kept.room, c.in_ok-make_nodes.ensures.more))),
      c.in_err-make_lists.ensures.kept broker.queue_room broker.hand_room before,
    )

pub invariant_of-self-2 : goal.invariant_of-self-2
invariant_of-self-2 c =
    let broker = c.self.inside in
    let (kept, room) = c.self.invariant in
    let same = c.in_ok-make_nodes.ensures.same in
    let before = room_kept broker.links c.make_nodes.new.links broker.queues broker.queues broker.hands broker.hands broker.free broker.free broker.queue_room broker.hand_room refl refl
    (omega (arith, ap (λ (v : LinksView Msg). length v.lists) same)) (omega arith) (omega arith) room.free_cells room in
    let more = subst (λ (l : LinksView Msg). AreMore l broker.free.items c.make_lists.new.links c.make_lists.new.free.items) same c.in_ok-make_lists.ensures.more in (
      rw (c.in_ok-make_lists.ensures.queues, c.in_ok-make_lists.ensures.hands)
          (kept_more broker.links c.make_lists.new.links broker.queues.items broker.hands.items broker.free.items c.make_lists.new.free.items broker.waiting broker.spare kept c.make_nodes.new.links.spare more c.max-self-inside.result
          (omega (arith, kept.room, c.max-self-inside.ensures, c.in_ok-make_nodes.ensures.more, c.in_ok-make_nodes.ensures.ok))),
      c.in_ok-make_lists.ensures.ok,
    )

pub returns-in_err-make_nodes-clause-err : goal.returns-in_err-make_nodes-clause-err
returns-in_err-make_nodes-clause-err c = on_err c.from_residual.result _ (rw c.in_err-make_nodes.ensures.err c.self.view_is)

pub returns-in_err-make_nodes-clause-succeeds : goal.returns-in_err-make_nodes-clause-succeeds
returns-in_err-make_nodes-clause-succeeds c = λ has. absurd (true≢false (sym (c.in_err-make_nodes.ensures.succeeds (omega (arith, has.messages, c.self.invariant.0.room, ap (λ (v : BrokerView). v.spare) c.self.view_is)))))

pub returns-in_err-make_lists-clause-err : goal.returns-in_err-make_lists-clause-err
returns-in_err-make_lists-clause-err c =
    let broker = c.self.inside in
    let (kept, room) = c.self.invariant in
    let same = c.in_ok-make_nodes.ensures.same in
    let before = room_kept broker.links c.make_nodes.new.links broker.queues broker.queues broker.hands broker.hands broker.free broker.free broker.queue_room broker.hand_room refl refl
    (omega (arith, ap (λ (v : LinksView Msg). length v.lists) same)) (omega arith) (omega arith) room.free_cells room in
    let more = subst (λ (l : LinksView Msg). AreMore l broker.free.items c.make_lists.new.links c.make_lists.new.free.items) same c.in_err-make_lists.ensures.more in
    on_err c.from_residual-in_err-make_lists.result _ (rw (← c.self.view_is, c.in_err-make_lists.ensures.queues, c.in_err-make_lists.ensures.hands)
    (view_are broker.links c.make_lists.new.links broker.queues.items broker.hands.items broker.free.items c.make_lists.new.free.items broker.waiting broker.spare kept c.make_nodes.new.links.spare more broker.spare broker.queue_room broker.hand_room))

pub returns-in_err-make_lists-clause-succeeds : goal.returns-in_err-make_lists-clause-succeeds
returns-in_err-make_lists-clause-succeeds c = λ has.
    let broker = c.self.inside in
    let (kept, room) = c.self.invariant in
    let same = c.in_ok-make_nodes.ensures.same in
    let before = room_kept broker.links c.make_nodes.new.links broker.queues broker.queues broker.hands broker.hands broker.free broker.free broker.queue_room broker.hand_room refl refl
    (omega (arith, ap (λ (v : LinksView Msg). length v.lists) same)) (omega arith) (omega arith) room.free_cells room in
    let same_queues : c.max-queue_room.result ≡ broker.queue_room = omega (
      arith,
      c.max-queue_room.ensures,
      c.saturating_add.ensures,
      c.len.ensures,
      broker.queues.ok.0,
      has.queues,
      length-map broker.queues.items (queue_in broker.links.lists),
      ap (λ (v : BrokerView). v.queue_room) c.self.view_is,
      ap (λ (v : BrokerView). length v.queues) c.self.view_is,
    ) in
    let same_hands : c.max-hand_room.result ≡ broker.hand_room = omega (arith, c.max-hand_room.ensures, has.hands, ap (λ (v : BrokerView). v.hand_room) c.self.view_is) in
    absurd (true≢false (sym (c.in_err-make_lists.ensures.succeeds (rw (same_queues, same_hands) before))))

pub returns-clause-ok : goal.returns-clause-ok
returns-clause-ok c =
    let broker = c.self.inside in
    let (kept, room) = c.self.invariant in
    let same = c.in_ok-make_nodes.ensures.same in
    let before = room_kept broker.links c.make_nodes.new.links broker.queues broker.queues broker.hands broker.hands broker.free broker.free broker.queue_room broker.hand_room refl refl
    (omega (arith, ap (λ (v : LinksView Msg). length v.lists) same)) (omega arith) (omega arith) room.free_cells room in
    let more = subst (λ (l : LinksView Msg). AreMore l broker.free.items c.make_lists.new.links c.make_lists.new.free.items) same c.in_ok-make_lists.ensures.more in
    let all = queues_in broker.links.lists broker.queues.items in
    let queue_room : c.max-queue_room.result ≡ max (c.args.queues + length all) broker.queue_room = omega (
      arith,
      c.max-queue_room.ensures,
      c.saturating_add.ensures,
      c.len.ensures,
      broker.queues.ok.0,
      length-map broker.queues.items (queue_in broker.links.lists),
      c.in_ok-make_lists.ensures.ok.queue_cells,
      c.make_lists.new.queues.small,
    ) in
    rw (← c.self.view_is, c.in_ok-make_lists.ensures.queues, c.in_ok-make_lists.ensures.hands)
    (view_are broker.links c.make_lists.new.links broker.queues.items broker.hands.items broker.free.items c.make_lists.new.free.items broker.waiting broker.spare kept c.make_nodes.new.links.spare more c.max-self-inside.result c.max-queue_room.result c.max-hand_room.result
    ∙ same_numbers all (hands_in broker.links.lists broker.hands.items) broker.links.pushed _ _ _ _ _ _ (omega (arith, c.max-self-inside.ensures)) queue_room (omega (arith, c.max-hand_room.ensures)))
