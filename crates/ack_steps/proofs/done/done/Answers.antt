use Rattle.std.proofs.Common.{◌≡◌, ◌+◌, ◌-◌, ◌^◌, ℕ, ◌∙◌, sym, ap, subst, arith, length}
use Rattle.step_code.specs.declared.base.Base.{Base}
use Rattle.step_code.specs.After.{cached, numbered, sent}
use Rattle.core_state.specs.declared.state.State.{State}
use Rattle.core_state.specs.Room.{AreAbove}
use Rattle.core_state.specs.State.{state_of}
use Rattle.ack_steps.proofs.Kept.{numbered_above}
use Rattle.core_state.proofs.Numbered.{length-numbered}
use Rattle.ack_steps.proofs.Results.{acknowledged, put_aside, whole}
use Rattle.ack_steps.proofs.Marked.{marks_on_err, marks_stay, on_err_always}
use Rattle.ack_steps.proofs.done.done.Goals as goal

pub put_aside-requires-clause-above : goal.put_aside-requires-clause-above
put_aside-requires-clause-above c =
    let s = c.args.state.now in
    let there = ap (λ (t : State). t.dumps.dumps) c.send_all.ensures.same ∙ ap (λ (b : Base). b.dumps) c.make_all_room.ensures.same in
    let new = numbered_above s.dumps.dumps (s.next_message + c.len.result) s.next_dump c.args.held.bot c.args.held.now c.args.made.dumps.now c.requires.below in
    subst (λ front. AreAbove front c.in_ok-dumps.dumps.items) (sym there) (subst (AreAbove s.dumps.dumps) (sym c.in_ok-dumps.ensures) new)

pub put_aside-requires-clause-messages : goal.put_aside-requires-clause-messages
put_aside-requires-clause-messages c =
    let s = c.args.state.now in
    omega (
      arith,
      ap (λ (b : Base). b.next_message) c.send_all.ensures.sent,
      ap (λ (b : Base). b.next_message) c.make_all_room.ensures.same,
      ap length c.in_ok-sends.ensures,
      ap length c.in_ok-dumps.ensures,
      length-numbered (s.next_message + c.len.result) s.next_dump c.args.held.bot c.args.held.now c.args.made.dumps.now,
      c.requires.messages,
    )

pub put_aside-requires-clause-dumps : goal.put_aside-requires-clause-dumps
put_aside-requires-clause-dumps c =
    let s = c.args.state.now in
    omega (
      arith,
      ap (λ (b : Base). b.next_dump) c.send_all.ensures.sent,
      ap (λ (b : Base). b.next_dump) c.make_all_room.ensures.same,
      ap length c.in_ok-dumps.ensures,
      length-numbered (s.next_message + c.len.result) s.next_dump c.args.held.bot c.args.held.now c.args.made.dumps.now,
      c.requires.dumps,
    )

pub returns-clause-ok : goal.returns-clause-ok
returns-clause-ok c =
    let s = c.args.state.now in
    let b : Base = state_of s in
    let bot = c.args.held.bot in
    let now = c.args.held.now in
    let rule = c.args.rule in
    let made = c.args.made in
    let same = c.make_all_room.ensures.same in
    let count : c.len.result ≡ length made.sends.now = omega (arith, c.len.ensures, c.in_ok-sends.sends.ok.0, ap length c.in_ok-sends.ensures) in
    let dumps = c.in_ok-dumps.ensures ∙ ap (λ n. numbered (b.next_message + n) b.next_dump bot now made.dumps.now) count in
    let caches = c.in_ok-mark.ensures.ok ∙ (λ i. cached rule bot now (c.in_ok-key.ensures i) (same i).caches) in
    let first = c.send_all.ensures.sent ∙ (λ i. sent (c.in_ok-sends.ensures i) (record (same i) { caches = caches i })) in
    c.acknowledge.ensures.done ∙ ap (acknowledged bot c.args.held.instance made.line) (c.put_aside.ensures.put ∙ (λ i. put_aside (dumps i) (first i)))
    ∙ whole bot c.args.held.instance now rule made.sends.now made.dumps.now made.key.now made.line b

pub send_all-requires-clause-few : goal.send_all-requires-clause-few
send_all-requires-clause-few c = omega (arith, c.requires.few, c.make_all_room.ensures.pushed, ap length c.in_ok-sends.ensures)

pub returns-clause-pushed : goal.returns-clause-pushed
returns-clause-pushed c = omega (
  arith,
  c.make_all_room.ensures.pushed,
  ap (λ (b : Base). b.next_message) c.make_all_room.ensures.same,
  c.send_all.ensures.pushed,
  ap (λ (b : Base). b.next_message) c.send_all.ensures.sent,
  ap (λ (t : State). t.broker.pushed) c.put_aside.ensures.same,
  ap (λ (b : Base). b.next_message) c.put_aside.ensures.put,
  c.acknowledge.ensures.pushed,
  ap (λ (b : Base). b.next_message) c.acknowledge.ensures.done,
)

pub returns-in_err-make_all_room-clause-pushed : goal.returns-in_err-make_all_room-clause-pushed
returns-in_err-make_all_room-clause-pushed c = omega (arith, c.make_all_room.ensures.pushed, ap (λ (b : Base). b.next_message) c.make_all_room.ensures.same)

pub returns-in_err-mark-clause-pushed : goal.returns-in_err-mark-clause-pushed
returns-in_err-mark-clause-pushed c = omega (arith, c.make_all_room.ensures.pushed, ap (λ (b : Base). b.next_message) c.make_all_room.ensures.same)

pub mark-requires-clause-few : goal.mark-requires-clause-few
mark-requires-clause-few c = marks_stay c.args.state.now c.make_all_room.new.state c.make_all_room.ensures.caches (2 ^ 63 - 1) c.requires.marks

pub returns-clause-got : goal.returns-clause-got
returns-clause-got c = λ n all.
    let marked = record c.make_all_room.new.state { caches = c.mark.new.caches } in
    let same = c.acknowledge.ensures.caches ∙ ap (λ (t : State). t.caches) c.put_aside.ensures.same ∙ ap (λ (t : State). t.caches) c.send_all.ensures.same in
    marks_stay marked c.acknowledge.new.state same (n + 1) (c.in_ok-mark.ensures.got n (marks_stay c.args.state.now c.make_all_room.new.state c.make_all_room.ensures.caches n all))

pub returns-in_err-make_all_room-clause-kept : goal.returns-in_err-make_all_room-clause-kept
returns-in_err-make_all_room-clause-kept c = marks_on_err c.args.state.now c.make_all_room.new.state c.make_all_room.ensures.caches c.from_residual-in_err-make_all_room.result

pub returns-in_err-mark-clause-kept : goal.returns-in_err-mark-clause-kept
returns-in_err-mark-clause-kept c = λ n all. on_err_always c.from_residual-in_err-mark.result (c.in_err-mark.ensures.kept n (marks_stay c.args.state.now c.make_all_room.new.state c.make_all_room.ensures.caches n all))
