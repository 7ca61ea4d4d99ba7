use Rattle.std.proofs.Common.{◌≡◌, ◌∙◌, ◌+◌, ℕ, suc, List, OnOk, OnErr, ap, subst, arith}
use Rattle.edge_traits.specs.Output.{TookFront}
use Rattle.edge_traits.specs.Sink.{Took}
use Rattle.live_reload.specs.Answers.{answer_text}
use Rattle.live_reload.specs.Live.{live_at}
use Rattle.live_reload.proofs.Meant.{means_of}
use Rattle.live_reload.proofs.Turned.{next_taken, turned}
use Rattle.live_reload.proofs.live.LiveOrders.take.Goals as goal

pub returns-clause-turns : goal.returns-clause-turns
returns-clause-turns g c = λ control line follows.
    let me = c.args.self.now in
    let number : me.taken + 1 ≡ suc me.taken = omega arith in
    let bytes : c.as_bytes.result.now ≡ answer_text (suc me.taken) c.in-Some.word = c.as_bytes.ensures.value ∙ c.as_str.ensures ∙ c.in-Ok.ensures ∙ ap (λ n. answer_text n c.in-Some.word) number in
    turned c.write_all-printed.result (live_at control (g.H.Shelf.shelf c.args.shelf.now) (g.S.Sink.sink c.args.out.now) me)
    (live_at control (g.H.Shelf.shelf c.answer.new.shelf) (g.S.Sink.sink c.write_all-printed.new.out) (record { at = c.args.upto; taken = me.taken + 1; read = me.read; end = c.given_for-order.result.1 }))
    c.in-Some.word c.in-Some.order c.given_for-order.result.0
    record {
      asked = c.args.asked;
      line = λ content told.
          let next = line content told in
          (next.0, (next_taken content me.at c.args.upto me.taken next.0 (follows.left content told) next.1).0, next.2);
      answer = c.in-Some.ensures.answer;
      means = means_of c.args.asked (g.H.Shelf.shelf c.args.shelf.now) c.in-Some.word c.in-Some.order c.in-Some.ensures.answer;
      absent = c.in-Some.ensures.absent;
      failed = c.in-Some.ensures.failed;
      loads = c.in-Some.ensures.loads;
      taken = number;
    }
    (subst (λ (bs : List ℕ). OnOk c.write_all-printed.result (Took (g.S.Sink.sink c.args.out.now) (g.S.Sink.sink c.write_all-printed.new.out) bs)) bytes c.write_all-printed.ensures.ok)
    (subst (λ (bs : List ℕ). OnErr c.write_all-printed.result (TookFront (g.S.Sink.sink c.args.out.now) (g.S.Sink.sink c.write_all-printed.new.out) bs)) bytes c.write_all-printed.ensures.err)
    c.write_all-printed.ensures.failed c.given_for-order.ensures

pub returns-clause-follows : goal.returns-clause-follows
returns-clause-follows g c = λ control line near follows.
    let me = c.args.self.now in
    record {
      near = near;
      few = omega (arith, c.requires.near);
      left = λ content told.
          let next = line content told in
          (next_taken content me.at c.args.upto me.taken next.0 (follows.left content told) next.1).1;
    }
