use Rattle.std.proofs.Common.{◌≡◌, ◌≤◌, List, Err, MatchOption, IfSome, sym, ◌∙◌, ap, subst, arith}
use Rattle.std.proofs.lemmas.Result.{err_from_is_err_and}
use Rattle.report_cut.specs.Pieces.{Piece, End, Long, next, offset_behind}
use Rattle.report_cut.specs.declared.piece.Cut.{Cut}
use Rattle.feed_reader.specs.declared.ahead.ReaderFault.TheVariants as fault
use Rattle.feed_reader.proofs.Sources.{rose_since, ahead_is}
use Rattle.feed_reader.proofs.reader.FeedReader.next_piece.Goals as goal

pub invariant_of-self : goal.invariant_of-self
invariant_of-self g c =
    (c.take.ensures.counted, λ feed told. c.take.ensures.stands feed (c.slices.invariant.stands feed (sym c.slices.invariant.told ∙ told)))

pub returns-in-Some-clause-next : goal.returns-in-Some-clause-next
returns-in-Some-clause-next g c = λ feed told.
    let v = c.self.view_is in let kept = c.slices.invariant in
    ahead_is c.args.self.now.rule c.slices.self-inside.coming.cutter.rule feed c.args.self.now.at c.slices.self-inside.coming.at (Piece c.in-Some.cut)
    (sym (ap (λ r. r.rule) v) ∙ sym kept.rule)
    (sym (ap (λ r. r.at) v) ∙ sym kept.at)
    (c.in-Some.ensures.next feed (kept.stands feed (ap (λ r. r.source.told) v ∙ told)))

pub invariant_of-self-then-self : goal.invariant_of-self-then-self
invariant_of-self-then-self g c =
    (c.take.ensures.counted, λ feed told. c.take.ensures.stands feed (c.slices.invariant.stands feed (sym c.slices.invariant.told ∙ told)))

pub returns-then-self-clause-next : goal.returns-then-self-clause-next
returns-then-self-clause-next g c = λ feed told.
    let v = c.self.view_is in let kept = c.slices.invariant in
    let first = ap (λ r. r.source.told) v ∙ told in
    let at = subst (λ o. MatchOption o (c.take.new.self.at ≡ c.slices.self-inside.coming.at) (λ cut. c.take.new.self.at ≡ cut.upto)) c.in_default.is c.take.ensures.at in
    ahead_is c.args.self.now.rule c.take.new.self.cutter.rule feed c.args.self.now.at c.take.new.self.at End
    (sym (ap (λ r. r.rule) v) ∙ sym kept.rule ∙ sym c.take.ensures.rule)
    (sym (ap (λ r. r.at) v) ∙ sym kept.at ∙ sym at)
    (subst (λ (cuts : List Cut). next c.take.new.self.cutter.rule feed (offset_behind c.take.new.self.at cuts) ≡ End) (c.take.ensures.none c.in_default.is)
    ((c.take.ensures.stands feed (kept.stands feed first)).end c.if-self.true))

pub invariant_of-self-in_err-at : goal.invariant_of-self-in_err-at
invariant_of-self-in_err-at g c = (
  c.read_on.ensures.counted,
  λ feed told.
      let mid = sym c.read_on.ensures.told ∙ told in
      c.read_on.ensures.stands feed mid (c.take.ensures.stands feed (c.slices.invariant.stands feed (sym c.slices.invariant.told ∙ mid))),
)

pub returns-in_err-at-clause-failed : goal.returns-in_err-at-clause-failed
returns-in_err-at-clause-failed g c = λ is.
    let answered = err_from_is_err_and c.from_residual.result c.from_residual.ensures.1 in
    let failed : answered.0 ≡ fault.Failed = cc (answered.1, is) in
    let same : c.read_on.result ≡ Err fault.Failed = c.in_err-at.was ∙ ap (λ e. Err e) (sym answered.2 ∙ failed) in
    let before = subst (λ r. r.source.faults ≤ (g.S.Source.source c.slices.self-inside.source).faults) c.self.view_is c.slices.invariant.count in
    rose_since c.args.self.now.source.faults _ _ before c.read_on.ensures.count (c.read_on.ensures.failed same)

pub invariant_of-self-in-Some-2 : goal.invariant_of-self-in-Some-2
invariant_of-self-in-Some-2 g c = (
  c.read_on.ensures.counted,
  λ feed told.
      let mid = sym c.read_on.ensures.told ∙ told in
      c.read_on.ensures.stands feed mid (c.take.ensures.stands feed (c.slices.invariant.stands feed (sym c.slices.invariant.told ∙ mid))),
)

pub returns-in-Some-2-clause-next : goal.returns-in-Some-2-clause-next
returns-in-Some-2-clause-next g c = λ feed told.
    let v = c.self.view_is in let kept = c.slices.invariant in
    let first = ap (λ r. r.source.told) v ∙ told in
    let mid = kept.told ∙ first in
    let at = subst (λ o. MatchOption o (c.take.new.self.at ≡ c.slices.self-inside.coming.at) (λ cut. c.take.new.self.at ≡ cut.upto)) c.in_default.is c.take.ensures.at in
    ahead_is c.args.self.now.rule c.take.new.self.cutter.rule feed c.args.self.now.at c.take.new.self.at (Long c.in-Some-2.at)
    (sym (ap (λ r. r.rule) v) ∙ sym kept.rule ∙ sym c.take.ensures.rule)
    (sym (ap (λ r. r.at) v) ∙ sym kept.at ∙ sym at)
    (subst (λ o. IfSome o (λ line. next c.take.new.self.cutter.rule feed c.take.new.self.at ≡ Long line)) c.in-Some-2.is (c.in_ok-at.ensures.long feed mid (c.take.ensures.stands feed (kept.stands feed first))))

pub slices-preserved : goal.slices-preserved
slices-preserved g c =
    let kept = c.slices.invariant in
    let at = subst (λ o. MatchOption o (c.take.new.self.at ≡ c.slices.self-inside.coming.at) (λ cut. c.take.new.self.at ≡ cut.upto)) c.in_default.is c.take.ensures.at in
    record {
      counted = c.read_on.ensures.counted;
      stands = λ feed told. c.read_on.ensures.stands feed (kept.told ∙ told) (c.take.ensures.stands feed (kept.stands feed told));
      at = c.read_on.ensures.at ∙ at ∙ kept.at;
      rule = c.read_on.ensures.rule ∙ c.take.ensures.rule ∙ kept.rule;
      told = c.read_on.ensures.told ∙ kept.told;
      name = c.read_on.ensures.name ∙ kept.name;
      count = omega (arith, kept.count, c.read_on.ensures.count);
    }
