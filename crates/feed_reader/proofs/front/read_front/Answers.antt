use Rattle.std.proofs.Common.{◌≡◌, ◌+◌, ◌-◌, ◌∙◌, sym, ap, subst, arith, length-append, length, take, drop, List, ℕ}
use Rattle.std.proofs.lemmas.List.{length-take}
use Rattle.feed_reader.proofs.Fronts.{front_more, whole_front}
use Rattle.feed_reader.proofs.Sources.{goes_on, nothing_left}
use Rattle.feed_reader.proofs.front.read_front.Goals as goal

pub returns-then-n-eq0-clause-front : goal.returns-then-n-eq0-clause-front
returns-then-n-eq0-clause-front g c = λ feed told.
    let kept = c.slices.invariant in
    whole_front feed c.slices.front.items c.args.most (kept.bytes feed told) (omega (arith, c.len-in-slices.ensures, nothing_left c.in_ok-n.n _ _ (c.in_ok-n.ensures.progress feed (kept.still.told ∙ told)) c.if-n-eq0.true)) kept.within

pub slices-preserved : goal.slices-preserved
slices-preserved g c =
    let kept = c.slices.invariant in let front = c.slices.front.items in
    let read = take c.in_ok-n.n c.read_at.new.buf in
    let more = c.in_ok-push_front.ensures in
    let size : c.len-in-slices.result ≡ length front = omega (arith, c.len-in-slices.ensures) in
    record {
      still = record { told = c.in_ok-n.ensures.told ∙ kept.still.told; name = c.in_ok-n.ensures.name ∙ kept.still.name; count = omega (arith, kept.still.count, c.in_ok-n.ensures.count) };
      within = omega (arith, kept.within, ap length more, length-append front (take (c.args.most - length front) read), length-take (c.args.most - length front) read);
      bytes = λ feed told.
          let goes = goes_on feed c.read_at.new.buf c.in_ok-n.n (length front) c.in_ok-n.ensures.within (subst (λ (at : ℕ). read ≡ take c.in_ok-n.n (drop at feed)) size (c.in_ok-n.ensures.bytes feed (kept.still.told ∙ told))) in
          subst (λ (f : List ℕ). f ≡ take (length f) feed) (sym more) (front_more feed front read (drop (length front + length read) feed) (c.args.most - length front) (kept.bytes feed told) goes);
    }
