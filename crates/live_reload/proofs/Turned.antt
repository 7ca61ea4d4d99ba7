-- What comes of asking for an order.
use Rattle.std.proofs.Common.{◌≡◌, ℕ, suc, zero, ◌+◌, inl, inr, Some, None, Result, Ok, Err, OnOk, OnErr, IsErr, MatchResult, List, [], ◌∷◌, drop, refl, sym, ap, subst, ◌∙◌, arith}
use Rattle.std.specs.List.{slice_get}
use Rattle.edge_traits.specs.Count.{Rose}
use Rattle.edge_traits.specs.Output.{TookFront}
use Rattle.edge_traits.specs.Sink.{Took}
use Rattle.edge_traits.specs.Source.{SourceView}
use Rattle.live_reload.specs.declared.order.Order.{Order}
use Rattle.live_reload.specs.declared.order.Order.TheVariants as order
use Rattle.edge_traits.specs.declared.source.Failed.{Failed}
use Rattle.live_reload.specs.Answers.{answer_text}
use Rattle.live_reload.specs.Lines.{control_lines, lines_from, IsNextLine}
use Rattle.live_reload.specs.Live.{LiveView, Takes, TakesTurn, Turns}
use Rattle.live_reload.specs.declared.end.OrdersEnd.TheVariants as end
use Rattle.live_reload.specs.declared.word.Word.{Word}

line_at : (ls : List (List ℕ)) (n : ℕ) (line : List ℕ) (more : List (List ℕ)) → drop n ls ≡ line ∷ more → (slice_get ls n ≡ Some line) × (drop (suc n) ls ≡ more)
line_at [] zero line more is = absurd (cc)
line_at [] (suc n) line more is = absurd (cc)
line_at (l ∷ ls) zero line more is = (cc, cc)
line_at (l ∷ ls) (suc n) line more is = line_at ls n line more is

pub none_at : (ls : List (List ℕ)) (n : ℕ) → drop n ls ≡ [] → slice_get ls n ≡ None
none_at [] n is = refl
none_at (l ∷ ls) zero is = absurd (cc)
none_at (l ∷ ls) (suc n) is = none_at ls n is

-- the next line is the one behind those that were taken, and the lines behind it are those that are left
pub next_taken : (content : List ℕ) (at upto taken : ℕ) (line : List ℕ) → lines_from at content ≡ drop taken (control_lines content) → IsNextLine content at line upto
    → (slice_get (control_lines content) taken ≡ Some line) × (lines_from upto content ≡ drop (taken + 1) (control_lines content))
next_taken content at upto taken line left is =
    let found = line_at (control_lines content) taken line (lines_from upto content) (sym left ∙ is) in
    let next : suc taken ≡ taken + 1 = omega arith in
    (found.0, sym found.1 ∙ ap (λ k. drop k (control_lines content)) next)

-- by what came of printing the answer
pub turned : (r : Result (Unit {0}) Failed) (old new : LiveView) (w : Word) (o given : Order) → Takes old new w o
    → OnOk r (Took old.out new.out (answer_text (suc old.taken) w)) → OnErr r (TookFront old.out new.out (answer_text (suc old.taken) w)) → (IsErr r → Rose old.out.faults new.out.faults)
    → MatchResult r (λ _. (given ≡ o) × (new.end ≡ end.Open)) (λ _. (given ≡ order.Failed) × (new.end ≡ end.Sink)) → TakesTurn old new given
turned (Ok x) old new w o given takes ok err rose gives = inl (record { word = w; takes = subst (λ (p : Order). Takes old new w p) (sym gives.0) takes; printed = ok; end = gives.1 })
turned (Err e) old new w o given takes ok err rose gives = inr (inl (gives.0, record { word = w; order = o; takes = takes; printed = err; rose = rose refl; end = gives.1 }))

takes_since : (first last : LiveView) (control : SourceView) (w : Word) (o : Order) → control.told ≡ first.control.told → Takes (record first { control = control }) last w o → Takes first last w o
takes_since first last control w o same takes = record { asked = takes.asked; line = λ content told. takes.line content (same ∙ told); answer = takes.answer; means = takes.means; absent = takes.absent; failed = takes.failed; loads = takes.loads; taken = takes.taken }

-- control was read, and a line was taken then
pub turns_since : (first last : LiveView) (control : SourceView) (o : Order) → control.told ≡ first.control.told → TakesTurn (record first { control = control }) last o → Turns first last o
turns_since first last control o same (inl answers) = inl (record { word = answers.word; takes = takes_since first last control answers.word o same answers.takes; printed = answers.printed; end = answers.end })
turns_since first last control o same (inr (inl failed)) =
    let u = failed.1 in
    inr (inr (inr (inl (failed.0, record { word = u.word; order = u.order; takes = takes_since first last control u.word u.order same u.takes; printed = u.printed; rose = u.rose; end = u.end }))))
turns_since first last control o same (inr (inr memory)) = inr (inr (inr (inr (memory.0, record { out = memory.1.out; taken = memory.1.taken; end = memory.1.end }))))
