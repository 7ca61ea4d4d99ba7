-- Steps of workers and of orders, one behind the other.
use Rattle.std.proofs.Common.{◌≡◌, ◌≢◌, ◌≤◌, ◌-◌, ◌+◌, ◌++◌, ℕ, zero, suc, true, List, [], ◌∷◌, length, map, Option, Some, None, IfSome, option_map, Result, Ok, Err, inl, inr, refl, sym, ap, subst, ◌∙◌, arith, append_assoc, append-nil}
use Rattle.edge_traits.specs.Disk.{DiskView}
use Rattle.step_code.specs.declared.base.Base.{Base}
use Rattle.step_code.specs.declared.feed.Feed.{Feed}
use Rattle.step_code.specs.declared.step.Step.{Step}
use Rattle.step_code.specs.declared.step.StepKind.{StepKind}
use Rattle.step_code.specs.After.{after}
use Rattle.step_code.specs.History.{replay}
use Rattle.step_code.specs.Rules.{Meaning}
use Rattle.store_image.specs.Stands.{IsSealOf}
use Rattle.store_image.proofs.Histories.{seal_kept, seals, seals_on}
use Rattle.store_image.proofs.Standing.{replay-append}
use Rattle.journal_book.specs.Book.{BookView}
use Rattle.drain_turns.specs.Drained.{behind, Drains, Place}
use Rattle.drain_turns.specs.Turn.{IsStamped, Outside}
use Rattle.drain_turns.specs.declared.end.TurnsEnd.{TurnsEnd}
use Rattle.drain_turns.specs.declared.end.TurnsEnd.TheVariants as last
use Rattle.drain_loop.specs.Calls.{place_with, rounds_of, IsOpened}
use Rattle.worker_turns.specs.Holds.{AreOwnFrom}
use Rattle.live_reload.specs.declared.end.OrdersEnd.{OrdersEnd}
use Rattle.live_reload.specs.declared.order.Order.{Order}
use Rattle.live_reload.specs.declared.order.Order.TheVariants as order
use Rattle.run_command.specs.Laps.{IsObeyed}
use Rattle.run_command.specs.Runs.{carried_in, kinds_of, left_behind, onto_given, steps_in, AreParts, IsPart, RunEnds}
use Rattle.run_command.proofs.Ending.{is_behind}
use Rattle.run_command.proofs.Lapping.{ends_further, few_lists, left_lists, own_whole}

-- ---- whichever lines are sealed

stamps_whole : (o : Outside) (whole sealed : Base) (steps : List Step) → IsSealOf whole sealed → AreOwnFrom o.meaning (λ t step. IsStamped o.clock t step) sealed steps → AreOwnFrom o.meaning (λ t step. IsStamped o.clock t step) whole steps
stamps_whole o whole sealed [] seal own = tt
stamps_whole o whole sealed (step ∷ steps) seal own = (
  subst (λ (s : Base). IsStamped o.clock s step) seal.same own.0,
  stamps_whole o (after o.meaning whole step) (after o.meaning sealed step) steps (seal_kept o.meaning whole sealed step seal) own.1,
)

-- rounds depend on the bundle and the feeds alone
same_rounds : (m : Meaning) (a b : Base) → a.bundle ≡ b.bundle → a.feeds ≡ b.feeds → rounds_of m a true ≡ rounds_of m b true
same_rounds m a b bundle feeds =
    ap (λ (x : List ℕ). rounds_of m (record a { bundle = x }) true) bundle ∙ ap (λ (fs : List Feed). rounds_of m (record a { bundle = b.bundle; feeds = fs }) true) feeds

kinds_whole : (m : Meaning) (whole sealed : Base) (given : Order) → IsSealOf whole sealed → kinds_of m sealed given ≡ kinds_of m whole given
kinds_whole m whole sealed (order.Reload code) seal = refl
kinds_whole m whole sealed order.Round seal = same_rounds m sealed whole (ap (λ (b : Base). b.bundle) seal.same) (ap (λ (b : Base). b.feeds) seal.same)
kinds_whole m whole sealed order.Nothing seal = refl
kinds_whole m whole sealed order.Stop seal = refl
kinds_whole m whole sealed order.Failed seal = refl
kinds_whole m whole sealed order.OutOfMemory seal = refl

part_whole : (o : Outside) (whole sealed : Base) (given : Option Order) (steps : List Step) → IsSealOf whole sealed → IsPart o sealed given steps → IsPart o whole given steps
part_whole o whole sealed None steps seal is = own_whole o whole sealed steps seal is
part_whole o whole sealed (Some given) steps seal is = record { kinds_are = is.kinds_are ∙ kinds_whole o.meaning whole sealed given seal; stamped = stamps_whole o whole sealed steps seal is.stamped }

parts_whole : (o : Outside) (whole sealed : Base) (parts : List (Option Order × List Step)) → IsSealOf whole sealed → AreParts o sealed parts → AreParts o whole parts
parts_whole o whole sealed [] seal are = tt
parts_whole o whole sealed (part ∷ parts) seal are = (
  part_whole o whole sealed part.0 part.1 seal are.0,
  parts_whole o (replay o.meaning whole part.1) (replay o.meaning sealed part.1) parts (seals o.meaning whole sealed part.1 seal) are.1,
)

-- ---- lists of them

pub steps_on : (parts more : List (Option Order × List Step)) → steps_in (parts ++ more) ≡ steps_in parts ++ steps_in more
steps_on [] more = refl
steps_on (part ∷ parts) more = ap (λ ss. part.1 ++ ss) (steps_on parts more) ∙ sym (append_assoc part.1 (steps_in parts) (steps_in more))

onto_more : (given : Option Order) (xs ys : List Order) → onto_given given (xs ++ ys) ≡ onto_given given xs ++ ys
onto_more None xs ys = refl
onto_more (Some given) xs ys = refl

pub carried_on : (parts more : List (Option Order × List Step)) → carried_in (parts ++ more) ≡ carried_in parts ++ carried_in more
carried_on [] more = refl
carried_on (part ∷ parts) more = ap (onto_given part.0) (carried_on parts more) ∙ onto_more part.0 (carried_in parts) (carried_in more)

parts_on : (o : Outside) (s : Base) (parts more : List (Option Order × List Step)) → AreParts o s parts → AreParts o (replay o.meaning s (steps_in parts)) more → AreParts o s (parts ++ more)
parts_on o s [] more are others = others
parts_on o s (part ∷ parts) more are others = (
  are.0,
  parts_on o (replay o.meaning s part.1) parts more are.1 (subst (λ (t : Base). AreParts o t more) (replay-append o.meaning s part.1 (steps_in parts)) others),
)

-- ---- a run goes on

pub few_parts : (left : Option ℕ) (parts more : List (Option Order × List Step)) → IfSome left (λ most. length (steps_in parts) ≤ most) → IfSome (left_behind left (length (steps_in parts))) (λ most. length (steps_in more) ≤ most) → IfSome left (λ most. length (steps_in (parts ++ more)) ≤ most)
few_parts left parts more one others = subst (λ (ss : List Step). IfSome left (λ most. length ss ≤ most)) (sym (steps_on parts more)) (few_lists left (steps_in parts) (steps_in more) one others)

pub own_parts : (o : Outside) (s t : Base) (parts more : List (Option Order × List Step)) → IsSealOf (replay o.meaning s (steps_in parts)) t → AreParts o s parts → AreParts o t more → AreParts o s (parts ++ more)
own_parts o s t parts more seal one others = parts_on o s parts more one (parts_whole o (replay o.meaning s (steps_in parts)) t more seal others)

-- why it ends, behind others
pub ends_on : (o : Outside) (left : Option ℕ) (s t : Base) (front made : List Step) (by : OrdersEnd) (xs given carried : List Order) (rest : List Step) (why : TurnsEnd) → IfSome left (λ most. length front ≤ most) → IsSealOf (replay o.meaning s front) t
    → RunEnds o (left_behind left (length front)) t made by given carried rest why → RunEnds o left s (front ++ made) by (xs ++ given) (xs ++ carried) rest why
ends_on o left s t front made by xs given carried rest why few seal (inl (none, same, read, ends)) = inl (none, ap (λ os. xs ++ os) same, read, ends_further o left s t front made why few seal ends)
ends_on o left s t front made by xs given carried rest why few seal (inr (inl (none, stop, is))) = inr (inl (none, ap (λ os. xs ++ os) stop ∙ sym (append_assoc xs carried (order.Stop ∷ [])), is))
ends_on o left s t front made by xs given carried rest why few seal (inr (inr (inl (next, same, within)))) =
    inr (inr (inl (
      next,
      ap (λ os. xs ++ os) same ∙ sym (append_assoc xs carried (next ∷ [])),
      record {
        here = within.here;
        opening = within.opening;
        left_is = within.left_is ∙ left_lists left front made;
        state = subst (λ (b : Base). IsSealOf b within.here.state) (sym (replay-append o.meaning s front made)) (seals_on (replay o.meaning (replay o.meaning s front) made) (replay o.meaning t made) within.here.state (seals o.meaning (replay o.meaning s front) t made seal) within.state);
        drains = within.drains;
      },
    )))
ends_on o left s t front made by xs given carried rest why few seal (inr (inr (inr (none, same, is, failed)))) = inr (inr (inr (none, ap (λ os. xs ++ os) same, is, failed)))

-- ---- an order's steps

-- steps that a drain makes are stamped, and no more than may be
stamped_drains : (o : Outside) (p : Place) (steps : List Step) (why : TurnsEnd) → Drains o p steps why → AreOwnFrom o.meaning (λ t step. IsStamped o.clock t step) p.state steps
stamped_drains o p [] why drains = tt
stamped_drains o p (step ∷ steps) why (made, drains) = (made.due.moment, stamps_whole o (after o.meaning p.state step) (behind o p step).state steps (is_behind o p step).state (stamped_drains o (behind o p step) steps why drains))

few_drains : (o : Outside) (p : Place) (steps : List Step) (why : TurnsEnd) → Drains o p steps why → IfSome p.left (λ most. length steps ≤ most)
few_drains o p [] why drains = none p.left
  where
    none : (l : Option ℕ) → IfSome l (λ most. 0 ≤ most)
    none None = tt
    none (Some n) = omega arith
few_drains o p (step ∷ steps) why (made, drains) = more p.left (is_behind o p step).left made.due.left (few_drains o (behind o p step) steps why drains)
  where
    more : (l : Option ℕ) → (behind o p step).left ≡ option_map (λ n. n - 1) l → l ≢ Some 0 → IfSome (behind o p step).left (λ most. length steps ≤ most) → IfSome l (λ most. suc (length steps) ≤ most)
    more None is some few = tt
    more (Some zero) is some few = absurd (some refl)
    more (Some (suc n)) is some few = let less = subst (λ (l : Option ℕ). IfSome l (λ most. length steps ≤ most)) is few in omega (arith, less)

-- an order was carried out
pub obeyed : {D R : Type 0} {disk : D → DiskView} (o : Outside) (left : Option ℕ) (old new : BookView D R) (given : Order) (opening : List StepKind) (result : Result (Option ℕ) TurnsEnd) → opening ≡ kinds_of o.meaning old.state given → IsOpened disk o (place_with opening old left) [] old new result
    → IsObeyed disk o left old new given result
obeyed {disk = disk} o left old new given opening (Ok now) is opened =
    let drains = subst (λ (ss : List Step). Drains o (place_with opening old left) ss last.Memory) (append-nil opened.made) (opened.opens [] last.Memory tt) in
    record {
      made = opened.made;
      goes_on = opened.goes_on;
      came = (
        record { kinds_are = sym (append-nil (map (λ (step : Step). step.what) opened.made)) ∙ sym opened.kinds ∙ is; stamped = stamped_drains o (place_with opening old left) opened.made last.Memory drains },
        few_drains o (place_with opening old left) opened.made last.Memory drains,
        opened.left,
      );
    }
obeyed o left old new given opening (Err why) is opened =
    record { made = opened.made; goes_on = opened.goes_on; came = subst (λ (ks : List StepKind). Drains o (place_with ks old left) opened.made why) is opened.opens }
