-- Steps and histories of states of which one has more lines of its outputs sealed.
use Rattle.std.proofs.Common.{◌≡◌, ◌↔◌, ◌+◌, ℕ, Bool, Option, Some, List, [], ◌∷◌, None, refl, sym, ap, ap₂, subst, ◌∙◌, ◌-◌, find, map, min}
use Rattle.base_types.specs.Number.{last_u64}
use Rattle.step_code.specs.declared.base.Base.{Base}
use Rattle.step_code.specs.declared.output.Output.{Output}
use Rattle.step_code.specs.declared.step.Step.{Step}
use Rattle.step_code.specs.declared.step.StepKind.{StepKind}
use Rattle.step_code.specs.declared.step.StepKind.TheVariants as kind
use Rattle.step_code.specs.After.{after}
use Rattle.step_code.specs.declared.rules.CacheRule.{CacheRule}
use Rattle.stored_types.specs.declared.mark.Mark.{Mark}
use Rattle.stored_types.specs.Mark.{is_marked}
use Rattle.step_code.specs.After.{cache_rule}
use Rattle.step_code.specs.Content.{is_duplicate, live_marks, Carries, Matches, May}
use Rattle.step_code.specs.Fits.{first_failing, parts}
use Rattle.step_code.specs.History.{replay, Legal}
use Rattle.step_code.specs.Rules.{passes, Meaning}
use Rattle.step_code.specs.Spent.{is_past, numbers_brought, spent, up_to_spent, NothingIsSpent}
use Rattle.step_code.specs.State.{bots_of}
use Rattle.store_image.specs.Stands.{AreSealedFrom, IsSealOf}
use Rattle.store_image.proofs.Acted.{acted_outs, new_outs, outs_as, own_outs}
use Rattle.store_image.proofs.Sealed.{as_many, same_lengths, sealed_new, sealed_on, sealed_self, sealed_written}

-- ---- which steps may be taken

same_parts : (m : Meaning) (s : Base) (outs : List Output) (what : StepKind) → parts m s what ≡ parts m (outs_as s outs) what
same_parts m s outs kind.Start = refl
same_parts m s outs (kind.Collect bot from upto piece) = refl
same_parts m s outs (kind.FeedEnd bot position) = refl
same_parts m s outs (kind.Take bot instance message) = refl
same_parts m s outs (kind.Done bot instance message bundle sends dumps key line) = refl
same_parts m s outs (kind.Retry bot instance message bundle fault) = refl
same_parts m s outs (kind.Fail bot instance message bundle fault queues halts) = refl
same_parts m s outs (kind.Reload bundle) = refl
same_parts m s outs (kind.Redo dump) = refl
same_parts m s outs (kind.Round bot) = refl

same_marks : (rule : Option CacheRule) (bot : List ℕ) (now : ℕ) (s : Base) (outs : List Output) → live_marks rule bot now s ≡ live_marks rule bot now (outs_as s outs)
same_marks None bot now s outs = refl
same_marks (Some rule) bot now s outs = refl

same_duplicate : (m : Meaning) (s : Base) (outs : List Output) (bot : List ℕ) (now : ℕ) (key : Option (List ℕ)) → is_duplicate m s bot now key ≡ is_duplicate m (outs_as s outs) bot now key
same_duplicate m s outs bot now key = ap (λ (marks : List Mark). passes (λ k. is_marked k marks) key) (same_marks (cache_rule m s bot) bot now s outs)

same_match : (m : Meaning) (s : Base) (outs : List Output) (now : ℕ) (what : StepKind) → Matches m s now what → Matches m (outs_as s outs) now what
same_match m s outs now kind.Start is = is
same_match m s outs now (kind.Collect bot from upto piece) is = is
same_match m s outs now (kind.FeedEnd bot position) is = is
same_match m s outs now (kind.Take bot instance message) is = is
same_match m s outs now (kind.Done bot instance message bundle sends dumps key line) is =
    record { hand = is.hand; holds = is.holds; given_sends = is.given_sends; given_key = is.given_key; gives = is.gives; carries = subst (λ (b : Bool). Carries b is.given_sends is.given_key sends key) (same_duplicate m s outs bot now is.given_key) is.carries }
same_match m s outs now (kind.Retry bot instance message bundle fault) is = record { hand = is.hand; holds = is.holds; gives = is.gives }
same_match m s outs now (kind.Fail bot instance message bundle fault queues halts) is =
    record { gave = record { hand = is.gave.hand; holds = is.gave.holds; gives = is.gave.gives }; goes = is.goes; halting = is.halting }
same_match m s outs now (kind.Reload bundle) is = is
same_match m s outs now (kind.Redo dump) is = is
same_match m s outs now (kind.Round bot) is = is

may_with : (m : Meaning) (s : Base) (outs : List Output) (step : Step) → May m s step → May m (outs_as s outs) step
may_with m s outs step may = record {
  fits = subst (λ ps. first_failing ps ≡ None) (same_parts m s outs step.what) may.fits;
  content = record { time = record { order = may.content.time.order; limit = may.content.time.limit }; what = same_match m s outs step.moment.0 step.what may.content.what };
}

pub same_steps : (m : Meaning) (whole sealed : Base) (step : Step) → IsSealOf whole sealed → May m whole step ↔ May m sealed step
same_steps m whole sealed step seal = (
  λ may. subst (λ (s : Base). May m s step) (sym seal.same) (may_with m whole sealed.outs step may),
  λ may. may_with m (outs_as whole sealed.outs) whole.outs step (subst (λ (s : Base). May m s step) seal.same may),
)

-- ---- what a step leads to

sealed_outs : (m : Meaning) (s : Base) (what : StepKind) (ws os : List Output) → AreSealedFrom ws os → AreSealedFrom (new_outs m s what ws) (new_outs m s what os)
sealed_outs m s kind.Start ws os seal = seal
sealed_outs m s (kind.Collect bot from upto piece) ws os seal = seal
sealed_outs m s (kind.FeedEnd bot position) ws os seal = seal
sealed_outs m s (kind.Take bot instance message) ws os seal = seal
sealed_outs m s (kind.Done bot instance message bundle sends dumps key line) ws os seal = sealed_written line bot _ ws os seal
sealed_outs m s (kind.Retry bot instance message bundle fault) ws os seal = seal
sealed_outs m s (kind.Fail bot instance message bundle fault queues halts) ws os seal = seal
sealed_outs m s (kind.Reload bundle) ws os seal = sealed_new (bots_of m bundle) ws os seal
sealed_outs m s (kind.Redo dump) ws os seal = seal
sealed_outs m s (kind.Round bot) ws os seal = seal

-- a step is counted
abbrev counted : Base → Step → Base
counted s step = record s { steps = s.steps + 1; latest = step.moment }

pub seal_kept : (m : Meaning) (whole sealed : Base) (step : Step) → IsSealOf whole sealed → IsSealOf (after m whole step) (after m sealed step)
seal_kept m whole sealed step seal =
    let from = counted whole step in
    let outs = new_outs m from step.what sealed.outs in
    let is : after m sealed step ≡ outs_as (after m whole step) outs = ap (λ s. after m s step) seal.same ∙ acted_outs m step.moment from step.what sealed.outs in
    let now : AreSealedFrom (after m whole step).outs outs = subst (λ ws. AreSealedFrom ws outs) (sym (own_outs m step.moment from step.what)) (sealed_outs m from step.what whole.outs sealed.outs seal.outs) in
    let outs_is : (after m sealed step).outs ≡ outs = ap (λ (s : Base). s.outs) is in
    record {
      outs = subst (λ os. AreSealedFrom (after m whole step).outs os) (sym outs_is) now;
      same = is ∙ ap (λ os. outs_as (after m whole step) os) (sym outs_is);
    }

-- ---- sealing nothing, and sealing twice

pub seals_self : (s : Base) → IsSealOf s s
seals_self s = record { outs = sealed_self s.outs; same = refl }

pub seals_on : (a b c : Base) → IsSealOf a b → IsSealOf b c → IsSealOf a c
seals_on a b c x y = record { outs = sealed_on a.outs b.outs c.outs x.outs y.outs; same = y.same ∙ ap (λ (s : Base). outs_as s c.outs) x.same }

-- ---- the numbers that a step brings

same_numbers : (w o : Base) → IsSealOf w o → numbers_brought w ≡ numbers_brought o
same_numbers w o seal =
    ap₂ (λ (n : ℕ) (ls : List ℕ). w.steps ∷ up_to_spent (w.next_message - 1) ∷ up_to_spent (w.next_dump - 1) ∷ w.bundle_no ∷ (n - 1) ∷ ls) (as_many w.outs o.outs seal.outs) (same_lengths w.outs o.outs seal.outs)
    ∙ sym (ap numbers_brought seal.same)

pub same_spent : (m : Meaning) (whole sealed : Base) (step : Step) → IsSealOf whole sealed → spent m whole step ≡ spent m sealed step
same_spent m whole sealed step seal = ap (λ (ns : List ℕ). find is_past (map (λ n. min n last_u64) ns)) (same_numbers (after m whole step) (after m sealed step) (seal_kept m whole sealed step seal))

-- ---- histories

pub seals : (m : Meaning) (whole sealed : Base) (steps : List Step) → IsSealOf whole sealed → IsSealOf (replay m whole steps) (replay m sealed steps)
seals m whole sealed [] seal = seal
seals m whole sealed (step ∷ steps) seal = seals m (after m whole step) (after m sealed step) steps (seal_kept m whole sealed step seal)

pub legal_sealed : (m : Meaning) (whole sealed : Base) (steps : List Step) → IsSealOf whole sealed → Legal m whole steps → Legal m sealed steps
legal_sealed m whole sealed [] seal legal = legal
legal_sealed m whole sealed (step ∷ steps) seal legal =
    ((same_steps m whole sealed step seal).0 legal.0, legal_sealed m (after m whole step) (after m sealed step) steps (seal_kept m whole sealed step seal) legal.1)

pub legal_whole : (m : Meaning) (whole sealed : Base) (steps : List Step) → IsSealOf whole sealed → Legal m sealed steps → Legal m whole steps
legal_whole m whole sealed [] seal legal = legal
legal_whole m whole sealed (step ∷ steps) seal legal =
    ((same_steps m whole sealed step seal).1 legal.0, legal_whole m (after m whole step) (after m sealed step) steps (seal_kept m whole sealed step seal) legal.1)

pub small_sealed : (m : Meaning) (whole sealed : Base) (steps : List Step) → IsSealOf whole sealed → NothingIsSpent m whole steps → NothingIsSpent m sealed steps
small_sealed m whole sealed [] seal small = small
small_sealed m whole sealed (step ∷ steps) seal small =
    (sym (same_spent m whole sealed step seal) ∙ small.0, small_sealed m (after m whole step) (after m sealed step) steps (seal_kept m whole sealed step seal) small.1)

pub small_whole : (m : Meaning) (whole sealed : Base) (steps : List Step) → IsSealOf whole sealed → NothingIsSpent m sealed steps → NothingIsSpent m whole steps
small_whole m whole sealed [] seal small = small
small_whole m whole sealed (step ∷ steps) seal small =
    (same_spent m whole sealed step seal ∙ small.0, small_whole m (after m whole step) (after m sealed step) steps (seal_kept m whole sealed step seal) small.1)

pub same_histories : (m : Meaning) (whole sealed : Base) (steps : List Step) → IsSealOf whole sealed
    → (Legal m whole steps ↔ Legal m sealed steps) × (NothingIsSpent m whole steps ↔ NothingIsSpent m sealed steps) × IsSealOf (replay m whole steps) (replay m sealed steps)
same_histories m whole sealed steps seal = (
  (legal_sealed m whole sealed steps seal, legal_whole m whole sealed steps seal),
  (small_sealed m whole sealed steps seal, small_whole m whole sealed steps seal),
  seals m whole sealed steps seal,
)
