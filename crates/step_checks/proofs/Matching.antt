-- What a step carries, by what its bot gave.
use Rattle.std.proofs.Common.{◌≡◌, ◌↔◌, ◌++◌, ◌==◌, ℕ, Bool, true, false, List, Option, Some, None, IsSome, refl, sym, subst, ◌∙◌}
use Rattle.base_types.specs.declared.message.FaultNote.{FaultNote}
use Rattle.stored_types.specs.declared.hand.Hand.{Hand}
use Rattle.step_code.specs.declared.base.Base.{Base}
use Rattle.step_code.specs.declared.rules.Given.{Given}
use Rattle.step_code.specs.declared.rules.Given.TheVariants as given
use Rattle.step_code.specs.Content.{IsFault, IsResult}
use Rattle.step_code.specs.Fits.{first_failing, in_hand_parts, Part}
use Rattle.step_code.specs.Rules.{Meaning}
use Rattle.step_code.specs.State.{bots_in_force, hand_of, is_instance}
use Rattle.bot_works.specs.Given.{IsGivenOf}
use Rattle.bot_works.proofs.Gave.{given_of}
use Rattle.step_checks.specs.Carried.{IsPassOf}

-- a full hand, and what its bot gave of it
record Gave (m : Meaning) (s : Base) (bot : List ℕ) (i : ℕ) (g : Given) : Type 0 where
  pub hand : Hand
  pub holds : hand_of bot i s ≡ Some hand
  pub gives : given_of m s bot hand ≡ g

gave : (m : Meaning) (s : Base) (bot : List ℕ) (i : ℕ) (g : Given) → IsSome (hand_of bot i s) → IsGivenOf m s bot i g → Gave m s bot i g
gave m s bot i g full is = go (hand_of bot i s) refl full
  where
    go : (o : Option Hand) → hand_of bot i s ≡ o → IsSome o → Gave m s bot i g
    go None at some = absurd (cc)
    go (Some hand) at some = record { hand = hand; holds = at; gives = is hand at }

-- where a step fits that needs a message in the instance's hand, the hand is full
pub full_by : (m : Meaning) (s : Base) (bot : List ℕ) (i message bundle : ℕ) (rest : List Part) → first_failing (in_hand_parts m s bot i message bundle ++ rest) ≡ None → IsSome (hand_of bot i s)
full_by m s bot i message bundle rest = go (hand_of bot i s) refl (is_instance (bots_in_force m s) bot i) refl (bundle == s.bundle_no) refl
  where
    go : (o : Option Hand) → hand_of bot i s ≡ o → (live : Bool) → is_instance (bots_in_force m s) bot i ≡ live → (same : Bool) → (bundle == s.bundle_no) ≡ same → first_failing (in_hand_parts m s bot i message bundle ++ rest) ≡ None → IsSome o
    go (Some hand) holds live lives same is fits = refl
    go None holds false lives same is fits = absurd (cc (rw (lives) at fits))
    go None holds true lives false is fits = absurd (cc (rw (lives, is) at fits))
    go None holds true lives true is fits = absurd (cc (rw (lives, is, holds) at fits))

-- what it carries is what was given
pub results : (m : Meaning) (s : Base) (bot : List ℕ) (i now : ℕ) (g : Given) (sends : List (List ℕ × List ℕ)) (dumps : List (List ℕ × FaultNote)) (key : Option (List ℕ)) (line : Bool) → IsSome (hand_of bot i s) → IsGivenOf m s bot i g
    → IsPassOf m s bot now g sends dumps key line ↔ IsResult m s bot i now sends dumps key line
results m s bot i now g sends dumps key line full is = (to g is, λ r. back r g (sym (is r.hand r.holds) ∙ r.gives))
  where
    to : (h : Given) → IsGivenOf m s bot i h → IsPassOf m s bot now h sends dumps key line → IsResult m s bot i now sends dumps key line
    to (given.Pass given_sends given_dumps given_key given_line) is pass =
        let there = gave m s bot i (given.Pass given_sends given_dumps given_key given_line) full is in
        record {
          hand = there.hand;
          holds = there.holds;
          given_sends = given_sends;
          given_key = given_key;
          gives = there.gives ∙ cc (pass.0, pass.1);
          carries = pass.2;
        }
    to (given.Fault note) is pass = absurd pass

    back : (r : IsResult m s bot i now sends dumps key line) → (h : Given) → h ≡ given.Pass r.given_sends dumps r.given_key line → IsPassOf m s bot now h sends dumps key line
    back r h at = subst (λ (x : Given). IsPassOf m s bot now x sends dumps key line) (sym at) (refl, refl, r.carries)

-- the fault is the one that was given
pub faults : (m : Meaning) (s : Base) (bot : List ℕ) (i : ℕ) (g : Given) (note : FaultNote) → IsSome (hand_of bot i s) → IsGivenOf m s bot i g → (g ≡ given.Fault note) ↔ IsFault m s bot i note
faults m s bot i g note full is = (λ at. let there = gave m s bot i g full is in record { hand = there.hand; holds = there.holds; gives = there.gives ∙ at }, λ f. sym (is f.hand f.holds) ∙ f.gives)
