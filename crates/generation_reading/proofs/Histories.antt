-- The history that a generation's bodies hold.
use Rattle.std.proofs.Common.{◌≡◌, ◌≤◌, ◌+◌, ◌-◌, inr, ℕ, List, [], ◌∷◌, length, take, drop, get_or, sym, ap, subst, ◌∙◌, arith}
use Rattle.std.proofs.lemmas.List.{take_all}
use Rattle.disk_journal.specs.declared.journal.JournalFault.{JournalFault}
use Rattle.disk_journal.specs.declared.journal.JournalFault.TheVariants as fault
use Rattle.step_code.specs.declared.base.Base.{Base}
use Rattle.step_code.specs.Code.{code_of_base, first_format}
use Rattle.step_code.specs.Rules.{Meaning}
use Rattle.store_image.specs.Damage.{behind_bodies, AreNoHistory, HoldNoSteps}
use Rattle.generation_reading.specs.Reading.{IsBase, IsBodyFault}
use Rattle.generation_reading.proofs.Bodies.{behind_more}

-- behind a first body that is a state, the others hold no steps
pub no_steps_there : (m : Meaning) (bodies : List (List ℕ)) (item body : List ℕ) (base s : Base) (e : JournalFault) → 1 ≤ length bodies → item ≡ get_or bodies 0 item → body ≡ item → IsBase m body base → s ≡ base
    → IsBodyFault (HoldNoSteps m s (25 + length body) (take (length bodies - 1) (drop 1 bodies))) e → IsBodyFault (AreNoHistory m bodies) e
no_steps_there m [] item body base s e some is same found state bad = absurd (omega (arith, some))
no_steps_there m (one ∷ others) item body base s fault.Disk some is same found state bad = bad
no_steps_there m (one ∷ others) item body base s fault.OutOfMemory some is same found state bad = tt
no_steps_there m (one ∷ others) item body base s (fault.Damaged at) some is same found state bad =
    let code = code_of_base first_format base in
    let rest : take (length (one ∷ others) - 1) others ≡ others = take_all (length (one ∷ others) - 1) others (omega arith) in
    let first : one ≡ code = sym is ∙ sym same ∙ found.code in
    let start : 25 + length body ≡ behind_bodies (code ∷ []) = omega (arith, ap length found.code, behind_more [] code) in
    inr (inr (record {
      base = base;
      records = others;
      splits = ap (λ b. b ∷ others) first;
      writable = found.writable;
      sound = found.sound;
      bad = subst (λ (b : Base). HoldNoSteps m b (behind_bodies (code ∷ [])) others at) state
          (subst (λ (n : ℕ). HoldNoSteps m s n others at) start (subst (λ (bs : List (List ℕ)). HoldNoSteps m s (25 + length body) bs at) rest bad));
    }))
