-- Steps of a generation that pass a test and are replayed, body after body.
use Rattle.std.proofs.Common.{◌≡◌, ◌≤◌, ◌<◌, ◌+◌, ◌==◌, ℕ, Bool, true, false, List, [], ◌∷◌, ◌++◌, length, take, drop, get_or, refl, sym, ap, subst, ◌∙◌, arith, append_assoc, length-append}
use Rattle.std.specs.List.{AllByRecursion}
use Rattle.std.proofs.lemmas.Bool.{eqb-true, eqb-false}
use Rattle.std.proofs.lemmas.List.{nil_from_length}
use Rattle.disk_journal.specs.GateFile.{open_records}
use Rattle.disk_journal.specs.declared.journal.JournalFault.{JournalFault}
use Rattle.disk_journal.specs.declared.journal.JournalFault.TheVariants as fault
use Rattle.step_code.specs.declared.base.Base.{Base}
use Rattle.step_code.specs.declared.step.Step.{Step}
use Rattle.step_code.specs.Code.{code_of_step, IsWritable}
use Rattle.step_code.specs.History.{replay}
use Rattle.step_code.specs.Rules.{Meaning}
use Rattle.ack_steps.specs.Core.{CoreView}
use Rattle.store_image.specs.Damage.{BeginsWithNone, HoldNoSteps, IsNoStep, StopAt, StopsAt}
use Rattle.store_image.specs.Opens.{AreAlong, IsReplayable}
use Rattle.store_image.specs.Stored.{codes_of, AreRecords}
use Rattle.store_image.proofs.Standing.{records_more, replay-append}
use Rattle.store_image.proofs.Stops.{along_more}
use Rattle.store_image.proofs.Stored.{step_is_long}
use Rattle.generation_reading.specs.Reading.{BeginsWith, HoldsAlong, IsBodyFault}
use Rattle.generation_reading.proofs.Bodies.{behind_more, split_there, taken_more}
use Rattle.generation_reading.proofs.Decoded.{all_taken, codes_one_more, taken_on, HasTaken}

pub none_left : (bytes rest : List ℕ) (is : Bool) → bytes ≡ rest → is ≡ (length bytes == 0) → is ≡ true → rest ≡ []
none_left bytes rest is same test holds = nil_from_length rest (ap length (sym same) ∙ eqb-true (length bytes) 0 (sym test ∙ holds))

pub some_left : (bytes rest : List ℕ) (is : Bool) → bytes ≡ rest → is ≡ (length bytes == 0) → is ≡ false → rest ≡ [] → ⊥
some_left bytes rest is same test fails none = eqb-false (length bytes) 0 (sym test ∙ fails) (ap length (same ∙ none))

-- a core that replays more
pub core_on : {R : Type 0} (m : Meaning) (first old new : CoreView R) (front more : List Step) → old ≡ record first { state = replay m first.state front } → new ≡ record old { state = replay m old.state more }
    → new ≡ record first { state = replay m first.state (front ++ more) }
core_on {R} m first old new front more was is =
    is ∙ ap (on more) was ∙ ap at (sym (replay-append m first.state front more))
  where
    on : List Step → CoreView R → CoreView R
    on steps c = record c { state = replay m c.state steps }

    at : Base → CoreView R
    at s = record first { state = s }

pub steps_on : (first old new front more : List Step) → old ≡ first ++ front → new ≡ old ++ more → new ≡ first ++ (front ++ more)
steps_on first old new front more was is = is ∙ ap (λ ss. ss ++ more) was ∙ append_assoc first front more

-- a front of a body holds these steps, and the rest begins at this offset
pub record HasReplayed (m : Meaning) (is : Base → Step → Type 0) (s : Base) (body : List ℕ) (start : ℕ) (rest : List ℕ) (at : ℕ) (front : List Step) : Type 0 where
  pub coded : AllByRecursion IsWritable front
  pub pass : AreAlong m is s front
  pub code : body ≡ codes_of front ++ rest
  pub goes_on : rest ≡ [] → front ≡ []
  pub place : at ≡ start + length (codes_of front)

module _ (m : Meaning) (is : Base → Step → Type 0) (s : Base) (body : List ℕ) (start : ℕ) (rest : List ℕ) (at : ℕ) (front : List Step) (was : HasReplayed m is s body start rest at front) where
  pub no_step_behind : BeginsWithNone is (replay m s front) rest → (offset : ℕ) × (at ≡ start + offset) × StopsAt m is s body offset
  no_step_behind none = (length (codes_of front), was.place, record { front = front; behind = rest; coded = was.coded; pass = was.pass; code = was.code; goes_on = was.goes_on; bad = none; place = refl })

  module _ (step : Step) (len : ℕ) (found : BeginsWith is (replay m s front) rest step len) where
    pub step_within : len ≤ length rest
    step_within = omega (arith, found.size, ap length found.code, length-append (code_of_step step) found.rest)

    pub step_long : 9 ≤ len
    step_long = omega (arith, found.size, step_is_long step)

    pub at_within : at + len ≤ start + length body
    at_within = omega (arith, step_within, was.place, ap length was.code, length-append (codes_of front) rest)

    taken : HasTaken body (drop len rest) (front ++ step ∷ [])
    taken = taken_on body rest front (record { coded = was.coded; code = was.code }) step len (record { rest = found.rest; writable = found.writable; code = found.code; size = found.size })

    pass_more : AreAlong m is s (front ++ step ∷ [])
    pass_more = along_more m is s front (step ∷ []) was.pass (found.passes, tt)

    pub replayed_on : (drop len rest ≡ [] → ⊥) → HasReplayed m is s body start (drop len rest) (at + len) (front ++ step ∷ [])
    replayed_on goes = record {
      coded = taken.coded;
      pass = pass_more;
      code = taken.code;
      goes_on = λ none. absurd (goes none);
      place = omega (arith, was.place, found.size, ap length (codes_one_more front step), length-append (codes_of front) (code_of_step step));
    }

    pub replayed_all : drop len rest ≡ [] → HoldsAlong m is s body (front ++ step ∷ [])
    replayed_all none = record {
      record_is = all_taken body (drop len rest) front step taken none;
      pass = pass_more;
    }

-- ---- bodies

-- these bodies hold these steps, and the next gate stands at this offset
pub record HaveReplayed (m : Meaning) (is : Base → Step → Type 0) (s : Base) (start : ℕ) (front : List (List ℕ)) (at : ℕ) (steps : List Step) : Type 0 where
  pub content : AreRecords front steps
  pub pass : AreAlong m is s steps
  pub place : at ≡ start + length (open_records front)

module _ (m : Meaning) (is : Base → Step → Type 0) (s : Base) (start : ℕ) (front : List (List ℕ)) (at : ℕ) (steps : List Step) (was : HaveReplayed m is s start front at steps) (body : List ℕ) where
  pub replayed_body : (more : List Step) → HoldsAlong m is (replay m s steps) body more → HaveReplayed m is s start (front ++ body ∷ []) (at + (9 + length body)) (steps ++ more)
  replayed_body more holds = record {
    content = records_more front steps body more was.content holds.record_is;
    pass = along_more m is s steps more was.pass holds.pass;
    place = omega (arith, was.place, behind_more front body);
  }

  pub stop_there : (bodies later : List (List ℕ)) (offset place : ℕ) → bodies ≡ front ++ body ∷ later → StopsAt m is (replay m s steps) body offset → place ≡ at + 9 + offset → StopAt m is s start bodies place
  stop_there bodies later offset place splits bad is =
      record { before = front; body = body; later = later; steps = steps; offset = offset; splits = splits; content = was.content; pass = was.pass; bad = bad; place = omega (arith, is, was.place) }

-- the next body holds these steps
pub bodies_on : {R : Type 0} (m : Meaning) (is : Base → Step → Type 0) (first old new : CoreView R) (start at : ℕ) (bodies : List (List ℕ)) (i : ℕ) (item bytes : List ℕ) (steps more now : List Step) → i < length bodies → item ≡ get_or bodies i item → bytes ≡ item
    → HaveReplayed m is first.state start (take i bodies) at steps → old ≡ record first { state = replay m first.state steps } → HoldsAlong m is old.state bytes more → new ≡ record old { state = replay m old.state more } → now ≡ steps ++ more
    → HaveReplayed m is first.state start (take (i + 1) bodies) (at + (9 + length bytes)) now × (new ≡ record first { state = replay m first.state now })
bodies_on {R} m is first old new start at bodies i item bytes steps more now inside there same was core_was holds core_is now_is =
    let found : HoldsAlong m is (replay m first.state steps) item more = subst (λ (b : List ℕ). HoldsAlong m is (replay m first.state steps) b more) same (subst (λ (s : Base). HoldsAlong m is s bytes more) (ap (λ (c : CoreView R). c.state) core_was) holds) in
    let next = replayed_body m is first.state start (take i bodies) at steps was item more found in
    let at_front = subst (λ (front : List (List ℕ)). HaveReplayed m is first.state start front (at + (9 + length item)) (steps ++ more)) (sym (taken_more bodies i item inside there)) next in
    let at_length = subst (λ (n : ℕ). HaveReplayed m is first.state start (take (i + 1) bodies) (at + (9 + n)) (steps ++ more)) (sym (ap length same)) at_front in (
      subst (λ (ss : List Step). HaveReplayed m is first.state start (take (i + 1) bodies) (at + (9 + length bytes)) ss) (sym now_is) at_length,
      subst (λ (ss : List Step). new ≡ record first { state = replay m first.state ss }) (sym now_is) (core_on m first old new steps more core_was core_is),
    )

-- the next body holds no steps
pub bodies_end : {R : Type 0} (m : Meaning) (first old : CoreView R) (start at : ℕ) (bodies : List (List ℕ)) (i : ℕ) (item bytes : List ℕ) (steps : List Step) (e : JournalFault) → i < length bodies → item ≡ get_or bodies i item → bytes ≡ item
    → HaveReplayed m (IsReplayable m) first.state start (take i bodies) at steps → old ≡ record first { state = replay m first.state steps }
    → IsBodyFault (λ place. (offset : ℕ) × (place ≡ at + 9 + offset) × IsNoStep m old.state bytes offset) e → IsBodyFault (HoldNoSteps m first.state start bodies) e
bodies_end {R} m first old start at bodies i item bytes steps (fault.Damaged place) inside is same was core_was (offset, place_is, bad) =
    stop_there m (IsReplayable m) first.state start (take i bodies) at steps was item bodies (drop (i + 1) bodies) offset place (split_there bodies i item inside is)
    (subst (λ (b : List ℕ). IsNoStep m (replay m first.state steps) b offset) same (subst (λ (s : Base). IsNoStep m s bytes offset) (ap (λ (c : CoreView R). c.state) core_was) bad))
    place_is
bodies_end {R} m first old start at bodies i item bytes steps fault.Disk inside is same was core_was none = none
bodies_end {R} m first old start at bodies i item bytes steps fault.OutOfMemory inside is same was core_was told = tt
