-- Where bodies stop to hold steps that pass a test is one place, and none where they all do.
use Rattle.std.proofs.Common.{◌≡◌, ◌≤◌, ℕ, List, [], ◌∷◌, ◌++◌, length, refl, sym, ap, subst, ◌∙◌, arith, append_assoc, length-append}
use Rattle.std.specs.List.{AllByRecursion}
use Rattle.stored_types.proofs.Readers.{one_code}
use Rattle.step_code.specs.declared.base.Base.{Base}
use Rattle.step_code.specs.declared.step.Step.{Step}
use Rattle.step_code.specs.After.{after}
use Rattle.step_code.specs.Code.{code_of_step, IsWritable}
use Rattle.step_code.specs.History.{replay}
use Rattle.step_code.specs.Rules.{Meaning}
use Rattle.step_code.proofs.StepLaws.{step_law}
use Rattle.store_image.specs.Damage.{BeginsWithNone, StopsAt}
use Rattle.store_image.specs.Opens.{AreAlong}
use Rattle.store_image.specs.Stored.{codes_of, AreRecords, IsRecord}
use Rattle.store_image.proofs.Standing.{replay-append}
use Rattle.store_image.proofs.Stored.{codes_are_one, step_is_long}

along_parts : (m : Meaning) (is : Base → Step → Type 0) (s : Base) (front rest : List Step) → AreAlong m is s (front ++ rest) → AreAlong m is s front × AreAlong m is (replay m s front) rest
along_parts m is s [] rest all = (tt, all)
along_parts m is s (step ∷ front) rest all = let more = along_parts m is (after m s step) front rest all.1 in ((all.0, more.0), more.1)

pub along_more : (m : Meaning) (is : Base → Step → Type 0) (s : Base) (front more : List Step) → AreAlong m is s front → AreAlong m is (replay m s front) more → AreAlong m is s (front ++ more)
along_more m is s [] more all then = then
along_more m is s (step ∷ front) more all then = (all.0, along_more m is (after m s step) front more all.1 then)

-- ---- one body

long_codes : (step : Step) (steps : List Step) (behind : List ℕ) → 9 ≤ length (codes_of (step ∷ steps) ++ behind)
long_codes step steps behind = omega (arith, length-append (codes_of (step ∷ steps)) behind, length-append (code_of_step step) (codes_of steps), step_is_long step)

codes_split : (step : Step) (steps : List Step) (behind : List ℕ) → codes_of (step ∷ steps) ++ behind ≡ code_of_step step ++ (codes_of steps ++ behind)
codes_split step steps behind = append_assoc (code_of_step step) (codes_of steps) behind

-- where a body is the codes of steps, all of it is read before a place where no step stands
nothing_left : (m : Meaning) (is : Base → Step → Type 0) (s : Base) (front steps : List Step) (behind : List ℕ) → AllByRecursion IsWritable front → AllByRecursion IsWritable steps → AreAlong m is s steps → BeginsWithNone is (replay m s front) behind
    → codes_of front ++ behind ≡ codes_of steps → behind ≡ []
nothing_left m is s [] [] behind coded writable replays bad same = same
nothing_left m is s [] (step ∷ steps) behind coded writable replays bad same = absurd (bad step (codes_of steps) writable.0 same replays.0)
nothing_left m is s (step ∷ front) [] behind coded writable replays bad same = absurd (omega (arith, ap length same, long_codes step front behind))
nothing_left m is s (first ∷ front) (step ∷ steps) behind coded writable replays bad same =
    let apart = one_code step_law first step (codes_of front ++ behind) (codes_of steps) coded.0 writable.0 (sym (codes_split first front behind) ∙ same) in
    nothing_left m is (after m s step) front steps behind coded.1 writable.1 replays.1 (subst (λ (x : Step). BeginsWithNone is (replay m (after m s x) front) behind) apart.0 bad) apart.1

some_codes : (steps : List Step) → 1 ≤ length steps → [] ≡ codes_of steps → ⊥
some_codes [] some same = omega (arith, some)
some_codes (step ∷ steps) some same = omega (arith, ap length same, length-append (code_of_step step) (codes_of steps), step_is_long step)

pub record_holds : (m : Meaning) (is : Base → Step → Type 0) (s : Base) (body : List ℕ) (steps : List Step) (offset : ℕ) → IsRecord body steps → AreAlong m is s steps → StopsAt m is s body offset → ⊥
record_holds m is s body steps offset holds pass stops =
    let none = nothing_left m is s stops.front steps stops.behind stops.coded holds.writable pass stops.bad (sym stops.code ∙ holds.code) in
    some_codes steps holds.some (sym (stops.code ∙ (λ i. codes_of (stops.goes_on none i) ++ none i)) ∙ holds.code)

pub same_front : (m : Meaning) (is : Base → Step → Type 0) (s : Base) (front other : List Step) (x y : List ℕ) → AllByRecursion IsWritable front → AllByRecursion IsWritable other → AreAlong m is s front → AreAlong m is s other
    → BeginsWithNone is (replay m s front) x → BeginsWithNone is (replay m s other) y → codes_of front ++ x ≡ codes_of other ++ y → front ≡ other
same_front m is s [] [] x y coded_a coded_b replays_a replays_b bad_a bad_b same = refl
same_front m is s [] (step ∷ other) x y coded_a coded_b replays_a replays_b bad_a bad_b same = absurd (bad_a step (codes_of other ++ y) coded_b.0 (same ∙ codes_split step other y) replays_b.0)
same_front m is s (step ∷ front) [] x y coded_a coded_b replays_a replays_b bad_a bad_b same = absurd (bad_b step (codes_of front ++ x) coded_a.0 (sym same ∙ codes_split step front x) replays_a.0)
same_front m is s (a ∷ front) (b ∷ other) x y coded_a coded_b replays_a replays_b bad_a bad_b same =
    let apart = one_code step_law a b (codes_of front ++ x) (codes_of other ++ y) coded_a.0 coded_b.0 (sym (codes_split a front x) ∙ same ∙ codes_split b other y) in
    let rest = same_front m is (after m s b) front other x y coded_a.1 coded_b.1 (subst (λ (t : Step). AreAlong m is (after m s t) front) apart.0 replays_a.1) replays_b.1
    (subst (λ (t : Step). BeginsWithNone is (replay m (after m s t) front) x) apart.0 bad_a) bad_b apart.1 in
    (λ i. apart.0 i ∷ rest i)

no_step_once : (m : Meaning) (is : Base → Step → Type 0) (s : Base) (body : List ℕ) (offset other : ℕ) → StopsAt m is s body offset → StopsAt m is s body other → offset ≡ other
no_step_once m is s body offset other a b =
    let front = same_front m is s a.front b.front a.behind b.behind a.coded b.coded a.pass b.pass a.bad b.bad (sym a.code ∙ b.code) in
    a.place ∙ ap (λ steps. length (codes_of steps)) front ∙ sym b.place

-- ---- bodies one behind the other

-- behind bodies that hold steps which pass, none stands at this offset of the next
pub record Stop (m : Meaning) (is : Base → Step → Type 0) (s : Base) (before bodies : List (List ℕ)) (offset : ℕ) : Type 0 where
  pub body : List ℕ
  pub later : List (List ℕ)
  pub steps : List Step
  pub splits : bodies ≡ before ++ body ∷ later
  pub content : AreRecords before steps
  pub pass : AreAlong m is s steps
  pub bad : StopsAt m is (replay m s steps) body offset

-- the first body holds steps, and the others stop behind them
record StopBehind (m : Meaning) (is : Base → Step → Type 0) (s : Base) (first : List ℕ) (before bodies : List (List ℕ)) (offset : ℕ) : Type 0 where
  front : List Step
  here : IsRecord first front
  pass : AreAlong m is s front
  rest : List (List ℕ)
  splits : bodies ≡ first ∷ rest
  stop : Stop m is (replay m s front) before rest offset

module _ (m : Meaning) (is : Base → Step → Type 0) (s : Base) where
  stop_here : (bodies : List (List ℕ)) (offset : ℕ) (stop : Stop m is s [] bodies offset) → StopsAt m is s stop.body offset
  stop_here bodies offset stop = subst (λ (steps : List Step). StopsAt m is (replay m s steps) stop.body offset) stop.content stop.bad

  stop_behind : (first : List ℕ) (before bodies : List (List ℕ)) (offset : ℕ) → Stop m is s (first ∷ before) bodies offset → StopBehind m is s first before bodies offset
  stop_behind first before bodies offset stop =
      let content = stop.content in
      let parts = along_parts m is s content.0 content.1 (subst (AreAlong m is s) content.2 stop.pass) in
      record {
        front = content.0;
        here = content.3;
        pass = parts.0;
        rest = before ++ stop.body ∷ stop.later;
        splits = stop.splits;
        stop = record {
          body = stop.body;
          later = stop.later;
          steps = content.1;
          splits = refl;
          content = content.4;
          pass = parts.1;
          bad = subst (λ (t : Base). StopsAt m is t stop.body offset) (ap (replay m s) content.2 ∙ replay-append m s content.0 content.1) stop.bad;
        };
      }

same_fronts : (a b : List ℕ) (front other : List Step) → a ≡ b → IsRecord a front → IsRecord b other → front ≡ other
same_fronts a b front other same one two = codes_are_one front other one.writable two.writable (sym one.code ∙ same ∙ two.code)

first_body : (x y : List ℕ) (xs ys : List (List ℕ)) → x ∷ xs ≡ y ∷ ys → (x ≡ y) × (xs ≡ ys)
first_body x y xs ys same = (cc, cc)

pub records_hold : (m : Meaning) (is : Base → Step → Type 0) (s : Base) (before bodies : List (List ℕ)) (steps : List Step) (offset : ℕ) → AreRecords bodies steps → AreAlong m is s steps → Stop m is s before bodies offset → ⊥
records_hold m is s [] [] steps offset content replays stop = let none = stop.splits in absurd (cc)
records_hold m is s (b ∷ before) [] steps offset content replays stop = let none = stop.splits in absurd (cc)
records_hold m is s [] (body ∷ bodies) steps offset (front, rest, splits, here, later) replays stop =
    let parts = along_parts m is s front rest (subst (AreAlong m is s) splits replays) in
    let same = first_body body stop.body bodies stop.later stop.splits in
    record_holds m is s body front offset here parts.0 (subst (λ (b : List ℕ). StopsAt m is s b offset) (sym same.0) (stop_here m is s (body ∷ bodies) offset stop))
records_hold m is s (b ∷ before) (body ∷ bodies) steps offset (front, rest, splits, here, later) replays stop =
    let parts = along_parts m is s front rest (subst (AreAlong m is s) splits replays) in
    let next = stop_behind m is s b before (body ∷ bodies) offset stop in
    let same = first_body body b bodies next.rest next.splits in
    let fronts = same_fronts b body next.front front (sym same.0) next.here here in
    records_hold m is (replay m s front) before bodies rest offset later parts.1
    (subst (λ (bs : List (List ℕ)). Stop m is (replay m s front) before bs offset) (sym same.1) (subst (λ (steps : List Step). Stop m is (replay m s steps) before next.rest offset) fronts next.stop))

-- a body can't both hold steps and stop
apart : (m : Meaning) (is : Base → Step → Type 0) (s : Base) (before bodies : List (List ℕ)) (first : List ℕ) (offset place : ℕ) → Stop m is s [] bodies offset → Stop m is s (first ∷ before) bodies place → ⊥
apart m is s before bodies first offset place here there =
    let next = stop_behind m is s first before bodies place there in
    let same = first_body here.body first here.later next.rest (sym here.splits ∙ next.splits) in
    record_holds m is s first next.front offset next.here next.pass (subst (λ (b : List ℕ). StopsAt m is s b offset) same.0 (stop_here m is s bodies offset here))

pub stops_once : (m : Meaning) (is : Base → Step → Type 0) (s : Base) (before other bodies : List (List ℕ)) (offset place : ℕ) → Stop m is s before bodies offset → Stop m is s other bodies place → (before ≡ other) × (offset ≡ place)
stops_once m is s [] [] bodies offset place a b =
    let same = first_body a.body b.body a.later b.later (sym a.splits ∙ b.splits) in
    (refl, no_step_once m is s b.body offset place (subst (λ (body : List ℕ). StopsAt m is s body offset) same.0 (stop_here m is s bodies offset a)) (stop_here m is s bodies place b))
stops_once m is s [] (o ∷ other) bodies offset place a b = absurd (apart m is s other bodies o offset place a b)
stops_once m is s (f ∷ before) [] bodies offset place a b = absurd (apart m is s before bodies f place offset b a)
stops_once m is s (f ∷ before) (o ∷ other) bodies offset place a b =
    let one = stop_behind m is s f before bodies offset a in
    let two = stop_behind m is s o other bodies place b in
    let same = first_body f o one.rest two.rest (sym one.splits ∙ two.splits) in
    let fronts = same_fronts f o one.front two.front same.0 one.here two.here in
    let moved = subst (λ (steps : List Step). Stop m is (replay m s steps) before two.rest offset) fronts (subst (λ (bs : List (List ℕ)). Stop m is (replay m s one.front) before bs offset) same.1 one.stop) in
    let found = stops_once m is (replay m s two.front) before other two.rest offset place moved two.stop in
    ((λ i. same.0 i ∷ found.0 i), found.1)
