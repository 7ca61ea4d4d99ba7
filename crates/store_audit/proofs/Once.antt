-- All generations of a store come to one thing.
use Rattle.std.proofs.Common.{◌≡◌, ◌+◌, inl, inr, ℕ, zero, suc, List, [], ◌∷◌, Option, Some, None, sym, ap, subst, ◌∙◌}
use Rattle.edge_traits.specs.Disk.{Image}
use Rattle.disk_journal.proofs.GateFiles.{has_records_once, headless_at_one_place, headless_has_no_records}
use Rattle.disk_journal.specs.GateFile.{HasBodies}
use Rattle.step_code.specs.declared.base.Base.{Base}
use Rattle.step_code.specs.declared.step.Step.{Step}
use Rattle.step_code.specs.Code.{code_of_base, first_format, IsWritableBase}
use Rattle.step_code.specs.History.{replay}
use Rattle.step_code.specs.Rules.{Meaning}
use Rattle.store_image.specs.Damage.{behind_bodies, StopAt}
use Rattle.store_image.specs.Files.{generation_file, root_file, heading_of}
use Rattle.store_image.specs.Opens.{AreAlong, IsReplayable}
use Rattle.store_image.specs.Stored.{AreRecords}
use Rattle.store_image.proofs.Damaged.{same_bases, stop_of, stops_alike, stops_at_once}
use Rattle.store_image.proofs.Stops.{records_hold}
use Rattle.store_image.proofs.Stored.{held_is_one, known_bodies, known_writable, named_is_one}
use Rattle.store_audit.specs.Audit.{state_at, AreWrong, BeginsWrong, ComeTo, GoWrong, HaveFault, HaveIllegal, HaveNoStep, IsAllowed, IsAudited, IsRight, IsWrong}
use Rattle.store_audit.specs.declared.verdict.Verdict.{Verdict}
use Rattle.store_audit.specs.declared.verdict.Verdict.TheVariants as verdict

-- ---- records behind a state

module _ (m : Meaning) (s : Base) (start : ℕ) (records : List (List ℕ)) where
  -- steps that are all allowed don't stop
  goes_on : (steps : List Step) (at : ℕ) → AreRecords records steps → AreAlong m (IsAllowed m) s steps → StopAt m (IsAllowed m) s start records at → ⊥
  goes_on steps at content allowed stop = records_hold m (IsAllowed m) s stop.before records steps stop.offset content allowed (stop_of m (IsAllowed m) s start records at stop)

  same_state : (at other : ℕ) (a : StopAt m (IsAllowed m) s start records at) (b : StopAt m (IsAllowed m) s start records other) → state_at m (IsAllowed m) s start records at a ≡ state_at m (IsAllowed m) s start records other b
  same_state at other a b = let alike = stops_alike m (IsAllowed m) s start records at other a b in (λ i. replay m (replay m s (alike.steps i)) (alike.front i))

  illegal_once : (n k : ℕ) → HaveIllegal m s start records n → HaveIllegal m s start records k → n ≡ k
  illegal_once n k a b = a.number_is ∙ ap (λ (t : Base). t.steps + 1) (same_state a.at b.at a.stop b.stop) ∙ sym b.number_is

  illegal_or_none : (n at : ℕ) → HaveIllegal m s start records n → HaveNoStep m s start records at → ⊥
  illegal_or_none n at a b =
      let alike = stops_alike m (IsAllowed m) s start records a.at at a.stop b.stop in
      b.none a.step a.rest a.writable (sym alike.behind ∙ a.code) (subst (λ (t : Base). IsReplayable m t a.step) (same_state a.at at a.stop b.stop) a.replayable)

  fault_once : (g : ℕ) (cut : Option ℕ) (v w : Verdict) → HaveFault m g s start records cut v → HaveFault m g s start records cut w → v ≡ w
  fault_once g cut (verdict.Legal n) w none b = absurd none
  fault_once g cut (verdict.Illegal n) (verdict.Legal k) a none = absurd none
  fault_once g cut (verdict.Illegal n) (verdict.Illegal k) a b = ap verdict.Illegal (illegal_once n k a b)
  fault_once g cut (verdict.Illegal n) (verdict.Damaged file at) a (there, inl b) = absurd (illegal_or_none n at a b)
  fault_once g cut (verdict.Illegal n) (verdict.Damaged file at) a (there, inr b) = absurd (goes_on b.steps a.at b.content b.allowed a.stop)
  fault_once g cut (verdict.Damaged file at) (verdict.Legal k) a none = absurd none
  fault_once g cut (verdict.Damaged file at) (verdict.Illegal k) (there, inl a) b = absurd (illegal_or_none k at b a)
  fault_once g cut (verdict.Damaged file at) (verdict.Illegal k) (there, inr a) b = absurd (goes_on a.steps b.at a.content a.allowed b.stop)
  fault_once g cut (verdict.Damaged file at) (verdict.Damaged other place) (there, inl a) (here, inl b) =
      let same = stops_at_once m (IsAllowed m) s start records at place a.stop b.stop in
      (λ i. verdict.Damaged ((there ∙ sym here) i) (same i))
  fault_once g cut (verdict.Damaged file at) (verdict.Damaged other place) (there, inl a) (here, inr b) = absurd (goes_on b.steps at b.content b.allowed a.stop)
  fault_once g cut (verdict.Damaged file at) (verdict.Damaged other place) (there, inr a) (here, inl b) = absurd (goes_on a.steps place a.content a.allowed b.stop)
  fault_once g cut (verdict.Damaged file at) (verdict.Damaged other place) (there, inr a) (here, inr b) =
      let same : at ≡ place = (let e = sym a.cut_is ∙ b.cut_is in cc) in
      (λ i. verdict.Damaged ((there ∙ sym here) i) (same i))

  -- where all steps are allowed there is none but a cut
  no_fault : (g : ℕ) (steps : List Step) (v : Verdict) → AreRecords records steps → AreAlong m (IsAllowed m) s steps → HaveFault m g s start records None v → ⊥
  no_fault g steps (verdict.Legal n) content allowed none = none
  no_fault g steps (verdict.Illegal n) content allowed a = goes_on steps a.at content allowed a.stop
  no_fault g steps (verdict.Damaged file at) content allowed (there, inl a) = goes_on steps at content allowed a.stop
  no_fault g steps (verdict.Damaged file at) content allowed (there, inr a) = let none = a.cut_is in absurd (cc)

-- ---- a generation

module _ (m : Meaning) (image : Image) (g : ℕ) (before : Option Base) where
  wrong_or_begun : (bodies : List (List ℕ)) (cut : Option ℕ) (v : Verdict) → BeginsWrong m image before bodies → GoWrong m image g before bodies cut v → ⊥
  wrong_or_begun bodies cut v a b = a.wrong b.base b.writable b.sound b.follows (let same = sym a.splits ∙ b.splits in cc)

  go_wrong_once : (bodies : List (List ℕ)) (cut : Option ℕ) (v w : Verdict) → GoWrong m image g before bodies cut v → GoWrong m image g before bodies cut w → v ≡ w
  go_wrong_once bodies cut v w a b =
      let same = same_bases a.base b.base a.records b.records a.writable b.writable (sym a.splits ∙ b.splits) in
      let moved = subst (λ (bs : List (List ℕ)). HaveFault m g b.base (behind_bodies (code_of_base first_format b.base ∷ [])) bs cut v) same.1
      (subst (λ (s : Base). HaveFault m g s (behind_bodies (code_of_base first_format s ∷ [])) a.records cut v) same.0 a.fault) in
      fault_once m b.base (behind_bodies (code_of_base first_format b.base ∷ [])) b.records g cut v w moved b.fault

  are_wrong_once : (bodies : List (List ℕ)) (cut : Option ℕ) (v w : Verdict) → AreWrong m image g before bodies cut v → AreWrong m image g before bodies cut w → v ≡ w
  are_wrong_once bodies cut v w (inl a) (inl b) = a.1 ∙ sym b.1
  are_wrong_once bodies cut v w (inl a) (inr (inl b)) = let none = sym a.0 ∙ b.0.splits in absurd (cc)
  are_wrong_once bodies cut v w (inl a) (inr (inr b)) = let none = sym a.0 ∙ b.splits in absurd (cc)
  are_wrong_once bodies cut v w (inr (inl a)) (inl b) = let none = sym b.0 ∙ a.0.splits in absurd (cc)
  are_wrong_once bodies cut v w (inr (inl a)) (inr (inl b)) = a.1 ∙ sym b.1
  are_wrong_once bodies cut v w (inr (inl a)) (inr (inr b)) = absurd (wrong_or_begun bodies cut w a.0 b)
  are_wrong_once bodies cut v w (inr (inr a)) (inl b) = let none = sym b.0 ∙ a.splits in absurd (cc)
  are_wrong_once bodies cut v w (inr (inr a)) (inr (inl b)) = absurd (wrong_or_begun bodies cut v b.0 a)
  are_wrong_once bodies cut v w (inr (inr a)) (inr (inr b)) = go_wrong_once bodies cut v w a b

  wrong_once : (v w : Verdict) → IsWrong m image g before v → IsWrong m image g before w → v ≡ w
  wrong_once v w (inl (at, a, is)) (inl (place, b, other)) =
      is ∙ ap (verdict.Damaged (generation_file g)) (headless_at_one_place (heading_of first_format g) at place (image (generation_file g)) a b) ∙ sym other
  wrong_once v w (inl (at, a, is)) (inr (bodies, cut, has, b)) = absurd (headless_has_no_records (heading_of first_format g) at bodies cut (image (generation_file g)) a has)
  wrong_once v w (inr (bodies, cut, has, a)) (inl (at, b, is)) = absurd (headless_has_no_records (heading_of first_format g) at bodies cut (image (generation_file g)) b has)
  wrong_once v w (inr (bodies, cut, has, a)) (inr (others, end, have, b)) =
      let same = has_records_once (heading_of first_format g) bodies others cut end (image (generation_file g)) has have in
      are_wrong_once others end v w (subst (λ (e : Option ℕ). AreWrong m image g before others e v) same.1 (subst (λ (bs : List (List ℕ)). AreWrong m image g before bs cut v) same.0 a)) b

  module _ (base : Base) (steps : List Step) (right : IsRight m image g before base steps) where
    writable : IsWritableBase first_format base
    writable = known_writable g (image (generation_file g)) base steps right.holds

    has_right : HasBodies (heading_of first_format g) (code_of_base first_format base ∷ right.holds.records) (image (generation_file g))
    has_right = known_bodies g (image (generation_file g)) base steps right.holds

    -- what a right generation holds isn't wrong
    are_right : (v : Verdict) → AreWrong m image g before (code_of_base first_format base ∷ right.holds.records) None v → ⊥
    are_right v (inl a) = let none = a.0 in absurd (cc)
    are_right v (inr (inl a)) = a.0.wrong base writable right.sound right.follows (let same = a.0.splits in cc)
    are_right v (inr (inr a)) =
        let same = same_bases a.base base a.records right.holds.records a.writable writable (sym a.splits) in
        let moved = subst (λ (bs : List (List ℕ)). HaveFault m g base (behind_bodies (code_of_base first_format base ∷ [])) bs None v) same.1
        (subst (λ (s : Base). HaveFault m g s (behind_bodies (code_of_base first_format s ∷ [])) a.records None v) same.0 a.fault) in
        no_fault m base (behind_bodies (code_of_base first_format base ∷ [])) right.holds.records g steps v right.holds.content right.allowed moved

    right_or_wrong : (v : Verdict) → IsWrong m image g before v → ⊥
    right_or_wrong v (inl (at, a, is)) = headless_has_no_records (heading_of first_format g) at (code_of_base first_format base ∷ right.holds.records) None (image (generation_file g)) a has_right
    right_or_wrong v (inr (bodies, cut, has, a)) =
        let same = has_records_once (heading_of first_format g) bodies (code_of_base first_format base ∷ right.holds.records) cut None (image (generation_file g)) has has_right in
        are_right v (subst (λ (e : Option ℕ). AreWrong m image g before (code_of_base first_format base ∷ right.holds.records) e v) same.1 (subst (λ (bs : List (List ℕ)). AreWrong m image g before bs cut v) same.0 a))

-- ---- a store

pub comes_once : (m : Meaning) (image : Image) (left g : ℕ) (before : Option Base) (v w : Verdict) → ComeTo m image left g before v → ComeTo m image left g before w → v ≡ w
comes_once m image zero g None v w none b = absurd none
comes_once m image zero g (Some s) v w a b = a ∙ sym b
comes_once m image (suc left) g before v w (inl a) (inl b) = wrong_once m image g before v w a b
comes_once m image (suc left) g before v w (inl a) (inr (base, steps, right, later)) = absurd (right_or_wrong m image g before base steps right v a)
comes_once m image (suc left) g before v w (inr (base, steps, right, later)) (inl b) = absurd (right_or_wrong m image g before base steps right w b)
comes_once m image (suc left) g before v w (inr (base, steps, right, later)) (inr (other, more, alike, behind)) =
    let same = held_is_one g (image (generation_file g)) base other steps more right.holds alike.holds in
    let ends : replay m base steps ≡ replay m other more = (λ i. replay m (same.0 i) (same.1 i)) in
    comes_once m image left (suc g) (Some (replay m other more)) v w (subst (λ (s : Base). ComeTo m image left (suc g) (Some s) v) ends later) behind

pub audited_once : (m : Meaning) (image : Image) (v w : Verdict) → IsAudited m image v → IsAudited m image w → v ≡ w
audited_once m image v w a b =
    let same = named_is_one (image root_file) a.generation b.generation a.named b.named in
    comes_once m image (suc b.generation) 0 None v w (subst (λ (g : ℕ). ComeTo m image (suc g) 0 None v) same a.comes) b.comes
