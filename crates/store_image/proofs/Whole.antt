-- What all generations of a store hold together.
use Rattle.std.proofs.Common.{◌≡◌, ◌+◌, ℕ, suc, true, List, [], ◌∷◌, ◌++◌, length, refl, sym, ap, subst, ◌∙◌, arith, append_assoc, length-append}
use Rattle.std.proofs.lemmas.List.{append-nil}
use Rattle.edge_traits.specs.Disk.{Image}
use Rattle.step_code.specs.declared.base.Base.{Base}
use Rattle.step_code.specs.declared.step.Step.{Step}
use Rattle.step_code.specs.History.{replay}
use Rattle.step_code.specs.Rules.{Meaning}
use Rattle.store_image.specs.Files.{root_file, generation_file}
use Rattle.store_image.specs.History.{AreHeld, HasHistory}
use Rattle.store_image.specs.Stands.{joined, origin_of, AreArchived, Stands}
use Rattle.store_image.specs.Stored.{HoldsSteps}
use Rattle.store_image.proofs.Stored.{held_is_one, named_is_one}

held_of : (m : Meaning) (image : Image) (h : ℕ) (s : Base) (held : List (Base × List Step)) → AreArchived m image h s held → AreHeld image h held
held_of m image h s [] each = tt
held_of m image h s (x ∷ later) each = (each.0, held_of m image (suc h) (replay m x.0 x.1) later each.2)

held_more : (image : Image) (h : ℕ) (held : List (Base × List Step)) (base : Base) (steps : List Step) → AreHeld image h held → HoldsSteps (h + length held) (image (generation_file (h + length held))) base steps
    → AreHeld image h (held ++ (base, steps) ∷ [])
held_more image h [] base steps each here = (subst (λ (n : ℕ). HoldsSteps n (image (generation_file n)) base steps) (omega arith) here, tt)
held_more image h (x ∷ held) base steps each here = (each.0, held_more image (suc h) held base steps each.1 (subst (λ (n : ℕ). HoldsSteps n (image (generation_file n)) base steps) (omega arith) here))

pub joined_more : (held : List (Base × List Step)) (base : Base) (steps : List Step) → joined (held ++ (base, steps) ∷ []) ≡ joined held ++ steps
joined_more [] base steps = append-nil steps
joined_more (x ∷ held) base steps = ap (λ ss. x.1 ++ ss) (joined_more held base steps) ∙ sym (append_assoc x.1 (joined held) steps)

-- where all generations are looked at, the files hold the history that they stand for
pub whole_history : (m : Meaning) (first : Base) (image : Image) (history : List Step) → Stands m (origin_of first true) image history → HasHistory image history
whole_history m first image history stands =
    let is = stands.below in
    record {
      generation = stands.generation;
      named = stands.stored.named;
      held = is.held ++ (stands.base, stands.steps) ∷ [];
      count = omega (arith, is.count, length-append is.held ((stands.base, stands.steps) ∷ []));
      each = held_more image 0 is.held stands.base stands.steps (held_of m image 0 first is.held is.each)
          (subst (λ (n : ℕ). HoldsSteps n (image (generation_file n)) stands.base stands.steps) (omega (arith, is.count)) stands.stored.holds);
      joins = stands.splits ∙ ap (λ ss. ss ++ stands.steps) is.joins ∙ sym (joined_more is.held stands.base stands.steps);
    }

joined_is_one : (image : Image) (h : ℕ) (a b : List (Base × List Step)) → length a ≡ length b → AreHeld image h a → AreHeld image h b → joined a ≡ joined b
joined_is_one image h [] [] same one other = refl
joined_is_one image h [] (y ∷ b) same one other = absurd (omega (arith, same))
joined_is_one image h (x ∷ a) [] same one other = absurd (omega (arith, same))
joined_is_one image h (x ∷ a) (y ∷ b) same one other =
    let here = held_is_one h (image (generation_file h)) x.0 y.0 x.1 y.1 one.0 other.0 in
    let later = joined_is_one image (suc h) a b (omega (arith, same)) one.1 other.1 in
    (λ i. here.1 i ++ later i)

-- files hold one history
pub history_is_one : (image : Image) (a b : List Step) → HasHistory image a → HasHistory image b → a ≡ b
history_is_one image a b one other =
    let last = named_is_one (image root_file) one.generation other.generation one.named other.named in
    one.joins ∙ joined_is_one image 0 one.held other.held (omega (arith, one.count, other.count, last)) one.each other.each ∙ sym other.joins
