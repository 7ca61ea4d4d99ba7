-- A rule that sets fields, applied.
use Rattle.std.proofs.Common.{◌≡◌, Bool, true, false, Option, Some, None, OnOk, Result, Ok, Err, option_map, sym, ◌∙◌, ap}
use Rattle.std.proofs.lemmas.Bool.{cond-true, cond-false}
use Rattle.std.proofs.lemmas.Option.{none-some, same_Some}
use Rattle.event_model.specs.Fields.{FieldMap}
use Rattle.expert_modify.specs.Meets.{meets}
use Rattle.expert_modify.specs.declared.rule.Rule.{Rule}
use Rattle.expert_rules.specs.Enrich.{joined}
use Rattle.expert_rules.specs.Modify.{one_less, standing_of, IsAfter}
use Rattle.expert_rules.specs.declared.modifying.Standing.{Standing as Code}

pub unmet : (overwrite : Bool) (o : Option Rule) (s : Code) (b : Bool) → option_map (λ rule. meets rule s.fields) o ≡ Some b → b ≡ false → IsAfter overwrite o s s
unmet overwrite None s b is told = absurd (none-some b is)
unmet overwrite (Some rule) s b is told =
    sym (cond-false (meets rule s.fields) (one_less s.left, joined overwrite rule.sets s.fields) (standing_of s) (same_Some (meets rule s.fields) b is ∙ told))

pub met : (overwrite : Bool) (o : Option Rule) (s t : Code) (b : Bool) (sets : FieldMap) → option_map (λ rule. meets rule s.fields) o ≡ Some b → b ≡ true → option_map (λ (rule : Rule). rule.sets) o ≡ Some sets
    → t.left ≡ one_less s.left → t.fields ≡ joined overwrite sets s.fields → IsAfter overwrite o s t
met overwrite None s t b sets is told at left fields = absurd (none-some b is)
met overwrite (Some rule) s t b sets is told at left fields =
    let set : t.fields ≡ joined overwrite rule.sets s.fields = fields ∙ ap (λ (m : FieldMap). joined overwrite m s.fields) (sym (same_Some rule.sets sets at)) in
    let stands : standing_of t ≡ (one_less s.left, joined overwrite rule.sets s.fields) = λ i. (left i, set i) in
    stands ∙ sym (cond-true (meets rule s.fields) (one_less s.left, joined overwrite rule.sets s.fields) (standing_of s) (same_Some (meets rule s.fields) b is ∙ told))

pub on_ok : {T E : Type 0} (r : Result T E) (A B : Type 0) → (A → B) → OnOk r A → OnOk r B
on_ok (Ok x) A B f a = f a
on_ok (Err e) A B f a = tt
