use Rattle.std.proofs.Common.{◌≡◌, true, false, sym, ◌∙◌, ap, subst}
use Rattle.std.specs.Prelude.{IfOk}
use Rattle.std.specs.Option.{option_copied}
use Rattle.expert_rules.specs.Taxonomy.{with_word}
use Rattle.expert_rules.proofs.Types.{classified_absent, classified_present, looked_up, word_kept, word_set}
use Rattle.expert_rules.proofs.classifying.taxonomy.Goals as goal

pub returns-then-is_some : goal.returns-then-is_some
returns-then-is_some c =
    let here = looked_up c.get.result c.args.fields.now c.in_ok-key.key true c.is_some.result c.get.ensures.value c.in_ok-key.ensures c.is_some.ensures c.if-is_some.true in
    subst (λ all. IfOk c.copy.result (λ found. found ≡ all)) (classified_present c.args.fields.now here) c.copy.ensures

pub with_word-requires : goal.with_word-requires
with_word-requires c = word_kept c.in_ok-word.field-0 c.in-Some.word c.in_ok-key.key c.in-Some.is c.in_ok-key.ensures c.in_ok-word.ensures.field

pub returns-in-Some : goal.returns-in-Some
returns-in-Some c =
    let absent = looked_up c.get.result c.args.fields.now c.in_ok-key.key false c.is_some.result c.get.ensures.value c.in_ok-key.ensures c.is_some.ensures c.if-is_some.false in
    let set = word_set c.args.fields.now c.in_ok-key.key c.in_ok-word.field-0 c.in-Some.word c.in_ok-key.ensures c.in-Some.is in
    subst (λ all. IfOk c.with_word.result (λ found. found ≡ all)) (set ∙ classified_absent c.args.fields.now _ absent c.in_ok-word.ensures.word) c.with_word.ensures

pub returns-in-None : goal.returns-in-None
returns-in-None c =
    let absent = looked_up c.get.result c.args.fields.now c.in_ok-key.key false c.is_some.result c.get.ensures.value c.in_ok-key.ensures c.is_some.ensures c.if-is_some.false in
    let none = ap (λ o. with_word c.args.fields.now (option_copied o)) (sym c.in-None.is) in
    subst (λ all. IfOk c.copy-in-None.result (λ found. found ≡ all)) (none ∙ classified_absent c.args.fields.now _ absent c.in_ok-word.ensures.word) c.copy-in-None.ensures
