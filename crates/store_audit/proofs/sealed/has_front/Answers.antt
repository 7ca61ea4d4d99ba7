use Rattle.std.proofs.Common.{◌≡◌, ◌↔◌, ◌+◌, true, length, take, drop, refl, sym, ◌∙◌, arith}
use Rattle.std.proofs.lemmas.List.{take_rest}
use Rattle.std.proofs.lemmas.Result.{IfOk-weaker}
use Rattle.out_files.specs.Output.{lines_text}
use Rattle.out_files.proofs.Contents.{lines_no_longer}
use Rattle.store_audit.specs.Sealed.{HasFront, StandsAt}
use Rattle.store_audit.proofs.Standing.{front_by}
use Rattle.store_audit.proofs.sealed.has_front.Goals as goal

pub has_lines-requires : goal.has_lines-requires
has_lines-requires g c = record { small = omega (arith, c.requires.small, lines_no_longer c.args.lines.now c.in-Some.count) }

pub returns-clause-has : goal.returns-clause-has
returns-clause-has g c = λ files told.
    let lines = c.args.lines.now in
    let last = c.args.last.now in
    let count = c.in-Some.count in
    let file = files c.args.file in
    let many : count + length last ≡ length lines = omega (arith, c.in-Some.ensures) in
    let ends : drop count lines ≡ last = sym (take_rest lines count) ∙ c.if-not-are_same.ensures.0 refl in
    IfOk-weaker c.has_lines.result (λ have. (have ≡ true) ↔ StandsAt (lines_text (take count lines)) c.args.at file) (λ has. (has ≡ true) ↔ HasFront c.args.at lines last file)
    (λ has both. front_by c.args.at lines last file count has many ends both) (c.has_lines.ensures.have files told)
