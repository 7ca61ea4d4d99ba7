use Rattle.std.proofs.Common.{sym, ◌∙◌, ap}
use Rattle.std.proofs.lemmas.Result.{err_from_is_err_and}
use Rattle.config_bundle.specs.Bundle.{names_rise}
use Rattle.config_bundle.proofs.Codes.{bundle_of_parts, no_bundle_falls, no_bundle_left, no_parts}
use Rattle.config_bundle.proofs.reading.bundle_read.Goals as goal

pub returns-in_err-runtime : goal.returns-in_err-runtime
returns-in_err-runtime c =
    let p = err_from_is_err_and c.from_residual.result c.from_residual.ensures.1 in
    rw (p.1, p.2) (no_parts c.args.bytes.now c.in_err-runtime.field-0.0 c.in_err-runtime.ensures)

pub returns-then-not-is_empty : goal.returns-then-not-is_empty
returns-then-not-is_empty c =
    no_bundle_left c.args.bytes.now c.in_ok-runtime.rest.now c.in_ok-runtime.runtime c.in_ok-runtime.files c.in_ok-runtime.ensures (sym c.is_empty.ensures ∙ c.if-not-is_empty.true)

pub returns-then-not-names_rise : goal.returns-then-not-names_rise
returns-then-not-names_rise c =
    no_bundle_falls c.args.bytes.now c.in_ok-runtime.rest.now c.in_ok-runtime.runtime c.in_ok-runtime.files c.in_ok-runtime.ensures
    (ap names_rise (sym c.as_slice.ensures) ∙ sym c.names_rise.ensures ∙ c.if-not-names_rise.true)

pub returns : goal.returns
returns c =
    bundle_of_parts c.args.bytes.now c.in_ok-runtime.rest.now c.in_ok-runtime.runtime c.in_ok-runtime.files c.in_ok-runtime.ensures (sym c.is_empty.ensures ∙ c.if-not-is_empty.false)
    (ap names_rise (sym c.as_slice.ensures) ∙ sym c.names_rise.ensures ∙ c.if-not-names_rise.false)
