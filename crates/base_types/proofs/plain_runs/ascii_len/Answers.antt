use Rattle.std.proofs.Common.{refl, sym, ap, ◌∙◌, arith}
use Rattle.std.specs.List.{prefix_len}
use Rattle.std.proofs.lemmas.List.{take_rest}
use Rattle.base_types.specs.Plain.{is_plain_ascii}
use lib.Count.{count_trailing_zeros}
use Rattle.base_types.proofs.PlainRuns.{goes_on, stops, run_bound}
use Rattle.base_types.proofs.plain_runs.ascii_len.Goals as goal

pub returns-then-found-ne0 : goal.returns-then-found-ne0
returns-then-found-ne0 c =
    let run = stops c.args.text.now c.lanes.at 16 (omega arith) (omega arith) (omega (arith, c.foreigns-found.ensures)) ∙ ap (count_trailing_zeros 64) (sym c.foreigns-found.ensures) in
    omega (arith, run, c.lanes.invariant.0)

pub lanes-preserved : goal.lanes-preserved
lanes-preserved c =
    let run = goes_on c.args.text.now c.lanes.at 16 (omega arith) (omega (arith, c.foreigns-found.ensures)) in
    (omega (arith, run, c.lanes.invariant.0), omega arith)

pub overflow_add-result-2 : goal.overflow_add-result-2
overflow_add-result-2 c =
    let text = c.args.text.now in
    omega (arith, c.ascii_len_by_one.ensures, ap (prefix_len is_plain_ascii) (take_rest text c.lanes.at), run_bound text c.lanes.at c.lanes.invariant.1)

pub returns : goal.returns
returns c =
    omega (arith, c.ascii_len_by_one.ensures, ap (prefix_len is_plain_ascii) (take_rest c.args.text.now c.lanes.at), c.lanes.invariant.0)
