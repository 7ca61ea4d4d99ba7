use Rattle.std.proofs.Common.{◌∙◌, ap}
use Rattle.live_reload.specs.Control.{control_in}
use Rattle.live_reload.proofs.Long.{held_asks}
use Rattle.live_reload.proofs.reading.next_control.Goals as goal

pub returns-clause-asked : goal.returns-clause-asked
returns-clause-asked g c = λ content told.
    let found = rw c.in-Some.is at (c.in_ok-line.ensures.line content told) in
    (found.0, found.1, c.in_ok-asked.ensures ∙ ap control_in (c.as_slice.ensures.value ∙ found.2) ∙ held_asks found.0)
