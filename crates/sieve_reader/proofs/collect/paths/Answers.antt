use Rattle.std.proofs.Common.{◌≡◌, ◌++◌, []}
use Rattle.std.specs.Prelude.{if◌then◌else◌}
use Rattle.sieve_reader.specs.Reads.{path_spots, paths_in}
use Rattle.sieve_reader.proofs.Collects.{fewer, paths_next, pushed}
use Rattle.sieve_reader.proofs.collect.paths.Goals as goal

pub turns-preserved : goal.turns-preserved
turns-preserved c =
    let next : paths_in c.turns.tokens ≡ (if c.sees_path-is_behind.result then path_spots c.skip.new.self else []) ++ paths_in c.skip.new.self =
    rw (c.sees_path-is_behind.ensures, c.skip.ensures) (paths_next c.turns.tokens) in
    (pushed _ c.turns.found c.push_spots.new.found _ _ _ c.turns.invariant.0 next c.in_ok-push_spots.ensures, rw c.skip.ensures (fewer c.turns.tokens c.left-turn-end.result c.turns._turn c.turns.invariant.1 c.turns-test.true))
