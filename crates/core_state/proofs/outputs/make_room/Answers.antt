use Rattle.std.proofs.Common.{ℕ, List, ap}
use Rattle.core_state.specs.Outputs.{out_of}
use Rattle.core_state.proofs.Seen.{seen_same}
use Rattle.core_state.proofs.outputs.make_room.Goals as goal

pub returns-in-Some-clause-same : goal.returns-in-Some-clause-same
returns-in-Some-clause-same c =
    let old = c.index_mut.result.now in
    seen_same out_of c.args.outs.now.items c.in-Some.i old (record old { lines = c.reserve.new.self }) c.index_mut.ensures.value
    (ap (λ (l : List (List ℕ)). record (out_of old) { lines = l }) c.reserve.ensures.items)
