use Rattle.std.proofs.Common.{◌≡◌, map, take}
use Rattle.sound_states.proofs.distinct.blobs_differ.Given as goal

abbrev pub invariant-blobs : goal.invariant-blobs
invariant-blobs l = map (λ name. name.now) l.names.items ≡ take l.blob-index l.blobs
