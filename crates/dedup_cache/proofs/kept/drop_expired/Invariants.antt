use Rattle.std.proofs.Common.{◌≡◌, length}
use Rattle.stored_types.specs.Mark.{fresh}
use Rattle.dedup_cache.specs.Kept.{KeepMarks, HaveRoom}
use Rattle.dedup_cache.proofs.kept.drop_expired.Given as goal

abbrev pub invariant-expired : goal.invariant-expired
invariant-expired l = record {
  fresh : fresh l.ttl l.now.0 l.marks.marks ≡ fresh l.ttl l.now.0 l.fn.marks.marks;
  kept : KeepMarks l.marks.marks l.moments;
  room : HaveRoom l.fn.marks l.fn.moments → HaveRoom l.marks l.moments;
  pushed : l.marks.pushed ≡ l.fn.marks.pushed;
}

abbrev pub decreases-expired : goal.decreases-expired
decreases-expired l = length l.marks.marks
