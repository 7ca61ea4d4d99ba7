use Rattle.std.proofs.Common.{◌≡◌, drop}
use Rattle.dedup_cache.specs.Kept.{KeepMarks, HaveRoom}
use Rattle.dedup_cache.proofs.kept.drop_first.Given as goal

abbrev pub invariant-oldest : goal.invariant-oldest
invariant-oldest l = record {
  left : l.marks.marks ≡ drop l.counter l.fn.marks.marks;
  kept : KeepMarks l.marks.marks l.moments;
  room : HaveRoom l.fn.marks l.fn.moments → HaveRoom l.marks l.moments;
  pushed : l.marks.pushed ≡ l.fn.marks.pushed;
}
