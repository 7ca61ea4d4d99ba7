use Rattle.std.proofs.Common.{◌≡◌, ◌<◌, ◌≤◌, ◌^◌, ℕ, List, length, get_or}
use Rattle.out_files.proofs.out_files.buffer_for.Given as goal

abbrev pub invariant-lines : goal.invariant-lines
invariant-lines l = record {
  each : (i : ℕ) (line : List ℕ) → i < l.line-index → line ≡ get_or l.lines i line → length line ≤ l.longest;
  small : l.longest ≤ 2 ^ 63;
}
