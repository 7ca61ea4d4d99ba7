-- The text of eight groups compresses the first of the longest zero runs.
use Rattle.std.proofs.Common.{ℕ, List, refl, lt-ltb, le-ltb}
use Rattle.std.specs.Net.Text.{longest_zero_run, hex_groups_text}
use Rattle.std.proofs.NetLemmas.Texts.{IsZeroRun-longest_zero_run, longest_zero_run_first}
use Rattle.scalar_net.specs.Canonical.{IsCanonicalText}

pub IsCanonicalText-hex_groups_text : (groups : List ℕ) → IsCanonicalText groups (hex_groups_text groups)
unfolding hex_groups_text
IsCanonicalText-hex_groups_text groups = record {
  start = (longest_zero_run groups).0;
  len = (longest_zero_run groups).1;
  run = IsZeroRun-longest_zero_run groups;
  longest = λ s l h. (longest_zero_run_first groups s l h).0;
  first = λ s h. (longest_zero_run_first groups s (longest_zero_run groups).1 h).1 refl;
  compressed = λ many. rw (lt-ltb 1 (longest_zero_run groups).1 many);
  plain = λ few. rw (le-ltb 1 (longest_zero_run groups).1 few);
}
