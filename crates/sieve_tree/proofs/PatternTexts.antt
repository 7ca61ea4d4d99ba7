-- Which texts read as patterns.
use Rattle.std.proofs.Common.{◌≡◌, ◌≢◌, ℕ, ◌<◌, ◌≤◌, true, false, List, Option, None, Some, is_some, IfSome, IsSomeAnd, length, refl, ⊎_elim}
use Rattle.std.specs.Prelude.{option_and_then, chars}
use Rattle.std.proofs.lemmas.Bool.{le-leb, lt-leb}
use Rattle.regex_hir.specs.Meaning.{meaning}
use Rattle.regex_hir.specs.declared.hir.Hir.{Hir}
use Rattle.regex.specs.Patterns.{Re}
use Rattle.regex_syntax.specs.Brackets.{Nested}
use Rattle.regex_syntax.specs.Captures.{SameCaptures}
use Rattle.regex_syntax.specs.Grammar.{group_count, read, Names}
use Rattle.regex_syntax.specs.Verdict.{default_config, Reads, Refuses}
use Rattle.regex_syntax.specs.declared.error.ErrorKind.{ErrorKind}
use Rattle.regex_syntax.specs.declared.error.ErrorKind.TheVariants.{OutOfMemory}
use Rattle.sieve_tree.specs.Pattern.{pattern_of, within_depth}

-- what was read, no deeper than that
shown : (a : Re) (names : Names) (o : Option (Nested Re × Names)) → IsSomeAnd o (λ (re, found). (re.depth ≤ 250) × SameCaptures a re.value × (names ≡ found) × (group_count a ≤ length names))
    → true ≡ is_some (option_and_then within_depth o)
shown a names None p = absurd p
shown a names (Some q) p = rw (le-leb q.0.depth 250 p.0) refl

pub read_is_pattern : (text : List ℕ) (hir : Hir) (names : Names) → Reads default_config text hir names → true ≡ is_some (pattern_of text)
unfolding pattern_of Reads
read_is_pattern text hir names p = shown (meaning hir) names (read default_config (chars text)) p

nothing : (o : Option (Nested Re × Names)) → o ≡ None → false ≡ is_some (option_and_then within_depth o)
nothing o e = rw e refl

deeper : (o : Option (Nested Re × Names)) → IfSome o (λ (re, _). 250 < re.depth) → false ≡ is_some (option_and_then within_depth o)
deeper None p = refl
deeper (Some q) p = rw (lt-leb q.0.depth 250 p) refl

pub refused_is_none : (text : List ℕ) (kind : ErrorKind) → Refuses default_config text kind → kind ≢ OutOfMemory → false ≡ is_some (pattern_of text)
unfolding pattern_of Refuses
refused_is_none text kind p other =
    ⊎_elim (λ memory. absurd (other memory)) (λ more. ⊎_elim (nothing (read default_config (chars text))) (λ deep. deeper (read default_config (chars text)) deep.1) more) p
