-- What a built pattern matches.
use Rattle.std.proofs.Common.{◌≡◌, ℕ, ◌<◌, ◌≤◌, true, List, Option, None, Some, IsSomeAnd, is_some, length, get_or, subst}
use Rattle.std.specs.Prelude.{option_and_then, chars}
use Rattle.std.proofs.lemmas.Bool.{le-leb}
use Rattle.regex_hir.specs.Meaning.{meaning}
use Rattle.regex_hir.specs.declared.hir.Hir.{Hir}
use Rattle.regex_syntax.specs.Brackets.{Nested}
use Rattle.regex_syntax.specs.Captures.{SameCaptures}
use Rattle.regex_syntax.specs.Grammar.{group_count, read, Names}
use Rattle.regex_syntax.specs.Verdict.{default_config, Reads}
use Rattle.regex.specs.Names.{names_of}
use Rattle.regex.specs.Patterns.{find_str, Re}
use Rattle.regex.specs.Strings.{regex_config, regex_pattern, regex_source, IsReadFromSource}
use Rattle.regex.specs.declared.string.regex.Regex.{Regex}
use Rattle.regex.proofs.ForCallers.{is_match_alike}
use Rattle.sieve_tree.specs.Pattern.{pattern_of, within_depth}
use Rattle.sieve_eval.specs.Says.{has_match, matches, passes}

-- what the grammar read, with the tree that was made of it
module _ (a : Re) (names : Names) where
  abbrev Shows : Option (Nested Re × Names) → Type 0
  Shows o = IsSomeAnd o (λ (re, found). (re.depth ≤ 250) × SameCaptures a re.value × (names ≡ found) × (group_count a ≤ length names))

  alike : (o : Option (Nested Re × Names)) → Shows o → (hay : List ℕ) → ((k : ℕ) → get_or hay k 0 < 256)
      → is_some (find_str a hay 0) ≡ passes (λ re. is_some (find_str re hay 0)) (option_and_then within_depth o)
  alike None p hay bytes = absurd p
  alike (Some q) p hay bytes = rw (le-leb q.0.depth 250 p.0) (is_match_alike p.1 hay bytes true 0)

pub read_matches : (text hay : List ℕ) (hir : Hir) (names : Names) → Reads default_config text hir names → ((k : ℕ) → get_or hay k 0 < 256)
    → is_some (find_str (meaning hir) hay 0) ≡ matches hay text
unfolding pattern_of has_match Reads
read_matches text hay hir names p bytes = alike (meaning hir) names (read default_config (chars text)) p hay bytes

-- a pattern that was read from its text
pub built_matches : (r : Regex) → regex_config r ≡ default_config → IsReadFromSource r → (hay : List ℕ) → ((k : ℕ) → get_or hay k 0 < 256)
    → is_some (find_str (regex_pattern r) hay 0) ≡ matches hay (regex_source r)
built_matches r config read hay bytes =
    let names = names_of r.pattern.names.items in
    read_matches (regex_source r) hay r.pattern.program.hir names (subst (λ k. Reads k (regex_source r) r.pattern.program.hir names) config read) bytes
