-- What an automaton of a pattern is for.
use Rattle.std.specs.Prelude.{◌≡◌, ◌<◌, ℕ, List, get_or, is_some}
use Rattle.regex_hir.specs.Find.{find}
use Rattle.regex_hir.specs.Meaning.{meaning}
use Rattle.regex_meta.specs.declared.program.Program.{Program}
use Rattle.sieve_eval.specs.Says.{matches}

-- where no empty text matches, its tree has a match in bytes exactly where the pattern with that text has one
abbrev pub Finds : Program → List ℕ → Type 0
Finds p text = 0 < p.min_len → (hay : List ℕ) → ((k : ℕ) → get_or hay k 0 < 256) → is_some (find (meaning p.hir) hay 0) ≡ matches hay text
