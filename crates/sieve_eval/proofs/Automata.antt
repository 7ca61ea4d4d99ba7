-- What an automaton of a pattern finds.
use Rattle.std.proofs.Common.{◌≡◌, ℕ, ◌<◌, true, false, List, All, length, is_some, sym, ap, subst, ◌∙◌, arith}
use Rattle.std.proofs.lemmas.List.Elements.{All-from_get_or}
use Rattle.regex_hir.specs.Find.{find}
use Rattle.regex_hir.specs.Meaning.{meaning}
use Rattle.regex_hir.specs.declared.hir.Hir.{Hir}
use Rattle.regex_dfa.specs.Search.{end_from, IsEnd}
use Rattle.regex_dfa.specs.declared.forward.End.{End}
use Rattle.regex_dfa.specs.declared.forward.End.TheVariants as ended
use Rattle.regex_meta.specs.declared.program.Program.{Program}
use Rattle.regex_meta.proofs.ProgramLemmas.{leftmost_no_end, no_shorter_lem, IsLocated_end}
use Rattle.regex_syntax.specs.Grammar.{Names}
use Rattle.regex_syntax.specs.Verdict.{default_config, Reads}
use Rattle.regex_syntax.specs.WellFormed.{IsWellFormed}
use Rattle.regex.proofs.Utf8Lemmas.{find_str_of_filled}
use Rattle.sieve_eval.specs.Automata.{Finds}
use Rattle.sieve_eval.proofs.Patterns.{read_matches}
use Rattle.sieve_eval.proofs.TextParts.{text_parts}

-- of a pattern whose tree was read from a text
pub finds : (p : Program) (text : List ℕ) (tree : Hir) (names : Names) → tree ≡ p.hir → Reads default_config text tree names → IsWellFormed true tree → Finds p text
finds p text tree names same reads formed filled hay bytes =
    let all : All (λ b. b < 256) hay = All-from_get_or (λ b. b < 256) hay 0 (λ i _. bytes i) in
    let parts = text_parts p.hir (subst (IsWellFormed true) same formed) in
    ap is_some (find_str_of_filled (meaning p.hir) hay all ∣ parts ∣₁ (λ i t e. let long = no_shorter_lem p hay i t e in omega (arith, long, filled)) 0)
    ∙ read_matches text hay p.hir names (subst (λ t. Reads default_config text t names) same reads) bytes

-- what a run from the front of a text says that ends as soon as a match is known
abbrev pub Ended : Program → List ℕ → End → Type 0
Ended p hay = IsEnd p.dfa.nfa hay 0 (length hay) false true (end_from p.dfa.nfa hay (length hay) p.dfa.nfa.unanchored 0)

pub found : (p : Program) (hay : List ℕ) (end : ℕ) → All (λ b. b < 256) hay → Ended p hay (ended.At end) → true ≡ is_some (find (meaning p.hir) hay 0)
found p hay end bytes h = sym (IsLocated_end p hay bytes 0 end true h.2 h.3 h.0 h.1).0

pub none_found : (p : Program) (hay : List ℕ) → All (λ b. b < 256) hay → Ended p hay ended.NoMatch → false ≡ is_some (find (meaning p.hir) hay 0)
none_found p hay bytes h = sym (ap is_some (leftmost_no_end p hay bytes 0 (omega arith) h))
