-- A text writes one sieve at most.
use Rattle.std.proofs.Common.{◌≡◌, List, sym, ap, ◌∙◌, subst}
use Rattle.sieve_tokens.specs.declared.token.Token.{Token}
use Rattle.sieve_tokens.proofs.Covers.{tokens_one}
use Rattle.sieve_reader.specs.Grammar.{IsFile}
use Rattle.sieve_reader.specs.Laws.{OneSieve}
use Rattle.sieve_reader.specs.Leaf.{judged, IsRight}
use Rattle.sieve_reader.specs.Lexeme.{lexemes}
use Rattle.sieve_reader.specs.Reads.{paths_in, patterns_in}
use Rattle.sieve_reader.proofs.Files.{one_file}

pub one_sieve : OneSieve
one_sieve text this that first second =
    let (ts, are, file, patterns, paths) = first in
    let (us, also, other, texts, names) = second in
    let same : ts ≡ us = tokens_one text ts us are also in
    let items : this.items ≡ that.items = one_file judged 64 (lexemes text us) this.items that.items (subst (λ (t : List Token). IsFile IsRight 64 (lexemes text t) this.items) same file) other in
    let all_patterns : this.patterns ≡ that.patterns = patterns ∙ (ap (λ (t : List Token). patterns_in (lexemes text t)) same ∙ sym texts) in
    let all_paths : this.paths ≡ that.paths = paths ∙ (ap (λ (t : List Token). paths_in (lexemes text t)) same ∙ sym names) in
    λ i. record { items = items i; patterns = all_patterns i; paths = all_paths i }
