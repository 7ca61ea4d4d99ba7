-- Files that have a code, one after the other.
use Rattle.std.proofs.Common.{◌≡◌, ◌<◌, ◌+◌, ℕ, List, [], ◌∷◌, ◌++◌, length, get_or, take, sym, ◌∙◌, ap, subst}
use Rattle.std.specs.List.{AllByRecursion}
use Rattle.std.proofs.lemmas.List.{take_more}
use Rattle.config_bundle.specs.Bundle.{IsFile}

abbrev File : Type 0
File = List ℕ × List ℕ

with_last : (files : List File) (file : File) → AllByRecursion IsFile files → IsFile file → AllByRecursion IsFile (files ++ file ∷ [])
with_last [] file all is = (is, tt)
with_last (first ∷ files) file all is = (all.0, with_last files file all.1 is)

pub one_more : (files : List File) (i : ℕ) (file : File) → i < length files → file ≡ get_or files i file → IsFile file → AllByRecursion IsFile (take i files) → AllByRecursion IsFile (take (i + 1) files)
one_more files i file within at is all =
    let more : take (i + 1) files ≡ take i files ++ file ∷ [] = take_more files i file within ∙ ap (λ (x : File). take i files ++ x ∷ []) (sym at) in
    subst (AllByRecursion IsFile) (sym more) (with_last (take i files) file all is)
