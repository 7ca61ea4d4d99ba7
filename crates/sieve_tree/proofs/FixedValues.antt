-- The fixed values of each kind of item.
use Rattle.std.proofs.Common.{◌≡◌, ℕ, List, [], ◌∷◌, ◌++◌, map, refl, sym, ap, ◌∙◌}
use Rattle.std.specs.List.{flat_map}
use Rattle.sieve_tree.specs.Fixed.{all_fixed, fixed_at, fixed_in, fixed_with, joined, Settings}
use Rattle.sieve_tree.specs.declared.tree.Cond.{Cond}
use Rattle.sieve_tree.specs.declared.tree.How.{How}
use Rattle.sieve_tree.specs.declared.tree.PutSource.{PutSource}
use Rattle.sieve_tree.specs.declared.tree.SieveItem.{SieveItem}
use Rattle.sieve_tree.specs.declared.tree.SieveItem.TheFolds.{fold-roll-SieveItem}
use Rattle.sieve_tree.specs.declared.tree.SieveItem.TheOpen.{SieveItem-F}
use Rattle.sieve_tree.specs.declared.tree.SieveItem.TheVariants as item
use Rattle.sieve_tree.specs.declared.tree.SieveItem.TheVariants.{rolls-Choice, rolls-Drop, rolls-Keep, rolls-Path, rolls-Put, rolls-Remove}

-- ---- a choice

abbrev pub cases_fixed : List (Cond × List SieveItem) → Settings
cases_fixed cases = flat_map (λ case. all_fixed case.1) cases

-- the same case, with something else in it
abbrev pub inside : {A B : Type 0} → (A → B) → Cond × List A → Cond × List B
inside f case = (case.0, map f case.1)

cases_mapped : (cases : List (Cond × List SieveItem)) → flat_map (λ (case : Cond × List Settings). joined case.1) (map (inside fixed_in) cases) ≡ cases_fixed cases
cases_mapped [] = refl
cases_mapped (case ∷ cases) = ap (λ rest. all_fixed case.1 ++ rest) (cases_mapped cases)

pub choice_fixed : (cases : List (Cond × List SieveItem)) (otherwise : List SieveItem) → fixed_in (item.Choice cases otherwise) ≡ cases_fixed cases ++ all_fixed otherwise
choice_fixed cases otherwise =
    ap fixed_in (sym (rolls-Choice cases otherwise))
    ∙ (fold-roll-SieveItem Settings fixed_with (SieveItem-F.Choice cases otherwise) ∙ ap (λ front. front ++ all_fixed otherwise) (cases_mapped cases))

-- ---- the other items

pub put_fixed : (key : List ℕ) (way : How) (from : PutSource) (at : ℕ) → fixed_in (item.Put key way from at) ≡ fixed_at key from
put_fixed key way from at = ap fixed_in (sym (rolls-Put key way from at)) ∙ fold-roll-SieveItem Settings fixed_with (SieveItem-F.Put key way from at)

pub keep_fixed : fixed_in item.Keep ≡ []
keep_fixed = ap fixed_in (sym rolls-Keep) ∙ fold-roll-SieveItem Settings fixed_with SieveItem-F.Keep

pub drop_fixed : fixed_in item.Drop ≡ []
drop_fixed = ap fixed_in (sym rolls-Drop) ∙ fold-roll-SieveItem Settings fixed_with SieveItem-F.Drop

pub path_fixed : (names : List (List ℕ)) → fixed_in (item.Path names) ≡ []
path_fixed names = ap fixed_in (sym (rolls-Path names)) ∙ fold-roll-SieveItem Settings fixed_with (SieveItem-F.Path names)

pub remove_fixed : (key : List ℕ) → fixed_in (item.Remove key) ≡ []
remove_fixed key = ap fixed_in (sym (rolls-Remove key)) ∙ fold-roll-SieveItem Settings fixed_with (SieveItem-F.Remove key)
