-- The fixed values of a sieve that is read are canonical.
use Rattle.std.proofs.Common.{◌≡◌, ⊎_elim, inl, inr, ℕ, zero, suc, Option, Some, None, Ok, List, [], ◌∷◌, sym, ap, subst, refl, ◌∙◌}
use Rattle.std.specs.Prelude.{option_and_then, option_map}
use Rattle.base_types.proofs.Everywhere.{all-append}
use Rattle.field_types.specs.Cleaning.{clean}
use Rattle.field_types.specs.Field.{type_of}
use Rattle.field_types.specs.declared.kind.FieldType.{FieldType}
use Rattle.field_types.specs.declared.value.Value.{Value}
use Rattle.field_types.proofs.CleanedTwice.{cleaned_stays}
use Rattle.sieve_tokens.specs.Token.{AreTokens}
use Rattle.sieve_tokens.specs.declared.token.Token.{Token}
use Rattle.sieve_tree.specs.Fixed.{all_fixed, fixed_at, fixed_in, AreCanonical, IsCanonical}
use Rattle.sieve_tree.specs.declared.tree.Cond.{Cond}
use Rattle.sieve_tree.specs.declared.tree.PutSource.{PutSource}
use Rattle.sieve_tree.specs.declared.tree.PutSource.TheVariants as source
use Rattle.sieve_tree.specs.declared.tree.SieveItem.{SieveItem}
use Rattle.sieve_tree.proofs.FixedValues.{cases_fixed, choice_fixed, drop_fixed, keep_fixed, path_fixed, put_fixed, remove_fixed}
use Rattle.sieve_reader.specs.Grammar.{AreItems, AreSeparated, IsAction, IsBlock, IsCase, IsChoice, IsCond, IsFile, IsItem, IsSource}
use Rattle.sieve_reader.specs.Leaf as leaf
use Rattle.sieve_reader.specs.Leaf.{judged, IsRight, Reading}
use Rattle.sieve_reader.specs.Lexeme.{lexemes, literal_of, Lexeme, Symbol}
use Rattle.sieve_reader.specs.Parse.{file}
use Rattle.sieve_reader.proofs.Answering.{read_file}

-- ---- a literal

abbrev value_of : Reading → Option Value
value_of (leaf.cleaned v) = Some v
value_of _ = None

-- what is read of a literal is canonical
canonical : (key : List ℕ) (kind : Option FieldType) (literal : Option Value) (v : Value)
    → option_map leaf.cleaned (option_and_then (λ k. option_and_then (clean k) literal) kind) ≡ Some (leaf.cleaned v)
    → option_and_then (λ k. clean k v) kind ≡ Some v
canonical key None literal v e = absurd (cc)
canonical key (Some k) None v e = absurd (cc)
canonical key (Some k) (Some u) v e = cleaned (clean k u) refl e
  where
    cleaned : (o : Option Value) → clean k u ≡ o → option_map leaf.cleaned o ≡ Some (leaf.cleaned v) → clean k v ≡ Some v
    cleaned None is e = absurd (cc)
    cleaned (Some w) is e = cleaned_stays k u v (is ∙ ap (option_and_then value_of) e)

source_canonical : (key : List ℕ) (symbol : Symbol) (from : PutSource) → IsSource IsRight key symbol from → AreCanonical (fixed_at key from)
source_canonical key symbol (source.Fixed v) is = (canonical key (type_of key) (literal_of symbol) v is.2, tt)
source_canonical key symbol (source.Copy other) is = tt

-- ---- items

abbrev Holds : SieveItem → Type 0
Holds i = AreCanonical (fixed_in i)

none : (i : SieveItem) → fixed_in i ≡ [] → Holds i
none i e = subst AreCanonical (sym e) tt

action_canonical : (us : List Lexeme) (i : SieveItem) → IsAction IsRight us i → Holds i
action_canonical us i h = elim h [
  | inl keep ↦ none i (ap fixed_in keep.0 ∙ keep_fixed)
  | inr more ↦ elim more [
    | inl out ↦ none i (ap fixed_in out.0 ∙ drop_fixed)
    | inr others ↦ elim others [
      | inl path ↦ none i (ap fixed_in path.1 ∙ path_fixed path.0)
      | inr last ↦ elim last [
        | inl set ↦
            let (key, way, from, at, same, is) = set in
            subst Holds (sym same) (subst AreCanonical (sym (put_fixed key way from at)) (source_canonical key is.3.symbol from is.10))
        | inr remove ↦ none i (ap fixed_in remove.1 ∙ remove_fixed remove.0)
      ]
    ]
  ]
]

module _ (Is : List Lexeme → SieveItem → Type 0) (each : (us : List Lexeme) (i : SieveItem) → Is us i → Holds i) where
  all_canonical : (us : List Lexeme) (items : List SieveItem) → AreItems Is us items → AreCanonical (all_fixed items)
  all_canonical us [] are = tt
  all_canonical us (i ∷ is) are =
      let (vs, ws, e, here, more) = are in
      all-append IsCanonical (fixed_in i) (all_fixed is) (each vs i here) (all_canonical ws is more)

  block_canonical : (us : List Lexeme) (items : List SieveItem) → IsBlock IsRight Is us items → AreCanonical (all_fixed items)
  block_canonical us items is = all_canonical is.1 items is.6

  module _ (IsC : List Lexeme → Cond → Type 0) where
    cases_canonical : (s : Symbol) (us : List Lexeme) (cases : List (Cond × List SieveItem)) → AreSeparated s (IsCase IsRight IsC (IsBlock IsRight Is)) us cases → AreCanonical (cases_fixed cases)
    cases_canonical s us [] are = absurd are
    cases_canonical s us (case ∷ []) are = all-append IsCanonical (all_fixed case.1) [] (block_canonical are.1 case.1 are.4) tt
    cases_canonical s us (case ∷ next ∷ cases) are =
        let (vs, l, ws, e, sign, here, more) = are in
        all-append IsCanonical (all_fixed case.1) (cases_fixed (next ∷ cases)) (block_canonical here.1 case.1 here.4) (cases_canonical s ws (next ∷ cases) more)

    choice_canonical : (us : List Lexeme) (i : SieveItem) → IsChoice IsRight IsC (IsBlock IsRight Is) us i → Holds i
    choice_canonical us i is =
        let (cases, otherwise, first, vs, ws, same, e, key, are, others) = is in
        let these = cases_canonical _ vs cases are in
        let those : AreCanonical (all_fixed otherwise) =
        ⊎_elim (λ none. subst (λ (m : List SieveItem). AreCanonical (all_fixed m)) (sym none.1) tt) (λ some. block_canonical some.1 otherwise some.4) others in
        subst Holds (sym same) (subst AreCanonical (sym (choice_fixed cases otherwise)) (all-append IsCanonical (cases_fixed cases) (all_fixed otherwise) these those))

item_canonical : (d : ℕ) (us : List Lexeme) (i : SieveItem) → IsItem IsRight d us i → Holds i
unfolding IsItem
item_canonical zero us i is = action_canonical us i is
item_canonical (suc d) us i is =
    ⊎_elim (action_canonical us i) (choice_canonical (IsItem IsRight d) (item_canonical d) (IsCond IsRight (suc d)) us i) is

-- in a sieve that is read, the fixed values are canonical
pub file_canonical : (d : ℕ) (us : List Lexeme) (items : List SieveItem) → IsFile IsRight d us items → AreCanonical (all_fixed items)
file_canonical d us items are = all_canonical (IsItem IsRight d) (item_canonical d) us items are

pub read_fixed : (text : List ℕ) (tokens : List Token) → AreTokens text tokens → (items : List SieveItem)
    → (rest : List Lexeme) × (file judged 64 (lexemes text tokens) ≡ Ok (items, rest)) → AreCanonical (all_fixed items)
read_fixed text tokens are items read =
    file_canonical 64 (lexemes text tokens) items (read_file text tokens are items read)
