-- Actions, read with the words and literals that are right and with any.
use Rattle.std.proofs.Common.{◌≡◌, ℕ, ◌≤◌, Bool, true, false, List, [], ◌∷◌, Option, Ok, Err, refl, sym, ap, ◌∙◌, subst, arith}
use Rattle.field_types.specs.declared.value.Value.{Value}
use Rattle.field_types.specs.declared.value.Value.TheVariants as value
use Rattle.sieve_tokens.specs.declared.sign.Sign.TheVariants as signs
use Rattle.sieve_tokens.specs.declared.word.Keyword.{Keyword}
use Rattle.sieve_tokens.specs.declared.word.Keyword.TheVariants as words
use Rattle.sieve_reader.specs.Grammar.{IsPathName}
use Rattle.sieve_reader.specs.Leaf.{judged, Leaf, Reading}
use Rattle.sieve_reader.specs.Lexeme as lex
use Rattle.sieve_reader.specs.Lexeme.{Lexeme, Symbol}
use Rattle.sieve_reader.specs.Parse.{field, item_at, item_by, literal, path_name, put, put_source, read_map, refusal, row, sign, source_at, texts, texts_at, Parser, Read, ◌>>=◌}
use Rattle.sieve_reader.specs.Refusal as cause
use Rattle.sieve_reader.specs.Refusal.{nests}
use Rattle.sieve_tree.specs.declared.tree.How.{How}
use Rattle.sieve_tree.specs.declared.tree.How.TheVariants as how
use Rattle.sieve_tree.specs.declared.tree.PutSource.TheVariants as source
use Rattle.sieve_tree.specs.declared.tree.SieveItem.{SieveItem}
use Rattle.sieve_tree.specs.declared.tree.SieveItem.TheVariants as item
use Rattle.sieve_reader.proofs.Actions.{path_name_some, path_name_sound}
use Rattle.sieve_reader.proofs.Going.{alike, always, bind_runs, bound_completes, front, map_runs, pure_runs, unexpected_here, Any, Calm, Completes, Is, Ran, Runs}
use Rattle.sieve_reader.proofs.GoingRows.{row_runs, shrinks_of, Expects, Shrinks}
use Rattle.sieve_reader.proofs.GoingTests.{at_end, at_head, at_same, clash}
use Rattle.sieve_reader.proofs.GoingTokens.{every, field_runs, lexeme, literal_ends, literal_runs, path_name_runs, path_name_starts, sign_runs, sign_starts, Named, Same, Whatever}
use Rattle.sieve_reader.proofs.Tests.{Fits}
use Rattle.sieve_reader.proofs.Windows as window
use Rattle.sieve_reader.proofs.Windows.{leaf_at, paths_step, right_leaf, step, value_told, State}

calm_other : (s : State) → Is window.other s → Calm s
calm_other s is = subst Calm (sym is) tt

calm_named : (key : List ℕ) (s : State) → Named key s → Calm s
calm_named key s is = subst Calm (sym is) tt

-- a keyword that isn't `path` leads back to nothing
pub calm_word : (k : Keyword) → ((s : State) → step s (lex.key k) ≡ window.stays s (lex.key k)) → (s : State) → Calm s → Calm (step s (lex.key k))
calm_word k same window.other h = subst Calm (sym (same window.other)) tt
calm_word k same (window.named key) h = subst Calm (sym (same (window.named key))) tt
calm_word k same (window.operated key o) h = absurd h
calm_word k same (window.in_row key) h = absurd h
calm_word k same window.pathed h = absurd h
calm_word k same window.in_paths h = absurd h
calm_word k same window.matched h = absurd h

pub word_right : (k : Keyword) (s : State) → Calm s → right_leaf (leaf_at s (lex.key k)) ≡ true
word_right k window.other h = refl
word_right k (window.named key) h = refl
word_right k (window.operated key o) h = absurd h
word_right k (window.in_row key) h = absurd h
word_right k window.pathed h = absurd h
word_right k window.in_paths h = absurd h
word_right k window.matched h = absurd h

path_expects : (fits : Leaf → Option Reading) → Expects (path_name fits)
unfolding path_name
path_expects fits = refl

path_shrinks : (fits : Leaf → Option Reading) → Shrinks (path_name fits)
path_shrinks fits = shrinks_of (path_name fits) (IsPathName (Fits fits)) (path_name_sound fits) (path_name_some fits)

module _ (d e : ℕ) (le : d ≤ e) where
  -- ---- paths

  one_name : Runs false d e Any true (Is window.pathed) (always (Is window.other)) (λ r. read_map (λ name. name ∷ []) (path_name judged r)) (λ r. read_map (λ name. name ∷ []) (path_name every r))
  one_name =
      map_runs d e le Any true (Is window.pathed) (always (Is window.other)) Any (always (Is window.other)) (path_name judged) (path_name every) (λ name. name ∷ []) (λ name. name ∷ [])
      (path_name_runs d e window.pathed window.other (λ t. refl) (λ t. refl)) (λ x y r. tt) (λ x s h. h)

  names : Runs false d e Any true (Is window.pathed) (always (Is window.other)) (row (path_name judged)) (row (path_name every))
  names =
      row_runs d e le window.pathed window.in_paths window.other refl refl refl refl refl refl (path_name judged) (path_name every) (path_shrinks judged) (path_expects judged) (path_shrinks every) (path_expects every) path_name_starts
      (path_name_runs d e window.in_paths window.in_paths (λ t. refl) (λ t. refl))

  texts_starts : (b : Bool) → Completes b (texts every) []
  unfolding texts path_name
  texts_starts b = (lexeme (lex.quoted []) ∷ [], [] ∷ [], λ r tail. (refl, refl))

  module _ (s : State) (is : Is window.pathed s) (l : Lexeme) (ls : List Lexeme) where
    Listed : Read (List (List ℕ)) → Type 0
    Listed r = Ran false d e Any true s (always (Is window.other)) (texts every) (l ∷ ls) r

    listed : (x : Symbol) → l.symbol ≡ x → Listed (texts_at judged (l ∷ ls) x)
    unfolding texts Listed
    listed (lex.sign signs.OpenBracket) x =
        alike false d e Any s (always (Is window.other)) (texts every) (row (path_name every)) (l ∷ ls) (at_same (texts every) (row (path_name every)) l (λ r. ap (texts_at every (l ∷ r)) x)) (λ some. texts_starts false)
        (row (path_name judged) (l ∷ ls)) (names s is (l ∷ ls))
    listed y x =
        alike false d e Any s (always (Is window.other)) (texts every) (λ r. read_map (λ name. name ∷ []) (path_name every r)) (l ∷ ls)
        (at_same (texts every) (λ r. read_map (λ name. name ∷ []) (path_name every r)) l (λ r. ap (texts_at every (l ∷ r)) x)) (λ some. texts_starts false) (read_map (λ name. name ∷ []) (path_name judged (l ∷ ls)))
        (one_name s is (l ∷ ls))

  texts_runs : Runs false d e Any true (Is window.pathed) (always (Is window.other)) (texts judged) (texts every)
  unfolding texts Listed
  texts_runs s is [] = unexpected_here false d e s (texts every) [] (at_end (texts every) refl) (λ some. texts_starts false)
  texts_runs s is (l ∷ ls) = listed s is l ls l.symbol refl

  -- ---- setting a field

  put_source_starts : (b : Bool) (key : List ℕ) (way : How) → Completes b (put_source every key way) []
  unfolding put_source literal
  put_source_starts b key way = (lexeme (lex.quoted []) ∷ [], item.Put key way (source.Fixed (value.Flag true)) 0, λ r tail. (refl, refl))

  module _ (key : List ℕ) (way : How) (s : State) (is : Is (window.operated key signs.Assign) s) (l : Lexeme) (ls : List Lexeme) where
    Sourced : Read SieveItem → Type 0
    Sourced r = Ran false d e Any true s (always Calm) (put_source every key way) (l ∷ ls) r

    copied : List ℕ → SieveItem
    copied name = item.Put key way (source.Copy name) l.at

    fixed : Value → SieveItem
    fixed v = item.Put key way (source.Fixed v) l.at

    copy_runs : Runs false d e Any true Whatever (always Calm) (λ r. read_map copied (field judged r)) (λ r. read_map copied (field every r))
    copy_runs = map_runs d e le Same true Whatever Named Any (always Calm) (field judged) (field every) copied copied (field_runs d e) (λ x y r. tt) (λ x t named. calm_named x t named)

    fixed_runs : Runs false d e Any true (Is (window.operated key signs.Assign)) (always Calm) (λ r. read_map fixed (literal judged key r)) (λ r. read_map fixed (literal every key r))
    fixed_runs =
        map_runs d e le Any true (Is (window.operated key signs.Assign)) (always (Is window.other)) Any (always Calm) (literal judged key) (literal every key) fixed fixed
        (literal_runs d e key (window.operated key signs.Assign) window.other (λ x some. value_told (window.operated key signs.Assign) key x some refl) (λ x some. literal_ends key signs.Assign x some)) (λ x y r. tt) (λ x t h. calm_other t h)

    sourced : (x : Symbol) → l.symbol ≡ x → Sourced (source_at judged key way l.at (l ∷ ls) x)
    unfolding put_source Sourced copied fixed
    sourced (lex.name from) x =
        alike false d e Any s (always Calm) (put_source every key way) (λ r. read_map copied (field every r)) (l ∷ ls)
        (at_same (put_source every key way) (λ r. read_map copied (field every r)) l (λ r. ap (source_at every key way l.at (l ∷ r)) x)) (λ some. put_source_starts false key way) (read_map copied (field judged (l ∷ ls)))
        (copy_runs s tt (l ∷ ls))
    sourced y x =
        alike false d e Any s (always Calm) (put_source every key way) (λ r. read_map fixed (literal every key r)) (l ∷ ls)
        (at_same (put_source every key way) (λ r. read_map fixed (literal every key r)) l (λ r. ap (source_at every key way l.at (l ∷ r)) x)) (λ some. put_source_starts false key way) (read_map fixed (literal judged key (l ∷ ls)))
        (fixed_runs s is (l ∷ ls))

  put_source_runs : (key : List ℕ) (way : How) → Runs false d e Any true (Is (window.operated key signs.Assign)) (always Calm) (put_source judged key way) (put_source every key way)
  unfolding put_source Sourced
  put_source_runs key way s is [] = unexpected_here false d e s (put_source every key way) [] (at_end (put_source every key way) refl) (λ some. put_source_starts false key way)
  put_source_runs key way s is (l ∷ ls) = sourced key way s is l ls l.symbol refl

  abbrev assigned : (Leaf → Option Reading) → List ℕ → How → Parser SieveItem
  assigned fits key way r = sign signs.Assign r >>= λ q. put_source fits key way q.1

  assigned_starts : (key : List ℕ) (way : How) → Completes false (assigned every key way) []
  assigned_starts key way =
      bound_completes false 0 1 (omega arith) (sign signs.Assign) (λ q. put_source every key way q.1) (λ y some. put_source_starts false key way) [] (omega arith) (sign_starts false signs.Assign refl)

  assigned_runs : (key : List ℕ) (way : How) → Runs false d e Any true (Named key) (always Calm) (assigned judged key way) (assigned every key way)
  assigned_runs key way =
      bind_runs false d e le Any true (Named key) (always (Is (window.operated key signs.Assign))) Any true (always Calm) (sign signs.Assign) (sign signs.Assign) (λ q. put_source judged key way q.1) (λ q. put_source every key way q.1)
      (sign_runs d e signs.Assign (Named key) (Is (window.operated key signs.Assign)) refl refl (λ t is. ap (λ u. right_leaf (leaf_at u (lex.sign signs.Assign))) is) (λ t is. ap (λ u. step u (lex.sign signs.Assign)) is))
      (λ x y rel. put_source_runs key way) (λ y some. put_source_starts false key way)

  pub put_runs : (way : How) → Runs false d e Any true Whatever (always Calm) (put judged way) (put every way)
  unfolding put
  put_runs way =
      bind_runs false d e le Same true Whatever Named Any true (always Calm) (field judged) (field every) (λ p. assigned judged p.0 way p.1) (λ p. assigned every p.0 way p.1) (field_runs d e)
      (λ x y same. subst (λ k. Runs false d e Any true (Named x) (always Calm) (assigned judged x way) (assigned every k way)) same (assigned_runs x way)) (λ y some. assigned_starts y way)

  -- ---- actions

  path_runs : Runs false d e Any true (Is window.pathed) (always Calm) (λ r. read_map item.Path (texts judged r)) (λ r. read_map item.Path (texts every r))
  path_runs = map_runs d e le Any true (Is window.pathed) (always (Is window.other)) Any (always Calm) (texts judged) (texts every) item.Path item.Path texts_runs (λ x y r. tt) (λ x t h. calm_other t h)

  remove_runs : Runs false d e Any true Whatever (always Calm) (λ r. read_map item.Remove (field judged r)) (λ r. read_map item.Remove (field every r))
  remove_runs = map_runs d e le Same true Whatever Named Any (always Calm) (field judged) (field every) item.Remove item.Remove (field_runs d e) (λ x y r. tt) (λ x t h. calm_named x t h)

  pub item_starts : (b : Bool) (if_behind : Parser SieveItem) → Completes b (item_by every if_behind) []
  item_starts b if_behind = (lexeme (lex.key words.Keep) ∷ [], item.Keep, λ r tail. (refl, refl))

  module _ (chosen any_chosen : Parser SieveItem) (choices : Runs false d e Any true Calm (always Calm) chosen any_chosen) (s : State) (calm : Calm s) (l : Lexeme) (ls : List Lexeme) where
    Acted : Read SieveItem → Type 0
    Acted r = Ran false d e Any true s (always Calm) (item_by every any_chosen) (l ∷ ls) r

    -- behind a keyword
    behind : (k : Keyword) (v : Bool) (inner : Parser SieveItem) (r : Read SieveItem) → l.symbol ≡ lex.key k → ((all ls : List Lexeme) → item_at every any_chosen all (lex.key k) ls ≡ inner ls)
        → Ran false d e Any v (step s l.symbol) (always Calm) inner ls r → Acted r
    unfolding Acted
    behind k v inner r is same ran =
        front false d e Any s (always Calm) (item_by every any_chosen) inner l ls (λ r. ap (λ x. item_at every any_chosen (l ∷ r) x r) is ∙ same (l ∷ r) r) (ap (λ x. right_leaf (leaf_at s x)) is ∙ word_right k s calm)
        (λ n. absurd (clash (ap nests (sym is) ∙ n))) v r ran

    calm_behind : (k : Keyword) → l.symbol ≡ lex.key k → ((s : State) → step s (lex.key k) ≡ window.stays s (lex.key k)) → Calm (step s l.symbol)
    calm_behind k is same = subst (λ x. Calm (step s x)) (sym is) (calm_word k same s calm)

    -- an action of one word
    single : (k : Keyword) (i : SieveItem) → l.symbol ≡ lex.key k → ((all ls : List Lexeme) → item_at every any_chosen all (lex.key k) ls ≡ Ok (i, ls)) → ((s : State) → step s (lex.key k) ≡ window.stays s (lex.key k)) → Acted (Ok (i, ls))
    single k i is same word = behind k false (λ r. Ok (i, r)) (Ok (i, ls)) is same (pure_runs false d e Any Calm (always Calm) i i tt (λ t h. h) (step s l.symbol) (calm_behind k is word) ls)

    setting : (k : Keyword) (way : How) → l.symbol ≡ lex.key k → ((all ls : List Lexeme) → item_at every any_chosen all (lex.key k) ls ≡ put every way ls) → Acted (put judged way ls)
    setting k way is same = behind k true (put every way) (put judged way ls) is same (put_runs way (step s l.symbol) tt ls)

    unexpected : (x : Symbol) → l.symbol ≡ x → ((all ls : List Lexeme) → item_at every any_chosen all x ls ≡ Err (refusal cause.expected all)) → Acted (Err (refusal cause.expected (l ∷ ls)))
    unfolding Acted
    unexpected x is refuses =
        unexpected_here false d e s (item_by every any_chosen) (l ∷ ls) (at_head (item_by every any_chosen) l (λ r. ap (λ y. item_at every any_chosen (l ∷ r) y r) is ∙ refuses (l ∷ r) r)) (λ some. item_starts false any_chosen)

    acted : (x : Symbol) → l.symbol ≡ x → Acted (item_at judged chosen (l ∷ ls) x ls)
    acted (lex.key words.If) is = behind words.If true any_chosen (chosen ls) is (λ all r. refl) (choices (step s l.symbol) (calm_behind words.If is (λ t. refl)) ls)
    acted (lex.key words.Keep) is = single words.Keep item.Keep is (λ all r. refl) (λ t. refl)
    acted (lex.key words.Drop) is = single words.Drop item.Drop is (λ all r. refl) (λ t. refl)
    acted (lex.key words.Path) is =
        behind words.Path true (λ r. read_map item.Path (texts every r)) (read_map item.Path (texts judged ls)) is (λ all r. refl) (path_runs (step s l.symbol) (ap (step s) is) ls)
    acted (lex.key words.Add) is = setting words.Add how.Add is (λ all r. refl)
    acted (lex.key words.Force) is = setting words.Force how.Force is (λ all r. refl)
    acted (lex.key words.Update) is = setting words.Update how.Update is (λ all r. refl)
    acted (lex.key words.Remove) is =
        behind words.Remove true (λ r. read_map item.Remove (field every r)) (read_map item.Remove (field judged ls)) is (λ all r. refl) (remove_runs (step s l.symbol) tt ls)
    acted x is = unexpected x is (λ all r. refl)

  pub item_by_runs : (chosen any_chosen : Parser SieveItem) → Runs false d e Any true Calm (always Calm) chosen any_chosen → Runs false d e Any true Calm (always Calm) (item_by judged chosen) (item_by every any_chosen)
  unfolding Acted
  item_by_runs chosen any_chosen choices s calm [] = unexpected_here false d e s (item_by every any_chosen) [] (at_end (item_by every any_chosen) refl) (λ some. item_starts false any_chosen)
  item_by_runs chosen any_chosen choices s calm (l ∷ ls) = acted chosen any_chosen choices s calm l ls l.symbol refl
