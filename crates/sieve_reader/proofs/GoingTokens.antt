-- Single tokens, read with the words and literals that are right and with any.
use Rattle.std.proofs.Common.{◌≡◌, ℕ, pos, ◌<◌, ◌≤◌, Bool, true, false, List, [], ◌∷◌, ◌++◌, Option, Some, None, Ok, Err, refl, sym, ap, ◌∙◌, subst, arith}
use Rattle.std.specs.Prelude.{is_some, option_map, if◌then◌else◌, ◌^◌, ◌%◌, ◌-◌}
use Rattle.std.proofs.lemmas.Bool.{leb-true, ltb-true, eqb-true}
use Rattle.field_types.specs.Field.{type_of}
use Rattle.field_types.specs.declared.value.Value.{Value}
use Rattle.field_types.specs.declared.value.Value.TheVariants as value
use Rattle.scalar_net.specs.Family.{width}
use Rattle.scalar_net.specs.declared.network.Network.{Network}
use Rattle.sieve_tokens.specs.declared.sign.Sign.{Sign}
use Rattle.sieve_tokens.specs.declared.sign.Sign.TheVariants as signs
use Rattle.sieve_tokens.specs.declared.word.Keyword.TheVariants as words
use Rattle.sieve_reader.specs.Leaf as leaf
use Rattle.sieve_reader.specs.Leaf.{has_addresses, is_ordered, is_time, judged, kind_passes, network_of, path_in, Leaf, Reading}
use Rattle.sieve_reader.specs.Lexeme as lex
use Rattle.sieve_reader.specs.Lexeme.{amount_of, literal_of, Lexeme, Symbol}
use Rattle.sieve_reader.specs.Parse.{a_literal, amount, closed, field, fitted, if_plain, is_sign, literal, name_of, network, network_in, path_name, pattern, picked, picked_at, quoted_of, refusal, seconds_in, sign, span, text, the_sign, value_in, Parser}
use Rattle.sieve_tree.specs.Pattern.{pattern_of}
use Rattle.sieve_reader.specs.Refusal as cause
use Rattle.sieve_reader.specs.Refusal.{head, nests, Cause}
use Rattle.sieve_reader.specs.Span.{span_in}
use Rattle.sieve_tree.specs.declared.tree.Amount.{Amount}
use Rattle.sieve_tree.specs.declared.tree.Amount.TheVariants as numbers
use Rattle.sieve_reader.proofs.Going.{always, Is, lengthens, map_runs, no_opens, unexpected_here, Any, Completes, Ran, Runs, Stopped}
use Rattle.sieve_reader.proofs.Picks.{closed_is, is_own_sign, literal_is, name_is, network_is, plain_is, quoted_is, seconds_is, sign_is, sign_picked, value_is}
use Rattle.sieve_reader.proofs.Windows.{cause_of_leaf, leaf_at, order_told, paths_step, right_leaf, row_step, step, value_told, State, Told}
use Rattle.sieve_reader.proofs.Windows as window

-- ---- any words and literals

-- the network of all addresses
pub any_network : Network
any_network = record {
  ip = record { six = false; bits = 0; in_range = ltb-true 0 (2 ^ width false) refl };
  len = 0;
  within = leb-true 0 (width false) refl;
  host_bits_zero = eqb-true (0 % 2 ^ (width false - 0)) 0 refl;
}

-- every word and literal is right
abbrev pub every : Leaf → Option Reading
every (leaf.value key literal) = Some (leaf.cleaned (value.Flag true))
every (leaf.network key content) = Some (leaf.net any_network)
every (leaf.span key content) = Some (leaf.seconds 0)
every _ = Some leaf.plain

abbrev pub lexeme : Symbol → Lexeme
lexeme symbol = record { at = 0; patterns = 0; symbol = symbol }

pub headed : (r : List Lexeme) (l : Lexeme) → head r ≡ Some l → (behind : List Lexeme) × (r ≡ l ∷ behind)
headed [] l e = absurd (cc)
headed (m ∷ ms) l e = let same : m ≡ l = cc in (ms, ap (λ (x : Lexeme). x ∷ ms) same)

pub no_head : (r : List Lexeme) → head r ≡ None → r ≡ []
no_head [] e = refl
no_head (m ∷ ms) e = absurd (cc)

-- the token is refused as a word or a literal
pub told_here : {B : Type 0} (b : Bool) (d e : ℕ) (pre : State) (q : Parser B) (l : Lexeme) (ls : List Lexeme) (why : Cause) → Told pre l why → (d < e → Completes b q (l ∷ []))
    → Stopped b d e pre q why (l ∷ ls) (l ∷ ls)
told_here b d e pre q l ls cause.field told completes =
    record { us = []; split = refl; cleaned = refl; opens = no_opens b e q; blamed = told; stays = λ st r h. absurd st; completes = completes }
told_here b d e pre q l ls cause.value told completes =
    record { us = []; split = refl; cleaned = refl; opens = no_opens b e q; blamed = told; stays = λ st r h. absurd st; completes = completes }
told_here b d e pre q l ls cause.pattern told completes =
    record { us = []; split = refl; cleaned = refl; opens = no_opens b e q; blamed = told; stays = λ st r h. absurd st; completes = completes }
told_here b d e pre q l ls cause.expected told completes = absurd (no told.0 told.3)
  where
    no : (which : Leaf) → cause_of_leaf which ≡ cause.expected → ⊥
    no (leaf.field k) e = absurd (cc)
    no (leaf.value k x) e = absurd (cc)
    no (leaf.order k) e = absurd (cc)
    no (leaf.network k x) e = absurd (cc)
    no (leaf.span k x) e = absurd (cc)
    no (leaf.pattern x) e = absurd (cc)
    no (leaf.path x) e = absurd (cc)
told_here b d e pre q l ls cause.deep told completes = absurd (no told.0 told.3)
  where
    no : (which : Leaf) → cause_of_leaf which ≡ cause.deep → ⊥
    no (leaf.field k) e = absurd (cc)
    no (leaf.value k x) e = absurd (cc)
    no (leaf.order k) e = absurd (cc)
    no (leaf.network k x) e = absurd (cc)
    no (leaf.span k x) e = absurd (cc)
    no (leaf.pattern x) e = absurd (cc)
    no (leaf.path x) e = absurd (cc)

not_none : {A : Type 0} (x : A) → ◌≡◌ {A = Option A} (Some x) None → ⊥
not_none x e = absurd (cc)

-- ---- a token of a sort

module _ {A B C : Type 0} (d e : ℕ) (sort : Symbol → Option A) (fit : A → Option B) (any : A → Option C) (why : Cause) (Rel : B → C → Type 0) (Pre : State → Type 0) (Post : B → State → Type 0)
    (has : (a : A) → (c : C) × (any a ≡ Some c))
    (good : (s : State) → Pre s → (x : Symbol) (a : A) (y : B) → sort x ≡ Some a → fit a ≡ Some y → (right_leaf (leaf_at s x) ≡ true) × Post y (step s x) × ((c : C) → any a ≡ Some c → Rel y c))
    (bad : (s : State) → Pre s → (l : Lexeme) (a : A) → sort l.symbol ≡ Some a → fit a ≡ None → Told s l why)
    (quiet : (x : Symbol) (a : A) → sort x ≡ Some a → nests x ≡ false)
    (first : (x : Symbol) × (a : A) × (sort x ≡ Some a) × (lengthens x ≡ false)) where
  one_is : (l : Lexeme) (r : List Lexeme) (a : A) (c : C) → sort l.symbol ≡ Some a → any a ≡ Some c → picked sort any why (l ∷ r) ≡ Ok (c, r)
  one_is l r a c sorted fits = rw (sorted, fits) refl

  pub picked_starts : (b : Bool) → Completes b (picked sort any why) []
  picked_starts b =
      let (x, a, sorted, still) = first in
      let (c, fits) = has a in
      (lexeme x ∷ [], c, λ r tail. (still, one_is (lexeme x) r a c sorted fits))

  pub picked_runs : Runs false d e Rel true Pre Post (picked sort fit why) (picked sort any why)
  picked_runs s is [] = unexpected_here false d e s (picked sort any why) [] (λ r h. none r (no_head r h)) (λ some. picked_starts false)
    where
      none : (r : List Lexeme) → r ≡ [] → picked sort any why r ≡ Err (refusal cause.expected r)
      none [] is = refl
      none (l ∷ ls) is = absurd (cc)
  picked_runs s inside (l ∷ ls) = at_sort (sort l.symbol) refl
    where
      at_fit : (a : A) (o : Option B) → sort l.symbol ≡ Some a → fit a ≡ o → Ran false d e Rel true s Post (picked sort any why) (l ∷ ls) (fitted o why l ls)
      at_fit a (Some y) sorted fits =
          let (c, takes) = has a in
          let (right, next, related) = good s inside l.symbol a y sorted fits in
          record {
            us = l ∷ [];
            split = refl;
            some = omega arith;
            cleaned = rw right refl;
            state = next;
            opens = λ vs m ws at n. absurd (alone vs m ws at n sorted);
            y = c;
            rel = related c takes;
            passes = λ r like. one_is l r a c sorted takes;
          }
        where
          alone : (vs : List Lexeme) (m : Lexeme) (ws : List Lexeme) → l ∷ [] ≡ vs ++ m ∷ ws → nests m.symbol ≡ true → sort l.symbol ≡ Some a → ⊥
          alone [] m ws at n sorted =
              let same : l ≡ m = cc in
              let no = quiet l.symbol a sorted in
              clash (sym no ∙ (ap (λ (x : Lexeme). nests x.symbol) same ∙ n))
            where
              clash : false ≡ true → ⊥
              clash e = absurd (cc)
          alone (v ∷ []) m ws at n sorted = absurd (cc)
          alone (v ∷ w ∷ vs) m ws at n sorted = absurd (cc)
      at_fit a None sorted fits =
          let (c, takes) = has a in
          told_here false d e s (picked sort any why) l ls why (bad s inside l a sorted fits) (λ lt. ([], c, λ r tail. (tt, one_is l r a c sorted takes)))

      at_sort : (o : Option A) → sort l.symbol ≡ o → Ran false d e Rel true s Post (picked sort any why) (l ∷ ls) (picked_at o fit why l ls)
      at_sort None is =
          unexpected_here false d e s (picked sort any why) (l ∷ ls)
          (λ r h. let (behind, at) = headed r l h in
          let here : picked sort any why (l ∷ behind) ≡ Err (refusal cause.expected (l ∷ behind)) = rw is refl in
          subst (λ (m : List Lexeme). picked sort any why m ≡ Err (refusal cause.expected m)) (sym at) here)
          (λ some. picked_starts false)
      at_sort (Some a) is = at_fit a (fit a) is refl

-- ---- signs

sign_only : (s t : Sign) (x : Symbol) → the_sign s x ≡ Some t → x ≡ lex.sign s
sign_only s t x e = sign_picked s t x (is_sign s x) refl e

module _ (d e : ℕ) (s : Sign) (Pre Post : State → Type 0) (plain : nests (lex.sign s) ≡ false) (still : lengthens (lex.sign s) ≡ false)
    (right : (t : State) → Pre t → right_leaf (leaf_at t (lex.sign s)) ≡ true) (next : (t : State) → Pre t → Post (step t (lex.sign s))) where
  pub sign_runs : Runs false d e Any true Pre (always Post) (sign s) (sign s)
  unfolding sign
  sign_runs =
      picked_runs d e (the_sign s) (λ t. Some t) (λ t. Some t) cause.expected Any Pre (always Post) (λ a. (a, refl))
      (λ t inside x a y sorted fits. let is = sign_only s a x sorted in (ap (λ z. right_leaf (leaf_at t z)) is ∙ right t inside, subst (λ z. Post (step t z)) (sym is) (next t inside), λ c takes. tt))
      (λ t inside l a sorted fits. absurd (not_none a fits)) (λ x a sorted. ap nests (sign_only s a x sorted) ∙ plain) (lex.sign s, s, own, still)
    where
      own : the_sign s (lex.sign s) ≡ Some s
      own = rw (is_own_sign s) refl

  pub closed_runs : {A B : Type 0} (le : d ≤ e) (x : A) (y : B) → Runs false d e Any true Pre (always Post) (closed s x) (closed s y)
  closed_runs le x y = map_runs d e le Any true Pre (always Post) Any (always Post) (sign s) (sign s) (λ _. x) (λ _. y) sign_runs (λ a b r. tt) (λ a t h. h)

-- completed by the sign
pub sign_starts : (b : Bool) (s : Sign) → lengthens (lex.sign s) ≡ false → Completes b (sign s) []
sign_starts b s still = (lexeme (lex.sign s) ∷ [], s, λ r tail. (still, sign_is s (lexeme (lex.sign s)) r refl))

pub closed_starts : {A : Type 0} (b : Bool) (s : Sign) (x : A) → lengthens (lex.sign s) ≡ false → Completes b (closed s x) []
closed_starts b s x still = (lexeme (lex.sign s) ∷ [], x, λ r tail. (still, closed_is s x (lexeme (lex.sign s)) r refl))

-- ---- words and literals

-- what isn't there in the reader's outcome isn't in what is judged
plain_none : {A : Type 0} (x : A) (o : Option Reading) → ((r : Reading) → o ≡ Some r → r ≡ leaf.plain) → if_plain x o ≡ None → o ≡ None
plain_none x None only e = refl
plain_none x (Some leaf.plain) only e = absurd (cc)
plain_none x (Some (leaf.cleaned v)) only e = let no = only (leaf.cleaned v) refl in absurd (cc)
plain_none x (Some (leaf.net v)) only e = let no = only (leaf.net v) refl in absurd (cc)
plain_none x (Some (leaf.seconds v)) only e = let no = only (leaf.seconds v) refl in absurd (cc)

mapped_plain : {A : Type 0} (o : Option A) (r : Reading) → option_map (λ _. leaf.plain) o ≡ Some r → r ≡ leaf.plain
mapped_plain None r e = absurd (cc)
mapped_plain (Some x) r e = cc

if_plain_only : (b : Bool) (r : Reading) → (if b then Some leaf.plain else None) ≡ Some r → r ≡ leaf.plain
if_plain_only true r e = cc
if_plain_only false r e = absurd (cc)

path_only : (text : List ℕ) (r : Reading) → path_in text ≡ Some r → r ≡ leaf.plain
path_only [] r e = absurd (cc)
path_only (b ∷ bs) r e = cc

value_none : (o : Option Value) → value_in (option_map leaf.cleaned o) ≡ None → option_map leaf.cleaned o ≡ None
value_none None e = refl
value_none (Some v) e = absurd (cc)

network_none : (b : Bool) (o : Option Network) → network_in (if b then option_map leaf.net o else None) ≡ None → (if b then option_map leaf.net o else None) ≡ None
network_none false o e = refl
network_none true None e = refl
network_none true (Some n) e = absurd (cc)

span_none : (b : Bool) (o : Option ℕ) → seconds_in (if b then option_map leaf.seconds o else None) ≡ None → (if b then option_map leaf.seconds o else None) ≡ None
span_none false o e = refl
span_none true None e = refl
span_none true (Some n) e = absurd (cc)

right_is : (o : Option Leaf) (which : Leaf) (r : Reading) → o ≡ Some which → judged which ≡ Some r → right_leaf o ≡ true
right_is o which r at is = ap right_leaf at ∙ ap is_some is

some_same : {A : Type 0} (x y : A) → ◌≡◌ {A = Option A} (Some x) (Some y) → x ≡ y
some_same x y e = cc

-- a field
abbrev pub Same : {A : Type 0} → A → A → Type 0
Same x y = x ≡ y

name_quiet : (x : Symbol) (a : List ℕ) → name_of x ≡ Some a → nests x ≡ false
name_quiet x a e = ap nests (name_is x a e)

quoted_quiet : (x : Symbol) (a : List ℕ) → quoted_of x ≡ Some a → nests x ≡ false
quoted_quiet x a e = ap nests (quoted_is x a e)

abbrev pub Named : List ℕ → State → Type 0
Named key s = s ≡ window.named key

abbrev pub Whatever : State → Type 0
Whatever s = Unit {0}

pub field_runs : (d e : ℕ) → Runs false d e Same true Whatever Named (field judged) (field every)
unfolding field
field_runs d e =
    picked_runs d e name_of (λ key. if_plain key (judged (leaf.field key))) (λ key. if_plain key (every (leaf.field key))) cause.field Same Whatever Named (λ a. (a, refl))
    (λ s inside x a y sorted fits.
    let is = name_is x a sorted in
    let (right, same) = plain_is a y (judged (leaf.field a)) fits in (
      right_is (leaf_at s x) (leaf.field a) leaf.plain (ap (leaf_at s) is) right,
      ap (step s) is ∙ ap window.named same,
      λ c takes. sym same ∙ some_same a c takes,
    ))
    (λ s inside l a sorted fits. (leaf.field a, ap (leaf_at s) (name_is l.symbol a sorted), plain_none a (judged (leaf.field a)) (mapped_plain (type_of a)) fits, refl))
    name_quiet (lex.name [], [], refl, refl)

-- a literal for a field, with what comes before and behind
literal_quiet : (x a : Symbol) → a_literal x ≡ Some a → nests x ≡ false
literal_quiet x a e = by x (literal_is x a e).0
  where
    by : (x : Symbol) → is_some (literal_of x) ≡ true → nests x ≡ false
    by (lex.key k) is = refl
    by (lex.name k) is = refl
    by (lex.quoted k) is = refl
    by (lex.whole k) is = refl
    by (lex.decimal k) is = refl
    by (lex.sign k) is = absurd (cc)

module _ (d e : ℕ) (key : List ℕ) (pre post : State) (told : (x : Symbol) → is_some (literal_of x) ≡ true → leaf_at pre x ≡ Some (leaf.value key x)) (next : (x : Symbol) → is_some (literal_of x) ≡ true → step pre x ≡ post) where
  pub literal_runs : Runs false d e Any true (Is pre) (always (Is post)) (literal judged key) (literal every key)
  unfolding literal
  literal_runs =
      picked_runs d e a_literal (λ x. value_in (judged (leaf.value key x))) (λ x. value_in (every (leaf.value key x))) cause.value Any (Is pre) (always (Is post)) (λ a. (value.Flag true, refl))
      (λ s inside x a y sorted fits.
      let (some, same) = literal_is x a sorted in
      let right : judged (leaf.value key x) ≡ Some (leaf.cleaned y) = ap (λ z. judged (leaf.value key z)) same ∙ value_is (judged (leaf.value key a)) y fits in
      (right_is (leaf_at s x) (leaf.value key x) (leaf.cleaned y) (ap (λ t. leaf_at t x) inside ∙ told x some) right, ap (λ t. step t x) inside ∙ next x some, λ c takes. tt))
      (λ s inside l a sorted fits.
      let (some, same) = literal_is l.symbol a sorted in
      let none : judged (leaf.value key l.symbol) ≡ None = ap (λ z. judged (leaf.value key z)) same ∙ value_none _ fits in
      (leaf.value key l.symbol, ap (λ t. leaf_at t l.symbol) inside ∙ told l.symbol some, none, refl))
      literal_quiet (lex.quoted [], lex.quoted [], refl, refl)

pub literal_starts : (b : Bool) (key : List ℕ) → Completes b (literal every key) []
unfolding literal
literal_starts b key = (lexeme (lex.quoted []) ∷ [], value.Flag true, λ r tail. (refl, refl))

-- behind an operator that takes a literal
pub literal_ends : (key : List ℕ) (op : Sign) (x : Symbol) → is_some (literal_of x) ≡ true → step (window.operated key op) x ≡ window.other
literal_ends key op (lex.key words.True) e = refl
literal_ends key op (lex.key words.False) e = refl
literal_ends key op (lex.key k) e = absurd (cc)
literal_ends key op (lex.name k) e = absurd (cc)
literal_ends key op (lex.quoted k) e = refl
literal_ends key op (lex.whole k) e = refl
literal_ends key op (lex.decimal k) e = refl
literal_ends key op (lex.sign k) e = absurd (cc)

-- in a row
pub row_literal : (key : List ℕ) (x : Symbol) → is_some (literal_of x) ≡ true → step (window.in_row key) x ≡ window.in_row key
row_literal key x some = row_step key x (in_row_too x some)
  where
    in_row_too : (x : Symbol) → is_some (literal_of x) ≡ true → cause.is_in_row x ≡ true
    in_row_too (lex.key k) e = e
    in_row_too (lex.name k) e = e
    in_row_too (lex.quoted k) e = e
    in_row_too (lex.whole k) e = e
    in_row_too (lex.decimal k) e = e
    in_row_too (lex.sign signs.Comma) e = refl
    in_row_too (lex.sign k) e = absurd (cc)

-- a number
amount_quiet : (x : Symbol) (a : Amount) → amount_of x ≡ Some a → nests x ≡ false
amount_quiet (lex.key k) a e = refl
amount_quiet (lex.name k) a e = refl
amount_quiet (lex.quoted k) a e = refl
amount_quiet (lex.whole k) a e = refl
amount_quiet (lex.decimal k) a e = refl
amount_quiet (lex.sign k) a e = absurd (cc)

amount_ends : (key : List ℕ) (op : Sign) (x : Symbol) (a : Amount) → amount_of x ≡ Some a → step (window.operated key op) x ≡ window.other
amount_ends key op (lex.key k) a e = absurd (cc)
amount_ends key op (lex.name k) a e = absurd (cc)
amount_ends key op (lex.quoted k) a e = absurd (cc)
amount_ends key op (lex.whole k) a e = refl
amount_ends key op (lex.decimal k) a e = refl
amount_ends key op (lex.sign k) a e = absurd (cc)

module _ (d e : ℕ) (key : List ℕ) (op : Sign) (told : (x : Symbol) → is_some (amount_of x) ≡ true → leaf_at (window.operated key op) x ≡ Some (leaf.order key)) where
  pub amount_runs : Runs false d e Any true (Is (window.operated key op)) (always (Is window.other)) (amount judged key) (amount every key)
  unfolding amount
  amount_runs =
      picked_runs d e amount_of (λ n. if_plain n (judged (leaf.order key))) (λ n. if_plain n (every (leaf.order key))) cause.value Any (Is (window.operated key op)) (always (Is window.other)) (λ a. (a, refl))
      (λ s inside x a y sorted fits.
      let (right, same) = plain_is a y (judged (leaf.order key)) fits in
      (right_is (leaf_at s x) (leaf.order key) leaf.plain (ap (λ t. leaf_at t x) inside ∙ told x (ap is_some sorted)) right, ap (λ t. step t x) inside ∙ amount_ends key op x a sorted, λ c takes. tt))
      (λ s inside l a sorted fits. (leaf.order key, ap (λ t. leaf_at t l.symbol) inside ∙ told l.symbol (ap is_some sorted), plain_none a (judged (leaf.order key)) (if_plain_only (kind_passes is_ordered key)) fits, refl))
      amount_quiet (lex.whole (pos 0), amount_is, refl, refl)
    where
      amount_is : Amount
      amount_is = numbers.Whole (pos 0)

-- a quoted text
module _ {B C : Type 0} (d e : ℕ) (fit : List ℕ → Option B) (any : List ℕ → Option C) (why : Cause) (make : List ℕ → Leaf) (pre post : State)
    (has : (text : List ℕ) → (c : C) × (any text ≡ Some c)) (told : (text : List ℕ) → leaf_at pre (lex.quoted text) ≡ Some (make text)) (next : (text : List ℕ) → step pre (lex.quoted text) ≡ post)
    (right : (text : List ℕ) (y : B) → fit text ≡ Some y → (r : Reading) × (judged (make text) ≡ Some r)) (wrong : (text : List ℕ) → fit text ≡ None → judged (make text) ≡ None)
    (blame : (text : List ℕ) → cause_of_leaf (make text) ≡ why) where
  pub quoted_runs : Runs false d e Any true (Is pre) (always (Is post)) (picked quoted_of fit why) (picked quoted_of any why)
  quoted_runs =
      picked_runs d e quoted_of fit any why Any (Is pre) (always (Is post)) has
      (λ s inside x a y sorted fits.
      let is = quoted_is x a sorted in
      let (r, good) = right a y fits in
      (right_is (leaf_at s x) (make a) r (ap (λ t. leaf_at t x) inside ∙ (ap (leaf_at pre) is ∙ told a)) good, ap (λ t. step t x) inside ∙ (ap (step pre) is ∙ next a), λ c takes. tt))
      (λ s inside l a sorted fits. (make a, ap (λ t. leaf_at t l.symbol) inside ∙ (ap (leaf_at pre) (quoted_is l.symbol a sorted) ∙ told a), wrong a fits, blame a)) quoted_quiet (lex.quoted [], [], refl, refl)

-- one that is no leaf
pub text_runs : (d e : ℕ) (key : List ℕ) → Runs false d e Any true (Is (window.operated key signs.Contains)) (always (Is window.other)) (text judged) (text every)
unfolding text
text_runs d e key =
    picked_runs d e quoted_of (λ t. Some t) (λ t. Some t) cause.expected Any (Is (window.operated key signs.Contains)) (always (Is window.other)) (λ a. (a, refl))
    (λ s inside x a y sorted fits.
    let is = quoted_is x a sorted in
    (ap (λ t. right_leaf (leaf_at t x)) inside ∙ ap (λ z. right_leaf (leaf_at (window.operated key signs.Contains) z)) is, ap (λ t. step t x) inside ∙ ap (step (window.operated key signs.Contains)) is, λ c takes. tt))
    (λ s inside l a sorted fits. absurd (not_none a fits)) quoted_quiet (lex.quoted [], [], refl, refl)

pub network_runs : (d e : ℕ) (key : List ℕ) → Runs false d e Any true (Is (window.operated key signs.Within)) (always (Is window.other)) (network judged key) (network every key)
unfolding network
network_runs d e key =
    quoted_runs d e (λ t. network_in (judged (leaf.network key t))) (λ t. network_in (every (leaf.network key t))) cause.value (leaf.network key) (window.operated key signs.Within) window.other (λ t. (any_network, refl))
    (λ t. refl) (λ t. refl) (λ t y fits. (leaf.net y, network_is (judged (leaf.network key t)) y fits)) (λ t fits. network_none (kind_passes has_addresses key) (network_of t) fits) (λ t. refl)

pub span_runs : (d e : ℕ) (key : List ℕ) (op : Sign) → ((t : List ℕ) → leaf_at (window.operated key op) (lex.quoted t) ≡ Some (leaf.span key t))
    → Runs false d e Any true (Is (window.operated key op)) (always (Is window.other)) (span judged key) (span every key)
unfolding span
span_runs d e key op told =
    quoted_runs d e (λ t. seconds_in (judged (leaf.span key t))) (λ t. seconds_in (every (leaf.span key t))) cause.value (leaf.span key) (window.operated key op) window.other (λ t. (0, refl)) told (λ t. refl)
    (λ t y fits. (leaf.seconds y, seconds_is (judged (leaf.span key t)) y fits)) (λ t fits. span_none (kind_passes is_time key) (span_in t) fits) (λ t. refl)

pub pattern_runs : (d e : ℕ) (key : List ℕ) (op : Sign) (before : ℕ) → ((t : List ℕ) → leaf_at (window.operated key op) (lex.quoted t) ≡ Some (leaf.pattern t))
    → Runs false d e Any true (Is (window.operated key op)) (always (Is window.other)) (pattern judged before) (pattern every before)
unfolding pattern
pattern_runs d e key op before told =
    quoted_runs d e (λ t. if_plain before (judged (leaf.pattern t))) (λ t. if_plain before (every (leaf.pattern t))) cause.pattern leaf.pattern (window.operated key op) window.other (λ t. (before, refl)) told (λ t. refl)
    (λ t y fits. (leaf.plain, (plain_is before y (judged (leaf.pattern t)) fits).0)) (λ t fits. plain_none before (judged (leaf.pattern t)) (mapped_plain (pattern_of t)) fits) (λ t. refl)

-- a path's name, with what comes before and behind
pub path_name_runs : (d e : ℕ) (pre post : State) → ((t : List ℕ) → leaf_at pre (lex.quoted t) ≡ Some (leaf.path t)) → ((t : List ℕ) → step pre (lex.quoted t) ≡ post)
    → Runs false d e Any true (Is pre) (always (Is post)) (path_name judged) (path_name every)
unfolding path_name
path_name_runs d e pre post told next =
    quoted_runs d e (λ t. if_plain t (judged (leaf.path t))) (λ t. if_plain t (every (leaf.path t))) cause.value leaf.path pre post (λ t. (t, refl)) told next
    (λ t y fits. (leaf.plain, (plain_is t y (judged (leaf.path t)) fits).0)) (λ t fits. plain_none t (judged (leaf.path t)) (path_only t) fits) (λ t. refl)

pub path_name_starts : (b : Bool) → Completes b (path_name every) []
unfolding path_name
path_name_starts b = (lexeme (lex.quoted []) ∷ [], [], λ r tail. (refl, refl))
