-- Which word or literal a token is, by the tokens before it.
use Rattle.std.proofs.Common.{◌≡◌, ◌⊎◌, ℕ, Bool, true, false, List, [], ◌∷◌, ◌++◌, Option, Some, None, refl, sym, ap, ◌∙◌, subst, inl, inr, append_assoc}
use Rattle.std.specs.Prelude.{is_some, ◌&&◌, if◌then◌else◌, option_map}
use Rattle.std.specs.List.{list_all}
use Rattle.std.proofs.lemmas.Bool.{and_from, and_parts}
use Rattle.std.proofs.lemmas.List.{append-nil}
use Rattle.std.proofs.lemmas.List.Folds.{list_all-append}
use Rattle.field_types.specs.Field.{type_of}
use Rattle.sieve_tokens.specs.declared.sign.Sign.{Sign}
use Rattle.sieve_tokens.specs.declared.sign.Sign.TheVariants as signs
use Rattle.sieve_tokens.specs.declared.word.Keyword.TheVariants as words
use Rattle.sieve_reader.specs.Leaf as leaf
use Rattle.sieve_reader.specs.Leaf.{judged, Leaf, Reading}
use Rattle.sieve_reader.specs.Lexeme as lex
use Rattle.sieve_reader.specs.Lexeme.{amount_of, literal_of, symbols, Lexeme, Symbol}
use Rattle.sieve_tree.specs.Pattern.{pattern_of}
use Rattle.sieve_reader.specs.Refusal as cause
use Rattle.sieve_reader.specs.Refusal.{is_in_row, is_in_texts, is_moment, is_order, is_pattern_op, nests, takes_value, Cause, EndsIn, IsLeafAt, IsWrong}
use Rattle.sieve_reader.proofs.Picks.{if_some}

-- ---- what the last tokens are

pub data State : Type 0 where
  other : State
  -- a name; a name and an operator; a row of literals for a field
  named : List ℕ → State
  operated : List ℕ → Sign → State
  in_row : List ℕ → State
  -- `path`; a row of path names
  pathed : State
  in_paths : State
  -- the sign of a pattern
  matched : State

abbrev pub stays : State → Symbol → State
stays (in_row key) symbol = if is_in_row symbol then in_row key else other
stays in_paths symbol = if is_in_texts symbol then in_paths else other
stays _ symbol = other

-- the signs of operators, and `=`
abbrev pub operates : Sign → Bool
operates signs.Equal = true
operates signs.Differs = true
operates signs.Assign = true
operates signs.Contains = true
operates signs.Matches = true
operates signs.NotMatches = true
operates signs.Less = true
operates signs.LessOrEqual = true
operates signs.Greater = true
operates signs.GreaterOrEqual = true
operates signs.Within = true
operates signs.In = true
operates signs.Before = true
operates signs.After = true
operates _ = false

abbrev pub by_sign : State → Sign → State
by_sign (named key) op = if operates op then operated key op else other
by_sign (operated key signs.In) signs.OpenBracket = in_row key
by_sign pathed signs.OpenBracket = in_paths
by_sign s op = if is_pattern_op op then matched else stays s (lex.sign op)

abbrev pub step : State → Symbol → State
step s (lex.name key) = named key
step s (lex.key words.Path) = pathed
step s (lex.sign op) = by_sign s op
step s symbol = stays s symbol

abbrev pub after : State → List Lexeme → State
after s [] = s
after s (l ∷ ls) = after (step s l.symbol) ls

-- ---- the word or the literal that stands there

abbrev pub value_leaf : List ℕ → Symbol → Option Leaf
value_leaf key symbol = if is_some (literal_of symbol) then Some (leaf.value key symbol) else None

abbrev pub text_leaf : (List ℕ → Leaf) → Symbol → Option Leaf
text_leaf make (lex.quoted text) = Some (make text)
text_leaf make _ = None

abbrev pub order_leaf : List ℕ → Symbol → Option Leaf
order_leaf key symbol = if is_some (amount_of symbol) then Some (leaf.order key) else None

abbrev pub is_within : Sign → Bool
is_within signs.Within = true
is_within _ = false

abbrev pub operand_leaf : List ℕ → Sign → Symbol → Option Leaf
operand_leaf key op symbol =
    if takes_value op then value_leaf key symbol
    else if is_order op then order_leaf key symbol
    else if is_moment op then text_leaf (leaf.span key) symbol
    else if is_pattern_op op then text_leaf leaf.pattern symbol
    else if is_within op then text_leaf (leaf.network key) symbol
    else None

abbrev pub literal_leaf : State → Symbol → Option Leaf
literal_leaf (operated key op) symbol = operand_leaf key op symbol
literal_leaf (in_row key) symbol = value_leaf key symbol
literal_leaf pathed symbol = text_leaf leaf.path symbol
literal_leaf in_paths symbol = text_leaf leaf.path symbol
literal_leaf matched symbol = text_leaf leaf.pattern symbol
literal_leaf _ symbol = None

abbrev pub leaf_at : State → Symbol → Option Leaf
leaf_at s (lex.name key) = Some (leaf.field key)
leaf_at s symbol = literal_leaf s symbol

abbrev pub cause_of_leaf : Leaf → Cause
cause_of_leaf (leaf.field key) = cause.field
cause_of_leaf (leaf.pattern text) = cause.pattern
cause_of_leaf _ = cause.value

abbrev pub right_leaf : Option Leaf → Bool
right_leaf None = true
right_leaf (Some which) = is_some (judged which)

-- no word or literal among them is wrong
abbrev pub clean : State → List Lexeme → Bool
clean s [] = true
clean s (l ∷ ls) = right_leaf (leaf_at s l.symbol) && clean (step s l.symbol) ls

pub after_append : (s : State) (us vs : List Lexeme) → after s (us ++ vs) ≡ after (after s us) vs
after_append s [] vs = refl
after_append s (u ∷ us) vs = after_append (step s u.symbol) us vs

pub clean_append : (s : State) (us vs : List Lexeme) → clean s us ≡ true → clean (after s us) vs ≡ true → clean s (us ++ vs) ≡ true
clean_append s [] vs this that = that
clean_append s (u ∷ us) vs this that =
    let parts = and_parts (right_leaf (leaf_at s u.symbol)) (clean (step s u.symbol) us) this in
    and_from (right_leaf (leaf_at s u.symbol)) (clean (step s u.symbol) (us ++ vs)) parts.0 (clean_append (step s u.symbol) us vs parts.1 that)

pub clean_at : (s : State) (us : List Lexeme) (l : Lexeme) (ws : List Lexeme) → clean s (us ++ l ∷ ws) ≡ true → right_leaf (leaf_at (after s us) l.symbol) ≡ true
clean_at s [] l ws e = (and_parts (right_leaf (leaf_at s l.symbol)) (clean (step s l.symbol) ws) e).0
clean_at s (u ∷ us) l ws e = clean_at (step s u.symbol) us l ws (and_parts (right_leaf (leaf_at s u.symbol)) (clean (step s u.symbol) (us ++ l ∷ ws)) e).1

-- ---- from the windows of the definition

abbrev after_symbols : State → List Symbol → State
after_symbols s [] = s
after_symbols s (x ∷ xs) = after_symbols (step s x) xs

by_symbols : (s : State) (us : List Lexeme) → after s us ≡ after_symbols s (symbols us)
by_symbols s [] = refl
by_symbols s (u ∷ us) = by_symbols (step s u.symbol) us

symbols_append : (s : State) (xs ys : List Symbol) → after_symbols s (xs ++ ys) ≡ after_symbols (after_symbols s xs) ys
symbols_append s [] ys = refl
symbols_append s (x ∷ xs) ys = symbols_append (step s x) xs ys

ends_in : (us : List Lexeme) (last : List Symbol) → EndsIn us last → (s : State) × (after other us ≡ after_symbols s last)
ends_in us last h =
    (after_symbols other h.0, by_symbols other us ∙ (ap (after_symbols other) h.1 ∙ symbols_append other h.0 last))

pub row_step : (key : List ℕ) (x : Symbol) → is_in_row x ≡ true → step (in_row key) x ≡ in_row key
row_step key (lex.key words.True) e = refl
row_step key (lex.key words.False) e = refl
row_step key (lex.key k) e = absurd (cc)
row_step key (lex.name k) e = absurd (cc)
row_step key (lex.quoted k) e = refl
row_step key (lex.whole k) e = refl
row_step key (lex.decimal k) e = refl
row_step key (lex.sign signs.Comma) e = refl
row_step key (lex.sign k) e = absurd (cc)

row_stays : (key : List ℕ) (row : List Symbol) → list_all is_in_row row ≡ true → after_symbols (in_row key) row ≡ in_row key
row_stays key [] e = refl
row_stays key (x ∷ xs) e =
    let parts = and_parts (is_in_row x) (list_all is_in_row xs) e in
    ap (λ s. after_symbols s xs) (row_step key x parts.0) ∙ row_stays key xs parts.1

pub paths_step : (x : Symbol) → is_in_texts x ≡ true → step in_paths x ≡ in_paths
paths_step (lex.quoted k) e = refl
paths_step (lex.sign signs.Comma) e = refl
paths_step (lex.key k) e = absurd (cc)
paths_step (lex.name k) e = absurd (cc)
paths_step (lex.whole k) e = absurd (cc)
paths_step (lex.decimal k) e = absurd (cc)
paths_step (lex.sign k) e = absurd (cc)

paths_stay : (row : List Symbol) → list_all is_in_texts row ≡ true → after_symbols in_paths row ≡ in_paths
paths_stay [] e = refl
paths_stay (x ∷ xs) e =
    let parts = and_parts (is_in_texts x) (list_all is_in_texts xs) e in
    ap (λ s. after_symbols s xs) (paths_step x parts.0) ∙ paths_stay xs parts.1

-- a literal, a number or a quoted text is no name
pub value_told : (s : State) (key : List ℕ) (x : Symbol) → is_some (literal_of x) ≡ true → literal_leaf s x ≡ value_leaf key x → leaf_at s x ≡ Some (leaf.value key x)
value_told s key (lex.key k) some e = e ∙ rw some refl
value_told s key (lex.name k) some e = absurd (cc)
value_told s key (lex.quoted k) some e = e
value_told s key (lex.whole k) some e = e
value_told s key (lex.decimal k) some e = e
value_told s key (lex.sign k) some e = absurd (cc)

pub order_told : (s : State) (key : List ℕ) (x : Symbol) → is_some (amount_of x) ≡ true → literal_leaf s x ≡ order_leaf key x → leaf_at s x ≡ Some (leaf.order key)
order_told s key (lex.key k) some e = absurd (cc)
order_told s key (lex.name k) some e = absurd (cc)
order_told s key (lex.quoted k) some e = absurd (cc)
order_told s key (lex.whole k) some e = e
order_told s key (lex.decimal k) some e = e
order_told s key (lex.sign k) some e = absurd (cc)

pub text_told : (s : State) (make : List ℕ → Leaf) (x : Symbol) (text : List ℕ) → x ≡ lex.quoted text → literal_leaf s (lex.quoted text) ≡ Some (make text) → leaf_at s x ≡ Some (make text)
text_told s make x text is e = ap (leaf_at s) is ∙ e

pub value_op : (key : List ℕ) (op : Sign) (x : Symbol) → takes_value op ≡ true → operand_leaf key op x ≡ value_leaf key x
value_op key op x is = rw is refl

order_op : (key : List ℕ) (op : Sign) (x : Symbol) → is_order op ≡ true → operand_leaf key op x ≡ order_leaf key x
order_op key signs.Less x is = refl
order_op key signs.LessOrEqual x is = refl
order_op key signs.Greater x is = refl
order_op key signs.GreaterOrEqual x is = refl
order_op key op x is = absurd (cc)

moment_op : (key : List ℕ) (op : Sign) (text : List ℕ) → is_moment op ≡ true → operand_leaf key op (lex.quoted text) ≡ Some (leaf.span key text)
moment_op key signs.Before text is = refl
moment_op key signs.After text is = refl
moment_op key op text is = absurd (cc)

takes_operates : (op : Sign) → takes_value op ≡ true → operates op ≡ true
takes_operates signs.Equal is = refl
takes_operates signs.Differs is = refl
takes_operates signs.Assign is = refl
takes_operates op is = absurd (cc)

order_operates : (op : Sign) → is_order op ≡ true → operates op ≡ true
order_operates signs.Less is = refl
order_operates signs.LessOrEqual is = refl
order_operates signs.Greater is = refl
order_operates signs.GreaterOrEqual is = refl
order_operates op is = absurd (cc)

moment_operates : (op : Sign) → is_moment op ≡ true → operates op ≡ true
moment_operates signs.Before is = refl
moment_operates signs.After is = refl
moment_operates op is = absurd (cc)

-- behind a field and its operator
op_state : (key : List ℕ) (op : Sign) → operates op ≡ true → by_sign (named key) op ≡ operated key op
op_state key op is = rw is refl

-- behind the sign of a pattern
pattern_op : (s : State) (op : Sign) (text : List ℕ) → is_pattern_op op ≡ true → literal_leaf (by_sign s op) (lex.quoted text) ≡ Some (leaf.pattern text)
pattern_op other op text is = rw is refl
pattern_op (named key) signs.Matches text is = refl
pattern_op (named key) signs.NotMatches text is = refl
pattern_op (operated key signs.In) signs.Matches text is = refl
pattern_op (operated key signs.In) signs.NotMatches text is = refl
pattern_op (operated key _) signs.Matches text is = refl
pattern_op (operated key _) signs.NotMatches text is = refl
pattern_op (in_row key) op text is = rw is refl
pattern_op pathed signs.Matches text is = refl
pattern_op pathed signs.NotMatches text is = refl
pattern_op in_paths op text is = rw is refl
pattern_op matched op text is = rw is refl
pattern_op s op text is = absurd (cc)

-- the literal of an operator or an action is told
pub leaf_told : (us : List Lexeme) (x : Symbol) (which : Leaf) → IsLeafAt us x which → leaf_at (after other us) x ≡ Some which
leaf_told us x (leaf.value key literal) h =
    let (same, some, at) = h in
    let is_literal : is_some (literal_of x) ≡ true = ap (λ y. is_some (literal_of y)) same ∙ some in
    let told : leaf_at (after other us) x ≡ Some (leaf.value key x) = elim at [
      | inl one ↦
          let (s, is) = ends_in us (lex.name key ∷ lex.sign one.0 ∷ []) one.2 in
          ap (λ t. leaf_at t x) (is ∙ op_state key one.0 (takes_operates one.0 one.1)) ∙ value_told (operated key one.0) key x is_literal (value_op key one.0 x one.1)
      | inr many ↦
          let (s, is) = ends_in us (lex.name key ∷ lex.sign signs.In ∷ lex.sign signs.OpenBracket ∷ many.0) many.2 in
          ap (λ t. leaf_at t x) (is ∙ row_stays key many.0 many.1) ∙ value_told (in_row key) key x is_literal refl
    ] in
    told ∙ ap (λ y. Some (leaf.value key y)) same
leaf_told us x (leaf.order key) h =
    let (some, op, is_op, ends) = h in
    let (s, is) = ends_in us (lex.name key ∷ lex.sign op ∷ []) ends in
    ap (λ t. leaf_at t x) (is ∙ op_state key op (order_operates op is_op)) ∙ order_told (operated key op) key x some (order_op key op x is_op)
leaf_told us x (leaf.network key text) h =
    let (same, ends) = h in
    let (s, is) = ends_in us (lex.name key ∷ lex.sign signs.Within ∷ []) ends in
    ap (λ t. leaf_at t x) is ∙ text_told (operated key signs.Within) (leaf.network key) x text same refl
leaf_told us x (leaf.span key text) h =
    let (same, op, is_op, ends) = h in
    let (s, is) = ends_in us (lex.name key ∷ lex.sign op ∷ []) ends in
    ap (λ t. leaf_at t x) (is ∙ op_state key op (moment_operates op is_op)) ∙ text_told (operated key op) (leaf.span key) x text same (moment_op key op text is_op)
leaf_told us x (leaf.path text) h =
    let (same, at) = h in
    elim at [
      | inl one ↦ let (s, is) = ends_in us (lex.key words.Path ∷ []) one in ap (λ t. leaf_at t x) is ∙ text_told pathed leaf.path x text same refl
      | inr many ↦
          let (s, is) = ends_in us (lex.key words.Path ∷ lex.sign signs.OpenBracket ∷ many.0) many.2 in
          ap (λ t. leaf_at t x) (is ∙ paths_stay many.0 many.1) ∙ text_told in_paths leaf.path x text same refl
    ]
leaf_told us x (leaf.field key) h = absurd h
leaf_told us x (leaf.pattern text) h = absurd h

-- a wrong word or literal, told
abbrev pub Told : State → Lexeme → Cause → Type 0
Told s l why = (which : Leaf) × (leaf_at s l.symbol ≡ Some which) × (judged which ≡ None) × (cause_of_leaf which ≡ why)

no_type : (key : List ℕ) → type_of key ≡ None → judged (leaf.field key) ≡ None
no_type key none = rw none refl

no_pattern : (text : List ℕ) → pattern_of text ≡ None → judged (leaf.pattern text) ≡ None
no_pattern text none = rw none refl

leaf_cause : (us : List Lexeme) (x : Symbol) (which : Leaf) → IsLeafAt us x which → cause_of_leaf which ≡ cause.value
leaf_cause us x (leaf.value key literal) h = refl
leaf_cause us x (leaf.order key) h = refl
leaf_cause us x (leaf.network key text) h = refl
leaf_cause us x (leaf.span key text) h = refl
leaf_cause us x (leaf.path text) h = refl
leaf_cause us x (leaf.field key) h = absurd h
leaf_cause us x (leaf.pattern text) h = absurd h

pub field_told : (us : List Lexeme) (l : Lexeme) → IsWrong cause.field us (Some l) → Told (after other us) l cause.field
field_told us l h = (leaf.field h.0, ap (leaf_at (after other us)) h.1, no_type h.0 h.2, refl)

pub value_is_told : (us : List Lexeme) (l : Lexeme) → IsWrong cause.value us (Some l) → Told (after other us) l cause.value
value_is_told us l h = (h.0, leaf_told us l.symbol h.0 h.1, h.2, leaf_cause us l.symbol h.0 h.1)

pub pattern_told : (us : List Lexeme) (l : Lexeme) → IsWrong cause.pattern us (Some l) → Told (after other us) l cause.pattern
pattern_told us l h =
    let (text, is, (op, is_op, ends), none) = h in
    let (s, at) = ends_in us (lex.sign op ∷ []) ends in
    (leaf.pattern text, ap (λ t. leaf_at t l.symbol) at ∙ text_told (by_sign s op) leaf.pattern l.symbol text is (pattern_op s op text is_op), no_pattern text none, refl)

-- ---- to the windows

abbrev Ends : List Symbol → List Symbol → Type 0
Ends xs last = (before : List Symbol) × (xs ≡ before ++ last)

abbrev Window : State → List Symbol → Type 0
Window other xs = Unit {0}
Window (named key) xs = Ends xs (lex.name key ∷ [])
Window (operated key op) xs = Ends xs (lex.name key ∷ lex.sign op ∷ [])
Window (in_row key) xs = (row : List Symbol) × (list_all is_in_row row ≡ true) × Ends xs (lex.name key ∷ lex.sign signs.In ∷ lex.sign signs.OpenBracket ∷ row)
Window pathed xs = Ends xs (lex.key words.Path ∷ [])
Window in_paths xs = (row : List Symbol) × (list_all is_in_texts row ≡ true) × Ends xs (lex.key words.Path ∷ lex.sign signs.OpenBracket ∷ row)
Window matched xs = (op : Sign) × (is_pattern_op op ≡ true) × Ends xs (lex.sign op ∷ [])

ends_more : (xs last : List Symbol) (x : Symbol) → Ends xs last → Ends (xs ++ x ∷ []) (last ++ x ∷ [])
ends_more xs last x h = (h.0, ap (λ (l : List Symbol). l ++ x ∷ []) h.1 ∙ append_assoc h.0 last (x ∷ []))

all_more : (p : Symbol → Bool) (row : List Symbol) (x : Symbol) → list_all p row ≡ true → p x ≡ true → list_all p (row ++ x ∷ []) ≡ true
all_more p row x all is = list_all-append p row (x ∷ []) ∙ and_from (list_all p row) (p x && true) all (and_from (p x) true is refl)

window_if : (b : Bool) (s : State) (xs : List Symbol) → (b ≡ true → Window s xs) → Window (if b then s else other) xs
window_if true s xs h = h refl
window_if false s xs h = tt

window_stays : (s : State) (xs : List Symbol) (x : Symbol) → Window s xs → Window (stays s x) (xs ++ x ∷ [])
window_stays (in_row key) xs x h =
    window_if (is_in_row x) (in_row key) (xs ++ x ∷ []) (λ is. (h.0 ++ x ∷ [], all_more is_in_row h.0 x h.1 is, ends_more xs (lex.name key ∷ lex.sign signs.In ∷ lex.sign signs.OpenBracket ∷ h.0) x h.2))
window_stays in_paths xs x h =
    window_if (is_in_texts x) in_paths (xs ++ x ∷ []) (λ is. (h.0 ++ x ∷ [], all_more is_in_texts h.0 x h.1 is, ends_more xs (lex.key words.Path ∷ lex.sign signs.OpenBracket ∷ h.0) x h.2))
window_stays other xs x h = tt
window_stays (named key) xs x h = tt
window_stays (operated key op) xs x h = tt
window_stays pathed xs x h = tt
window_stays matched xs x h = tt

window_other : (s : State) (xs : List Symbol) (op : Sign) → Window s xs → Window (if is_pattern_op op then matched else stays s (lex.sign op)) (xs ++ lex.sign op ∷ [])
window_other s xs op h = by (is_pattern_op op) refl
  where
    by : (b : Bool) → is_pattern_op op ≡ b → Window (if b then matched else stays s (lex.sign op)) (xs ++ lex.sign op ∷ [])
    by true is = (op, is, (xs, refl))
    by false is = window_stays s xs (lex.sign op) h

window_sign : (s : State) (xs : List Symbol) (op : Sign) → Window s xs → Window (by_sign s op) (xs ++ lex.sign op ∷ [])
window_sign (named key) xs op h = window_if (operates op) (operated key op) (xs ++ lex.sign op ∷ []) (λ is. ends_more xs (lex.name key ∷ []) (lex.sign op) h)
window_sign (operated key signs.In) xs signs.OpenBracket h = ([], refl, ends_more xs (lex.name key ∷ lex.sign signs.In ∷ []) (lex.sign signs.OpenBracket) h)
window_sign (operated key signs.In) xs op h = window_other (operated key signs.In) xs op h
window_sign (operated key o) xs op h = window_other (operated key o) xs op h
window_sign pathed xs signs.OpenBracket h = ([], refl, ends_more xs (lex.key words.Path ∷ []) (lex.sign signs.OpenBracket) h)
window_sign pathed xs op h = window_other pathed xs op h
window_sign other xs op h = window_other other xs op h
window_sign (in_row key) xs op h = window_other (in_row key) xs op h
window_sign in_paths xs op h = window_other in_paths xs op h
window_sign matched xs op h = window_other matched xs op h

window_step : (s : State) (xs : List Symbol) (x : Symbol) → Window s xs → Window (step s x) (xs ++ x ∷ [])
window_step s xs (lex.name key) h = (xs, refl)
window_step s xs (lex.key words.Path) h = (xs, refl)
window_step s xs (lex.sign op) h = window_sign s xs op h
window_step s xs x h = window_stays s xs x h

window_from : (s : State) (xs : List Symbol) (us : List Lexeme) → Window s xs → Window (after s us) (xs ++ symbols us)
window_from s xs [] h = subst (Window s) (sym (append-nil xs)) h
window_from s xs (u ∷ us) h =
    subst (Window (after s (u ∷ us))) (append_assoc xs (u.symbol ∷ []) (symbols us)) (window_from (step s u.symbol) (xs ++ u.symbol ∷ []) us (window_step s xs u.symbol h))

window_of : (us : List Lexeme) → Window (after other us) (symbols us)
window_of us = window_from other [] us tt

text_leaf_is : (make : List ℕ → Leaf) (x : Symbol) (which : Leaf) → text_leaf make x ≡ Some which → (text : List ℕ) × (x ≡ lex.quoted text) × (make text ≡ which)
text_leaf_is make (lex.quoted text) which e = (text, refl, cc)
text_leaf_is make (lex.key k) which e = absurd (cc)
text_leaf_is make (lex.name k) which e = absurd (cc)
text_leaf_is make (lex.whole k) which e = absurd (cc)
text_leaf_is make (lex.decimal k) which e = absurd (cc)
text_leaf_is make (lex.sign k) which e = absurd (cc)

not_field : (o : Option Leaf) (key : List ℕ) → option_map (λ _. leaf.plain) (type_of key) ≡ None → type_of key ≡ None
not_field o key e = by (type_of key) e
  where
    by : {A : Type 0} (t : Option A) → option_map (λ _. leaf.plain) t ≡ None → t ≡ None
    by None e = refl
    by (Some x) e = absurd (cc)

module _ (us : List Lexeme) (l : Lexeme) where
  abbrev Wrong : Leaf → Type 0
  Wrong which = IsWrong (cause_of_leaf which) us (Some l)

  -- a leaf that is asked for by its value
  of_value : (which that : Leaf) → that ≡ which → judged which ≡ None → (judged that ≡ None → Wrong that) → Wrong which
  of_value which that same none h = subst Wrong same (h (ap judged same ∙ none))

  value_wrong : (key : List ℕ) (which : Leaf) → value_leaf key l.symbol ≡ Some which → judged which ≡ None
      → (((op : Sign) × (takes_value op ≡ true) × EndsIn us (lex.name key ∷ lex.sign op ∷ []))
      ⊎ ((row : List Symbol) × (list_all is_in_row row ≡ true) × EndsIn us (lex.name key ∷ lex.sign signs.In ∷ lex.sign signs.OpenBracket ∷ row)))
      → Wrong which
  value_wrong key which e none at =
      let (some, same) = if_some (is_some (literal_of l.symbol)) (leaf.value key l.symbol) which e in
      of_value which (leaf.value key l.symbol) same none (λ no_value. (leaf.value key l.symbol, (refl, some, at), no_value))

  path_wrong : (which : Leaf) → text_leaf leaf.path l.symbol ≡ Some which → judged which ≡ None
      → (EndsIn us (lex.key words.Path ∷ []) ⊎ ((row : List Symbol) × (list_all is_in_texts row ≡ true) × EndsIn us (lex.key words.Path ∷ lex.sign signs.OpenBracket ∷ row))) → Wrong which
  path_wrong which e none at =
      let (text, is, same) = text_leaf_is leaf.path l.symbol which e in
      of_value which (leaf.path text) same none (λ no_path. (leaf.path text, (is, at), no_path))

  pattern_wrong : (op : Sign) (which : Leaf) → text_leaf leaf.pattern l.symbol ≡ Some which → judged which ≡ None → is_pattern_op op ≡ true → EndsIn us (lex.sign op ∷ []) → Wrong which
  pattern_wrong op which e none is_op at =
      let (text, is, same) = text_leaf_is leaf.pattern l.symbol which e in
      of_value which (leaf.pattern text) same none (λ no_reading. (text, is, (op, is_op, at), by (pattern_of text) no_reading))
    where
      by : {A : Type 0} (t : Option A) → option_map (λ _. leaf.plain) t ≡ None → t ≡ None
      by None e = refl
      by (Some x) e = absurd (cc)

  operand_wrong : (key : List ℕ) (op : Sign) (which : Leaf) → EndsIn us (lex.name key ∷ lex.sign op ∷ []) → operand_leaf key op l.symbol ≡ Some which → judged which ≡ None → Wrong which
  operand_wrong key op which at e none = first (takes_value op) refl e
    where
      fifth : (b : Bool) → is_within op ≡ b → (if b then text_leaf (leaf.network key) l.symbol else None) ≡ Some which → Wrong which
      fifth true is e =
          let (text, quoted, same) = text_leaf_is (leaf.network key) l.symbol which e in
          of_value which (leaf.network key text) same none (λ no_network. (leaf.network key text, (quoted, within op is at), no_network))
        where
          within : (op : Sign) → is_within op ≡ true → EndsIn us (lex.name key ∷ lex.sign op ∷ []) → EndsIn us (lex.name key ∷ lex.sign signs.Within ∷ [])
          within signs.Within is at = at
          within o is at = absurd (cc)
      fifth false is e = absurd (cc)

      fourth : (b : Bool) → is_pattern_op op ≡ b → (if b then text_leaf leaf.pattern l.symbol else if is_within op then text_leaf (leaf.network key) l.symbol else None) ≡ Some which → Wrong which
      fourth true is e = pattern_wrong op which e none is (at.0 ++ lex.name key ∷ [], at.1 ∙ sym (append_assoc at.0 (lex.name key ∷ []) (lex.sign op ∷ [])))
      fourth false is e = fifth (is_within op) refl e

      third : (b : Bool) → is_moment op ≡ b
          → (if b then text_leaf (leaf.span key) l.symbol else if is_pattern_op op then text_leaf leaf.pattern l.symbol else if is_within op then text_leaf (leaf.network key) l.symbol else None) ≡ Some which → Wrong which
      third true is e =
          let (text, quoted, same) = text_leaf_is (leaf.span key) l.symbol which e in
          of_value which (leaf.span key text) same none (λ no_span. (leaf.span key text, (quoted, op, is, at), no_span))
      third false is e = fourth (is_pattern_op op) refl e

      second : (b : Bool) → is_order op ≡ b
          → (if b then order_leaf key l.symbol else if is_moment op then text_leaf (leaf.span key) l.symbol else if is_pattern_op op then text_leaf leaf.pattern l.symbol else if is_within op then text_leaf (leaf.network key) l.symbol else None) ≡ Some which
          → Wrong which
      second true is e =
          let (some, same) = if_some (is_some (amount_of l.symbol)) (leaf.order key) which e in
          of_value which (leaf.order key) same none (λ no_order. (leaf.order key, (some, op, is, at), no_order))
      second false is e = third (is_moment op) refl e

      first : (b : Bool) → takes_value op ≡ b
          → (if b then value_leaf key l.symbol else if is_order op then order_leaf key l.symbol else if is_moment op then text_leaf (leaf.span key) l.symbol else if is_pattern_op op then text_leaf leaf.pattern l.symbol else if is_within op then text_leaf (leaf.network key) l.symbol else None) ≡ Some which
          → Wrong which
      first true is e = value_wrong key which e none (inl (op, is, at))
      first false is e = second (is_order op) refl e

  literal_wrong : (s : State) (which : Leaf) → Window s (symbols us) → literal_leaf s l.symbol ≡ Some which → judged which ≡ None → Wrong which
  literal_wrong (operated key op) which h e none = operand_wrong key op which h e none
  literal_wrong (in_row key) which h e none = value_wrong key which e none (inr h)
  literal_wrong pathed which h e none = path_wrong which e none (inl h)
  literal_wrong in_paths which h e none = path_wrong which e none (inr h)
  literal_wrong matched which h e none = pattern_wrong h.0 which e none h.1 h.2
  literal_wrong other which h e none = absurd (cc)
  literal_wrong (named key) which h e none = absurd (cc)

  -- a word or literal that is told to be wrong is wrong
  pub told_wrong : (which : Leaf) → leaf_at (after other us) l.symbol ≡ Some which → judged which ≡ None → Wrong which
  told_wrong which e none = by l.symbol refl e
    where
      by : (x : Symbol) → l.symbol ≡ x → leaf_at (after other us) x ≡ Some which → Wrong which
      by (lex.name key) is e =
          let same : leaf.field key ≡ which = cc in
          of_value which (leaf.field key) same none (λ no_field. (key, is, not_field None key no_field))
      by (lex.key k) is e = literal_wrong (after other us) which (window_of us) (ap (literal_leaf (after other us)) is ∙ e) none
      by (lex.quoted k) is e = literal_wrong (after other us) which (window_of us) (ap (literal_leaf (after other us)) is ∙ e) none
      by (lex.whole k) is e = literal_wrong (after other us) which (window_of us) (ap (literal_leaf (after other us)) is ∙ e) none
      by (lex.decimal k) is e = literal_wrong (after other us) which (window_of us) (ap (literal_leaf (after other us)) is ∙ e) none
      by (lex.sign k) is e = literal_wrong (after other us) which (window_of us) (ap (literal_leaf (after other us)) is ∙ e) none

-- a sign that nests is no word and no literal
pub nests_no_leaf : (s : State) (x : Symbol) (which : Leaf) → nests x ≡ true → leaf_at s x ≡ Some which → ⊥
nests_no_leaf s (lex.sign op) which n e = by s e
  where
    operand : (key : List ℕ) (o : Sign) → (if takes_value o then None else if is_order o then None else if is_moment o then None else if is_pattern_op o then None else if is_within o then None else None) ≡ Some which → ⊥
    operand key o e = first (takes_value o) e
      where
        first : (b : Bool) → (if b then None else if is_order o then None else if is_moment o then None else if is_pattern_op o then None else if is_within o then None else None) ≡ Some which → ⊥
        first true e = absurd (cc)
        first false e = second (is_order o) e
          where
            second : (b : Bool) → (if b then None else if is_moment o then None else if is_pattern_op o then None else if is_within o then None else None) ≡ Some which → ⊥
            second true e = absurd (cc)
            second false e = third (is_moment o) e
              where
                third : (b : Bool) → (if b then None else if is_pattern_op o then None else if is_within o then None else None) ≡ Some which → ⊥
                third true e = absurd (cc)
                third false e = fourth (is_pattern_op o) (is_within o) e
                  where
                    fourth : (b c : Bool) → (if b then None else if c then None else None) ≡ Some which → ⊥
                    fourth true c e = absurd (cc)
                    fourth false true e = absurd (cc)
                    fourth false false e = absurd (cc)

    by : (s : State) → literal_leaf s (lex.sign op) ≡ Some which → ⊥
    by other e = absurd (cc)
    by (named key) e = absurd (cc)
    by (operated key o) e = operand key o e
    by (in_row key) e = absurd (cc)
    by pathed e = absurd (cc)
    by in_paths e = absurd (cc)
    by matched e = absurd (cc)
nests_no_leaf s (lex.key k) which n e = absurd (cc)
nests_no_leaf s (lex.name k) which n e = absurd (cc)
nests_no_leaf s (lex.quoted k) which n e = absurd (cc)
nests_no_leaf s (lex.whole k) which n e = absurd (cc)
nests_no_leaf s (lex.decimal k) which n e = absurd (cc)

-- what is told wrong isn't right
pub not_right : (s : State) (l : Lexeme) (why : Cause) → Told s l why → right_leaf (leaf_at s l.symbol) ≡ true → ⊥
not_right s l why h e =
    let (which, at, none, is) = h in
    let wrong : right_leaf (leaf_at s l.symbol) ≡ false = ap right_leaf at ∙ ap is_some none in
    clash (sym wrong ∙ e)
  where
    clash : false ≡ true → ⊥
    clash e = absurd (cc)
