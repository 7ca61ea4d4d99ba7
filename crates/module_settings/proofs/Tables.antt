-- The rows of a table, one after the other.
use Rattle.std.proofs.Common.{◌≡◌, ℕ, suc, List, [], ◌∷◌, ◌++◌, Bool, true, false, Option, Some, None, Result, Ok, Err, if◌then◌else◌, refl, sym, ap, ◌∙◌, append_assoc, length, subst}
use Rattle.csv_line.specs.Cells.{bare}
use Rattle.event_model.specs.Fields.{FieldMap}
use Rattle.scalar_net.specs.declared.network.Network.{Network}
use Rattle.module_settings.specs.Rows.{joined, IsPut}
use Rattle.module_settings.specs.Table.{is_empty_line, row_first, row_in, rows_of}
use Rattle.module_settings.specs.declared.table.Rows.{Rows}

-- ---- as many sets as networks

abbrev pub IsEven : Rows → Type 0
IsEven rows = length rows.sets ≡ length rows.networks

abbrev AreEven : Result Rows ℕ → Type 0
AreEven (Ok rows) = IsEven rows
AreEven (Err n) = Unit {0}

one_more : (row : Option (Network × FieldMap)) (n : ℕ) (more : Result Rows ℕ) → AreEven more → AreEven (row_first row n more)
one_more None n more are = tt
one_more (Some row) n (Ok rows) are = ap suc are
one_more (Some row) n (Err m) are = tt

line_more : (b : Bool) (row : Option (Network × FieldMap)) (n : ℕ) (more : Result Rows ℕ) → AreEven more → AreEven (if b then more else row_first row n more)
line_more true row n more are = are
line_more false row n more are = one_more row n more are

all_even : (names : List (List ℕ)) (n : ℕ) (lines : List (List ℕ)) → AreEven (rows_of names n lines)
all_even names n [] = refl
all_even names n (line ∷ lines) = line_more (is_empty_line line) (row_in names (bare line)) n (rows_of names (suc n) lines) (all_even names (suc n) lines)

-- the rows that lines are
pub even : (names : List (List ℕ)) (n : ℕ) (lines : List (List ℕ)) (rows : Rows) → rows_of names n lines ≡ Ok rows → IsEven rows
even names n lines rows is = subst AreEven is (all_even names n lines)

-- ---- the rows

-- rows behind those of a table
abbrev pub behind : Rows → Result Rows ℕ → Result Rows ℕ
behind table (Ok rows) = Ok (joined table rows)
behind table (Err n) = Err n

abbrev pub after : Result Rows ℕ → Result Rows ℕ → Result Rows ℕ
after (Ok rows) more = behind rows more
after (Err n) more = Err n

abbrev pub none : Rows
none = record { networks = []; sets = [] }

none_first : (more : Result Rows ℕ) → more ≡ behind none more
none_first (Ok rows) = refl
none_first (Err n) = refl

one_first : (row : Option (Network × FieldMap)) (n : ℕ) (more : Result Rows ℕ) → row_first row n more ≡ after (row_first row n (Ok none)) more
one_first None n more = refl
one_first (Some row) n (Ok rows) = refl
one_first (Some row) n (Err m) = refl

first_line_of : (b : Bool) (row : Option (Network × FieldMap)) (n : ℕ) (more : Result Rows ℕ) → (if b then more else row_first row n more) ≡ after (if b then Ok none else row_first row n (Ok none)) more
first_line_of true row n more = none_first more
first_line_of false row n more = one_first row n more

-- the rows of a line, and behind them those of the others
pub line_first : (names : List (List ℕ)) (n : ℕ) (line : List ℕ) (lines : List (List ℕ)) → rows_of names n (line ∷ lines) ≡ after (rows_of names n (line ∷ [])) (rows_of names (suc n) lines)
line_first names n line lines = first_line_of (is_empty_line line) (row_in names (bare line)) n (rows_of names (suc n) lines)

joined_behind : (table rows : Rows) (more : Result Rows ℕ) → behind table (behind rows more) ≡ behind (joined table rows) more
joined_behind table rows (Err n) = refl
joined_behind table rows (Ok last) =
    ap (λ ns. Ok (record { networks = ns; sets = table.sets ++ (rows.sets ++ last.sets) })) (sym (append_assoc table.networks rows.networks last.networks))
    ∙ ap (λ ss. Ok (record { networks = (table.networks ++ rows.networks) ++ last.networks; sets = ss })) (sym (append_assoc table.sets rows.sets last.sets))

put_behind : (rows : Result Rows ℕ) (old new : Rows) (more : Result Rows ℕ) → IsPut rows old new → behind old (after rows more) ≡ behind new more
put_behind (Ok rows) old new more put = joined_behind old rows more ∙ ap (λ t. behind t more) (sym put)
put_behind (Err n) old new more put = absurd put

-- a line's rows are put
pub line_put : (names : List (List ℕ)) (n : ℕ) (all rest : List (List ℕ)) (line : List ℕ) (whole : Result Rows ℕ) (old new : Rows) → all ≡ line ∷ rest → behind old (rows_of names n all) ≡ whole
    → IsPut (rows_of names n (line ∷ [])) old new → behind new (rows_of names (suc n) rest) ≡ whole
line_put names n all rest line whole old new step so_far put =
    sym (put_behind (rows_of names n (line ∷ [])) old new (rows_of names (suc n) rest) put)
    ∙ ap (behind old) (sym (ap (rows_of names n) step ∙ line_first names n line rest)) ∙ so_far

pub at_start : (more whole : Result Rows ℕ) → more ≡ whole → behind none more ≡ whole
at_start more whole same = sym (none_first more) ∙ same
