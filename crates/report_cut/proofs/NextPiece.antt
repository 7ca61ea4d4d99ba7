-- What comes next behind a place in a feed, by what has been read there.
use Rattle.std.proofs.Common.{◌≡◌, ℕ, ◌+◌, ◌-◌, ◌<◌, ◌≤◌, ◌⊎◌, inl, inr, ⊎_elim, true, false, nat_le, nat_lt, List, [], ◌∷◌, ◌++◌, length, take, drop, refl, sym, ap, ◌∙◌, subst, arith, append_assoc, length-append}
use Rattle.std.specs.List.{concat}
use Rattle.std.proofs.lemmas.Bool.{lt-leb, le-ltb, lt-ltb, le-leb, eq-eqb, cond-true, cond-false, and_from, and_left, and_right, cases_lt}
use Rattle.std.proofs.lemmas.List.{drop_at, take_at, append-nil, drop_all, nil_from_length}
use Rattle.base_types.specs.Lines.{newline, lines_of, first_of, first_line, last_or}
use Rattle.report_cut.specs.Pieces.{Piece, End, Long, longest_line, fitting_run, start_of, piece_of, next_under, is_finished, if_finished, next_so_far}
use Rattle.report_cut.specs.Scan.{IsWhole, IsOneLine, IsRun, IsDue, IsOpen}
use Rattle.report_cut.specs.declared.piece.CutRule.{CutRule}
use Rattle.report_cut.proofs.LinesOf.{lines_of-append, lines_of-one, concat-lines_of, some_lines, first_line-grows, first_line-one, last_of_whole, last_of_partial, some_first_line, first_line-append}

-- no further line has room
abbrev pub HasNoRoom : ℕ → List (List ℕ) → Type 0
HasNoRoom room lines = (lines ≡ []) ⊎ (room < length (first_of lines))

fits_none : (room : ℕ) (ys : List (List ℕ)) → HasNoRoom room ys → fitting_run room ys ≡ []
fits_none room [] over = refl
fits_none room (y ∷ ys) over =
    cond-false (nat_le (length y) room) (y ∷ fitting_run (room - length y) ys) [] (lt-leb (length y) room (⊎_elim (λ none. absurd (cc)) (λ less. less) over))

fits_all : (room : ℕ) (ls ys : List (List ℕ)) → length (concat ls) ≤ room → HasNoRoom (room - length (concat ls)) ys → fitting_run room (ls ++ ys) ≡ ls
fits_all room [] ys has over = fits_none room ys (subst (λ n. HasNoRoom n ys) (omega arith) over)
fits_all room (l ∷ ls) ys has over =
    let len : length (l ++ concat ls) ≡ length l + length (concat ls) = length-append l (concat ls) in
    let tail : fitting_run (room - length l) (ls ++ ys) ≡ ls = fits_all (room - length l) ls ys (omega (arith, len)) (subst (λ n. HasNoRoom n ys) (omega (arith, len)) over) in
    cond-true (nat_le (length l) room) (l ∷ fitting_run (room - length l) (ls ++ ys)) [] (le-leb (length l) room (omega (arith, len))) ∙ ap (λ xs. l ∷ xs) tail

-- the piece of a run of lines behind which no line has room
piece_at : (header : List ℕ) (room start : ℕ) (parts ys : List (List ℕ)) (lines : List ℕ) → 0 < length parts → concat parts ≡ lines → length (first_of parts) ≤ longest_line → ((length lines ≤ room) ⊎ (parts ≡ lines ∷ [])) → HasNoRoom (room - length lines) ys → piece_of header room start (parts ++ ys) ≡ Piece (record { piece = header ++ lines; upto = start + length lines })
piece_at header room start [] ys lines some joined short fits over = absurd (omega arith)
piece_at header room start (l ∷ ls) ys lines some joined short fits over =
    let len : length l + length (concat ls) ≡ length lines = omega (arith, length-append l (concat ls), ap length joined) in
    let small : length (concat ls) ≤ room - length l = ⊎_elim (λ has. omega (arith, len)) (λ one. let nil : ls ≡ [] = cc in omega (arith, ap (λ xs. length (concat xs)) nil)) fits in
    let run : fitting_run (room - length l) (ls ++ ys) ≡ ls = fits_all (room - length l) ls ys small (subst (λ n. HasNoRoom n ys) (omega (arith, len)) over) in
    cond-false (nat_lt longest_line (length l)) _ _ (le-ltb longest_line (length l) short) ∙ ap (λ xs. Piece (record { piece = header ++ concat (l ∷ xs); upto = start + length (concat (l ∷ xs)) })) run ∙ ap (λ xs. Piece (record { piece = header ++ xs; upto = start + length xs })) joined

some_parts : (bytes : List ℕ) → 0 < length bytes → 0 < length (lines_of bytes)
some_parts [] some = absurd (omega arith)
some_parts (b ∷ bs) some = some_lines b bs

no_room : (room len : ℕ) (more : List ℕ) → room < len + length (first_line more) → HasNoRoom (room - len) (lines_of more)
no_room room len [] over = inl refl
no_room room len (b ∷ bs) over = inr (omega (arith, some_first_line b bs))

piece_of_run : (header : List ℕ) (room start : ℕ) (lines more : List ℕ) → IsRun room lines → 0 < length lines → HasNoRoom (room - length lines) (lines_of more) → piece_of header room start (lines_of (lines ++ more)) ≡ Piece (record { piece = header ++ lines; upto = start + length lines })
piece_of_run header room start lines more run some over =
    ap (piece_of header room start) (lines_of-append lines more run.whole) ∙ piece_at header room start (lines_of lines) (lines_of more) lines (some_parts lines some) (concat-lines_of lines) run.short run.fits over

-- what comes next is the piece of the lines from the place where they begin
pub next_is : (rule : CutRule) (header front bytes : List ℕ) (at : ℕ) → at < length (front ++ bytes) → length header ≤ longest_line → start_of rule header at ≡ length front → next_under rule header (front ++ bytes) at ≡ piece_of header (rule.chunk_size - length header) (length front) (lines_of bytes)
next_is rule header front bytes at inside short start =
    let room : ℕ = rule.chunk_size - length header in
    cond-false (nat_le (length (front ++ bytes)) at) End _ (lt-leb _ at inside) ∙ cond-false (nat_lt longest_line (length header)) (Long 0) _ (le-ltb longest_line (length header) short) ∙ ap (λ s. piece_of header room s (lines_of (drop s (front ++ bytes)))) start ∙ ap (λ xs. piece_of header room (length front) (lines_of xs)) (drop_at front bytes (length front) refl)

-- the finished piece, whatever comes behind
pub due_next : (rule : CutRule) (header front bytes more : List ℕ) (at len seen : ℕ) → IsDue (rule.chunk_size - length header) bytes len seen → at ≤ length front → length header ≤ longest_line → start_of rule header at ≡ length front → next_under rule header (front ++ (bytes ++ more)) at ≡ Piece (record { piece = header ++ take len bytes; upto = length front + len })
due_next rule header front bytes more at len seen d inside short start =
    let room : ℕ = rule.chunk_size - length header in
    let split : bytes ++ more ≡ d.lines ++ ((d.opened ++ d.rest) ++ more) = ap (λ xs. xs ++ more) d.split ∙ append_assoc d.lines (d.opened ++ d.rest) more in
    let over : HasNoRoom (room - length d.lines) (lines_of ((d.opened ++ d.rest) ++ more)) = no_room room (length d.lines) ((d.opened ++ d.rest) ++ more) (omega (arith, d.full, d.at_len, first_line-grows (d.opened ++ d.rest) more)) in
    let front_of : take len bytes ≡ d.lines = ap (take len) d.split ∙ take_at d.lines (d.opened ++ d.rest) len d.at_len in
    next_is rule header front (bytes ++ more) at (omega (arith, length-append front (bytes ++ more), length-append bytes more, ap length d.split, length-append d.lines (d.opened ++ d.rest), d.at_len, d.some)) short start
    ∙ ap (λ xs. piece_of header room (length front) (lines_of xs)) split
    ∙ piece_of_run header room (length front) d.lines ((d.opened ++ d.rest) ++ more) d.run (omega (arith, d.at_len, d.some)) over
    ∙ ap (λ xs. Piece (record { piece = header ++ xs; upto = length front + length d.lines })) (sym front_of)
    ∙ ap (λ n. Piece (record { piece = header ++ take len bytes; upto = length front + n })) d.at_len

due_finished : (rule : CutRule) (header front bytes : List ℕ) (len seen : ℕ) → IsDue (rule.chunk_size - length header) bytes len seen → is_finished rule header (front ++ bytes) (record { piece = header ++ take len bytes; upto = length front + len }) ≡ true
due_finished rule header front bytes len seen d =
    let front_of : take len bytes ≡ d.lines = ap (take len) d.split ∙ take_at d.lines (d.opened ++ d.rest) len d.at_len in
    let last : last_or 0 (header ++ take len bytes) ≡ newline = ap (λ xs. last_or 0 (header ++ xs)) front_of ∙ last_of_whole header d.lines (omega (arith, d.at_len, d.some)) d.run.whole in
    let size : length (header ++ take len bytes) ≡ length header + len = length-append header (take len bytes) ∙ ap (λ xs. length header + length xs) front_of ∙ ap (λ n. length header + n) d.at_len in
    let behind : drop (length front + len) (front ++ bytes) ≡ d.opened ++ d.rest =
    ap (λ xs. drop (length front + len) (front ++ xs)) d.split ∙ ap (drop (length front + len)) (sym (append_assoc front d.lines (d.opened ++ d.rest))) ∙ drop_at (front ++ d.lines) (d.opened ++ d.rest) (length front + len) (omega (arith, length-append front d.lines, d.at_len)) in
    and_from _ _ (and_from _ _ (eq-eqb _ newline last) (lt-ltb _ _ (omega (arith, size, d.some)))) (lt-ltb _ _ (omega (arith, size, d.full, ap (λ xs. length (first_line xs)) behind)))

pub due_so_far : (rule : CutRule) (header front bytes : List ℕ) (at len seen : ℕ) → IsDue (rule.chunk_size - length header) bytes len seen → at ≤ length front → length header ≤ longest_line → start_of rule header at ≡ length front → next_so_far rule header (front ++ bytes) at ≡ Piece (record { piece = header ++ take len bytes; upto = length front + len })
due_so_far rule header front bytes at len seen d inside short start =
    let next : next_under rule header (front ++ bytes) at ≡ Piece (record { piece = header ++ take len bytes; upto = length front + len }) =
    ap (λ xs. next_under rule header (front ++ xs) at) (sym (append-nil bytes)) ∙ due_next rule header front bytes [] at len seen d inside short start in
    ap (if_finished rule header (front ++ bytes)) next ∙ cond-true _ _ _ (due_finished rule header front bytes len seen d)

-- the line that is too long, whatever comes behind
long_parts : (header : List ℕ) (room start : ℕ) (parts : List (List ℕ)) → longest_line < length (first_of parts) → piece_of header room start parts ≡ Long start
long_parts header room start [] over = absurd (omega arith)
long_parts header room start (l ∷ ls) over = cond-true (nat_lt longest_line (length l)) (Long start) _ (lt-ltb longest_line (length l) over)

pub long_next : (rule : CutRule) (header front bytes more : List ℕ) (at : ℕ) → longest_line < length (first_line bytes) → at ≤ length front → length header ≤ longest_line → start_of rule header at ≡ length front → next_under rule header (front ++ (bytes ++ more)) at ≡ Long (length front)
long_next rule header front [] more at over inside short start = absurd (omega arith)
long_next rule header front (b ∷ bs) more at over inside short start =
    next_is rule header front (b ∷ bs ++ more) at (omega (arith, length-append front (b ∷ bs ++ more))) short start ∙ long_parts header (rule.chunk_size - length header) (length front) (lines_of (b ∷ bs ++ more)) (omega (arith, over, first_line-grows (b ∷ bs) more))

-- all of these lines are one run
all_parts : (header : List ℕ) (room start : ℕ) (parts : List (List ℕ)) (lines : List ℕ) → 0 < length parts → concat parts ≡ lines → length (first_of parts) ≤ longest_line → ((length lines ≤ room) ⊎ (parts ≡ lines ∷ [])) → piece_of header room start parts ≡ Piece (record { piece = header ++ lines; upto = start + length lines })
all_parts header room start parts lines some joined short fits =
    ap (piece_of header room start) (sym (append-nil parts)) ∙ piece_at header room start parts [] lines some joined short fits (inl refl)

open_fits : (room : ℕ) (bytes : List ℕ) (whole : ℕ) → IsOpen room bytes whole → 0 < length bytes → (length bytes ≤ room) ⊎ (lines_of bytes ≡ bytes ∷ [])
open_fits room [] whole o some = absurd (omega arith)
open_fits room (b ∷ bs) whole o some =
    ⊎_elim (λ none. inr (lines_of-one b bs (subst IsOneLine (sym (o.split ∙ ap (λ xs. xs ++ o.opened) (nil_from_length o.lines (omega (arith, o.at_whole))))) o.partial))) (λ has. inl has) o.fits

first_of_open : (lines opened : List ℕ) → IsWhole lines → IsOneLine opened → length (first_line lines) ≤ longest_line → length opened ≤ longest_line → length (first_line (lines ++ opened)) ≤ longest_line
first_of_open [] opened w one short small = omega (arith, ap length (first_line-one opened one))
first_of_open (b ∷ bs) opened w one short small = omega (arith, ap length (first_line-append (b ∷ bs) opened (omega arith) w))

-- what has come behind the pieces is one more piece, if the feed ends there
pub open_next : (rule : CutRule) (header front bytes : List ℕ) (at whole : ℕ) → IsOpen (rule.chunk_size - length header) bytes whole → at < length (front ++ bytes) → length header ≤ longest_line → start_of rule header at ≡ length front → next_under rule header (front ++ bytes) at ≡ Piece (record { piece = header ++ bytes; upto = length front + length bytes })
open_next rule header front [] at whole o inside short start =
    next_is rule header front [] at inside short start ∙ ap (λ xs. Piece (record { piece = xs; upto = length front })) (sym (append-nil header)) ∙ ap (λ n. Piece (record { piece = header ++ []; upto = n })) (omega arith)
open_next rule header front (b ∷ bs) at whole o inside short start =
    let first : length (first_line (b ∷ bs)) ≤ longest_line = omega (arith, ap (λ xs. length (first_line xs)) o.split, first_of_open o.lines o.opened o.run.whole o.partial o.run.short o.short) in
    next_is rule header front (b ∷ bs) at inside short start ∙ all_parts header (rule.chunk_size - length header) (length front) (lines_of (b ∷ bs)) (b ∷ bs) (some_lines b bs) (concat-lines_of (b ∷ bs)) first (open_fits (rule.chunk_size - length header) (b ∷ bs) whole o (omega arith))

-- but it isn't finished
unfinished_at : (rule : CutRule) (header front bytes : List ℕ) (whole : ℕ) → IsOpen (rule.chunk_size - length header) bytes whole → is_finished rule header (front ++ bytes) (record { piece = header ++ bytes; upto = length front + length bytes }) ≡ false
unfinished_at rule header front [] whole o =
    and_left _ _ (and_right _ _ (le-ltb (length header) (length (header ++ [])) (omega (arith, length-append header []))))
unfinished_at rule header front (b ∷ bs) whole o =
    let nothing : drop (length front + length (b ∷ bs)) (front ++ b ∷ bs) ≡ [] = drop_all (length front + length (b ∷ bs)) (front ++ b ∷ bs) (omega (arith, length-append front (b ∷ bs))) in
    ⊎_elim
    (λ none. and_left _ _ (and_left _ _ (last_of_partial header (b ∷ bs) (omega arith) (subst IsOneLine (sym (o.split ∙ ap (λ xs. xs ++ o.opened) (nil_from_length o.lines (omega (arith, o.at_whole))))) o.partial))))
    (λ has. and_right _ _ (le-ltb rule.chunk_size (length (header ++ b ∷ bs) + length (first_line (drop (length front + length (b ∷ bs)) (front ++ b ∷ bs)))) (omega (arith, has, length-append header (b ∷ bs), ap (λ xs. length (first_line xs)) nothing))))
    o.fits

pub open_so_far : (rule : CutRule) (header front bytes : List ℕ) (at whole : ℕ) → IsOpen (rule.chunk_size - length header) bytes whole → length header ≤ longest_line → start_of rule header at ≡ length front → next_so_far rule header (front ++ bytes) at ≡ End
open_so_far rule header front bytes at whole o short start =
    ⊎_elim
    (λ inside. ap (if_finished rule header (front ++ bytes)) (open_next rule header front bytes at whole o inside short start) ∙ cond-false _ _ _ (unfinished_at rule header front bytes whole o))
    (λ past. ap (if_finished rule header (front ++ bytes)) (cond-true (nat_le (length (front ++ bytes)) at) End _ (le-leb _ at past)))
    (cases_lt at (length (front ++ bytes)))
