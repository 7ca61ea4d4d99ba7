-- The first line of bytes, and a line without its newline.
use Rattle.std.proofs.Common.{◌≡◌, ℕ, zero, suc, ◌+◌, ◌-◌, ◌<◌, ◌≤◌, ◌==◌, false, Some, List, [], ◌∷◌, ◌++◌, length, take, drop, get_or, position, refl, sym, ap, ◌∙◌, arith, append_assoc, length-append}
use Rattle.std.proofs.lemmas.Bool.{cond-true, cond-false, eq-eqb, ne_eqb}
use Rattle.std.proofs.lemmas.List.{take-append-drop, take_at}
use Rattle.base_types.specs.Lines.{newline, lines_of, last_or}
use Rattle.report_cut.specs.Line.{without_newline}
use Rattle.report_cut.specs.Scan.{IsOneLine}
use Rattle.report_cut.proofs.LinesOf.{lines_of-append, lines_of-ended, lines_of-one, whole_ended}
use Rattle.report_cut.proofs.Reading.{EndsAt, ends_at}

line_up_to : (bytes : List ℕ) (i : ℕ) (e : EndsAt bytes i) → take (i + 1) bytes ≡ e.line ++ newline ∷ []
line_up_to bytes i e =
    ap (take (i + 1)) (e.split ∙ sym (append_assoc e.line (newline ∷ []) e.more)) ∙ take_at (e.line ++ newline ∷ []) e.more (i + 1) (omega (arith, length-append e.line (newline ∷ []), e.at))

-- where a line ends, it is the first, and the others are those of what stands behind it
pub first_ended : (bytes : List ℕ) (i : ℕ) → Some i ≡ position (λ b. b == newline) bytes → lines_of bytes ≡ take (i + 1) bytes ∷ lines_of (drop (i + 1) bytes)
first_ended bytes i found =
    let e = ends_at bytes i found in
    let front : List ℕ = e.line ++ newline ∷ [] in
    let up = line_up_to bytes i e in
    ap lines_of (sym (take-append-drop (i + 1) bytes) ∙ ap (λ xs. xs ++ drop (i + 1) bytes) up)
    ∙ lines_of-append front (drop (i + 1) bytes) (whole_ended e.line)
    ∙ ap (λ ls. ls ++ lines_of (drop (i + 1) bytes)) (lines_of-ended e.line e.one)
    ∙ ap (λ xs. xs ∷ lines_of (drop (i + 1) bytes)) (sym up)

pub only_line : (bytes : List ℕ) → 0 < length bytes → IsOneLine bytes → lines_of bytes ≡ bytes ∷ []
only_line [] some one = absurd (omega arith)
only_line (b ∷ bs) some one = lines_of-one b bs one

-- the last byte, by its place
pub last_is : (none : ℕ) (bytes : List ℕ) (k d : ℕ) → length bytes ≡ suc k → last_or none bytes ≡ get_or bytes k d
last_is none [] k d size = absurd (omega (arith, size))
last_is none (b ∷ []) zero d size = refl
last_is none (b ∷ []) (suc k) d size = absurd (omega (arith, size))
last_is none (b ∷ c ∷ bs) zero d size = absurd (omega (arith, size))
last_is none (b ∷ c ∷ bs) (suc k) d size = last_is b (c ∷ bs) k d (omega (arith, size))

pub some_bytes : (bytes : List ℕ) → false ≡ (length bytes == 0) → 0 < length bytes
some_bytes [] is = absurd (cc)
some_bytes (b ∷ bs) is = omega arith

pub ended_text : (line : List ℕ) (end : ℕ) → (1 ≤ length line) × (end ≡ length line - 1) → get_or line end 0 ≡ newline → take end line ≡ without_newline line
ended_text line end size byte =
    let last : last_or 0 line ≡ newline = last_is 0 line end 0 (omega (arith, size.0, size.1)) ∙ byte in
    ap (λ n. take n line) size.1 ∙ sym (cond-true (last_or 0 line == newline) (take (length line - 1) line) line (eq-eqb (last_or 0 line) newline last))

pub open_text : (line : List ℕ) (end : ℕ) → (1 ≤ length line) × (end ≡ length line - 1) → (get_or line end 0 ≡ newline → ⊥) → line ≡ without_newline line
open_text line end size other =
    sym (cond-false (last_or 0 line == newline) (take (length line - 1) line) line (ne_eqb (last_or 0 line) newline (λ e. other (sym (last_is 0 line end 0 (omega (arith, size.0, size.1))) ∙ e))))
