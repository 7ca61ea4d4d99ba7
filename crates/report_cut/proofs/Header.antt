-- The header at the front of what a cutter holds.
use Rattle.std.proofs.Common.{◌≡◌, ℕ, ◌+◌, ◌-◌, ◌≤◌, inl, inr, true, false, List, [], ◌∷◌, ◌++◌, length, take, drop, refl, sym, ap, ◌∙◌, subst, arith, append_assoc, length-append}
use Rattle.std.proofs.lemmas.Bool.{MatchBool-at_true, MatchBool-at_false, true≢false}
use Rattle.std.proofs.lemmas.List.{take_at, take-append-drop, length-take-le, length-drop}
use Rattle.base_types.specs.Lines.{newline}
use Rattle.report_cut.specs.Scan.{IsOneLine, IsRead}
use Rattle.report_cut.specs.Pending.{IsGrown, IsGrownHeader, IsGrownBehind, IsHeaderEnd, IsHeaderLine, room_of}
use Rattle.report_cut.specs.declared.pending.Pending.{Pending}
use Rattle.report_cut.proofs.LinesOf.{lines_of-ended, whole_ended, one_line_append}
use Rattle.report_cut.proofs.Reading.{EndsAt}

pub grown_header : (p : Pending) (before : ℕ) → IsGrown p before → p.in_header ≡ true → IsGrownHeader p before
grown_header p before g is = MatchBool-at_true (IsGrownHeader p before) (IsGrownBehind p before) is g.stands

pub grown_behind : (p : Pending) (before : ℕ) → IsGrown p before → p.in_header ≡ false → IsGrownBehind p before
grown_behind p before g is = MatchBool-at_false (IsGrownHeader p before) (IsGrownBehind p before) is g.stands

-- nothing of these bytes has been read
pub read_none : (room : ℕ) (bytes : List ℕ) → IsRead room bytes 0 0
read_none room bytes = record { lines = []; opened = []; rest = bytes; split = refl; run = record { whole = refl; fits = inl (omega arith); short = omega arith }; partial = refl; at_whole = refl; at_seen = omega arith }

header_line : (items line more : List ℕ) (before i : ℕ) → before ≤ length items → IsOneLine (take before items) → drop before items ≡ line ++ newline ∷ more → IsOneLine line → length line ≡ i → take (before + i + 1) items ≡ (take before items ++ line) ++ newline ∷ []
header_line items line more before i within first split one size =
    let all : items ≡ ((take before items ++ line) ++ newline ∷ []) ++ more =
    sym (take-append-drop before items) ∙ ap (λ xs. take before items ++ xs) split ∙ rw (append_assoc, append_assoc) refl in
    ap (take (before + i + 1)) all ∙ take_at ((take before items ++ line) ++ newline ∷ []) more (before + i + 1) (omega (arith, length-append (take before items ++ line) (newline ∷ []), length-append (take before items) line, length-take-le before items within, size))

pub header_found : (p : Pending) (before i : ℕ) → IsGrown p before → p.in_header ≡ true → EndsAt (drop before p.bytes.items) i → IsHeaderEnd p before (before + i + 1)
header_found p before i g is e =
    let h : IsGrownHeader p before = grown_header p before g is in
    let line = header_line p.bytes.items e.line e.more before i h.within h.partial e.split e.one e.at in
    let one = one_line_append (take before p.bytes.items) e.line h.partial e.one in
    let size : length (drop before p.bytes.items) ≡ length p.bytes.items - before = length-drop before p.bytes.items in
    record {
      header = record {
        within = omega (arith, size, ap length e.split, length-append e.line (newline ∷ e.more), e.at, h.within);
        plain = λ not_so. absurd (true≢false (sym h.in_header.replicate ∙ not_so));
        line = λ _ _. subst IsHeaderLine (sym line) (record { whole = whole_ended (take before p.bytes.items ++ e.line); one = lines_of-ended (take before p.bytes.items ++ e.line) one });
      };
      placed = inl h.in_header.at;
      short = inr h.in_header;
      read = subst (λ n. IsRead (room_of p.rule (before + i + 1)) (drop (before + i + 1) p.bytes.items) n (before - (before + i + 1))) (sym h.in_header.whole) (subst (λ n. IsRead (room_of p.rule (before + i + 1)) (drop (before + i + 1) p.bytes.items) 0 n) (omega arith) (read_none (room_of p.rule (before + i + 1)) (drop (before + i + 1) p.bytes.items)));
    }

pub header_none : (p : Pending) (before : ℕ) → IsGrown p before → p.in_header ≡ true → IsOneLine (drop before p.bytes.items) → IsOneLine p.bytes.items
header_none p before g is one =
    subst IsOneLine (take-append-drop before p.bytes.items) (one_line_append (take before p.bytes.items) (drop before p.bytes.items) (grown_header p before g is).partial one)
