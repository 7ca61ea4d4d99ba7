-- What is left of a feed where it ends.
use Rattle.std.proofs.Common.{◌≡◌, ℕ, ◌+◌, ◌-◌, ◌<◌, ◌≤◌, inr, ⊎_elim, false, nat_le, List, [], ◌∷◌, ◌++◌, length, take, drop, refl, sym, ap, ◌∙◌, subst, arith, length-append}
use Rattle.std.proofs.lemmas.Bool.{cond-true, le-leb, cases_Bool}
use Rattle.report_cut.specs.Pieces.{Piece, End, next_under}
use Rattle.std.proofs.lemmas.List.{take-append-drop}
use Rattle.report_cut.specs.Scan.{IsOpen}
use Rattle.report_cut.specs.Cutter.{header_in, CutsAll}
use Rattle.report_cut.specs.Pending.{held_of, cutting_of, IsSound, IsHeaderOpen, IsBehindHeader}
use Rattle.report_cut.specs.declared.piece.CutRule.{CutRule}
use Rattle.report_cut.specs.declared.piece.Cut.{Cut}
use Rattle.report_cut.specs.declared.pending.Pending.{Pending}
use Rattle.report_cut.proofs.NextPiece.{open_next}
use Rattle.report_cut.proofs.Handing.{front_of, front_fed, front_header, count_is, length_header, header_alone, header_fed, open_header, held_at_front}
use Rattle.report_cut.proofs.Growing.{sound_open, sound_behind}

-- at the feed's end nothing comes
end_at : (rule : CutRule) (header feed : List ℕ) (at : ℕ) → length feed ≤ at → next_under rule header feed at ≡ End
end_at rule header feed at past = cond-true (nat_le (length feed) at) End _ (le-leb (length feed) at past)

-- the piece at the feed's end
abbrev pub last_cut : Pending → Cut
last_cut p = record { piece = take p.head p.bytes.items ++ drop p.head p.bytes.items; upto = p.at + length (held_of p) }

cuts_all : (p : Pending) → 0 < length (held_of p) → ((before : List ℕ) → length before ≡ p.at → next_under p.rule (header_in (cutting_of p false) (before ++ held_of p)) (before ++ held_of p) p.at ≡ Piece (last_cut p)) → CutsAll (cutting_of p false) (last_cut p ∷ [])
cuts_all p some next = λ before at.
    record { pieces = (next before at, tt); behind = end_at p.rule (header_in (cutting_of p false) (before ++ held_of p)) (before ++ held_of p) (p.at + length (held_of p)) (omega (arith, at, length-append before (held_of p))) }

last_behind : (p : Pending) → IsBehindHeader p → 0 < length (held_of p) → CutsAll (cutting_of p false) (last_cut p ∷ [])
last_behind p b some = cuts_all p some (λ before at.
    let f = front_of p p.head before b.header (inr refl) at in
    let header : List ℕ = take p.head p.bytes.items in
    let lines : List ℕ = drop p.head p.bytes.items in
    let size : length header ≡ p.head = length_header p p.head b.header in
    let fed = front_fed p p.head before f in
    ap (λ h. next_under p.rule h (before ++ held_of p) p.at) (front_header p p.head before f)
    ∙ ap (λ feed. next_under p.rule header feed p.at) fed
    ∙ open_next p.rule header f.front lines p.at p.whole (subst (λ n. IsOpen (p.rule.chunk_size - n) lines p.whole) (sym size) b.waiting) (omega (arith, at, some, ap length fed, length-append before (held_of p))) (omega (arith, size, b.short)) (sym f.size)
    ∙ ap (λ n. Piece (record { piece = header ++ lines; upto = n })) (omega (arith, f.size, count_is p p.head b.header (inr refl))))

last_in_header : (p : Pending) → IsHeaderOpen p → 0 < length (held_of p) → CutsAll (cutting_of p false) (last_cut p ∷ [])
last_in_header p o some = cuts_all p some (λ before at.
    let zero : p.at ≡ 0 = o.in_header.at in
    let items : List ℕ = p.bytes.items in
    let held : held_of p ≡ items = held_at_front p zero in
    let whole : items ≡ take p.head items ++ drop p.head items = sym (take-append-drop p.head items) in
    let upto : length items ≡ p.at + length (held_of p) = omega (arith, zero, ap length held) in
    ap (λ h. next_under p.rule h (before ++ held_of p) p.at) (open_header p before o.in_header o.partial at)
    ∙ ap (λ feed. next_under p.rule items feed p.at) (header_fed p before zero at)
    ∙ ap (next_under p.rule items items) zero
    ∙ header_alone p.rule items o.in_header.replicate (omega (arith, some, ap length held)) o.short
    ∙ ap (λ xs. Piece (record { piece = xs; upto = length items })) whole
    ∙ ap (λ n. Piece (record { piece = take p.head items ++ drop p.head items; upto = n })) upto)

pub last_some : (p : Pending) → IsSound p → 0 < length (held_of p) → CutsAll (cutting_of p false) (last_cut p ∷ [])
last_some p s some =
    ⊎_elim (λ is. last_in_header p (sound_open p s is) some) (λ is. last_behind p (sound_behind p s is) some) (cases_Bool p.in_header)
