-- One more finished piece behind those that are cut already.
use Rattle.std.proofs.Common.{◌≡◌, ℕ, ◌+◌, ◌-◌, ◌<◌, ◌≤◌, ◌==◌, inl, ⊎_elim, ◌&&◌, List, [], ◌∷◌, ◌++◌, length, take, drop, refl, sym, ap, ◌∙◌, arith, append_assoc, length-append}
use Rattle.std.proofs.lemmas.Bool.{cond-false, and_right, ne_eqb, cases_lt}
use Rattle.std.proofs.lemmas.List.{drop_at, take-append-drop, length-take-le, drop-drop, length-drop}
use Rattle.report_cut.specs.Pieces.{Piece, longest_line, start_of, next_under, next_so_far, AreNext, AreFinished, offset_behind}
use Rattle.report_cut.specs.Scan.{IsRead, IsDue, IsCutting}
use Rattle.report_cut.specs.declared.piece.CutRule.{CutRule}
use Rattle.report_cut.specs.declared.piece.Cut.{Cut}
use Rattle.report_cut.proofs.NextPiece.{due_next, due_so_far}

pub AreNext-push : (rule : CutRule) (header feed : List ℕ) (at : ℕ) (cuts : List Cut) (cut : Cut) → AreNext rule header feed at cuts → next_under rule header feed (offset_behind at cuts) ≡ Piece cut → AreNext rule header feed at (cuts ++ cut ∷ [])
AreNext-push rule header feed at [] cut are is = (is, tt)
AreNext-push rule header feed at (c ∷ cs) cut are is = (are.0, AreNext-push rule header feed c.upto cs cut are.1 is)

pub AreFinished-push : (rule : CutRule) (header fed : List ℕ) (at : ℕ) (cuts : List Cut) (cut : Cut) → AreFinished rule header fed at cuts → next_so_far rule header fed (offset_behind at cuts) ≡ Piece cut → AreFinished rule header fed at (cuts ++ cut ∷ [])
AreFinished-push rule header fed at [] cut are is = (is, tt)
AreFinished-push rule header fed at (c ∷ cs) cut are is = (are.0, AreFinished-push rule header fed c.upto cs cut are.1 is)

pub offset_behind-push : (at : ℕ) (cuts : List Cut) (cut : Cut) → offset_behind at (cuts ++ cut ∷ []) ≡ cut.upto
offset_behind-push at [] cut = refl
offset_behind-push at (c ∷ cs) cut = offset_behind-push c.upto cs cut

-- behind a first piece the lines of the next begin at its offset
pub start_of-some : (rule : CutRule) (header : List ℕ) (at : ℕ) → 0 < at → start_of rule header at ≡ at
start_of-some rule header at some = cond-false (rule.replicate && (at == 0)) (length header) at (and_right rule.replicate (at == 0) (ne_eqb at 0 (λ e. omega arith)))

pub place_is : (rule : CutRule) (header : List ℕ) (at : ℕ) (lines : List ℕ) (cuts : List Cut) (taken : ℕ) → IsCutting rule header at lines cuts taken → at ≤ start_of rule header at → (start_of rule header (offset_behind at cuts) ≡ start_of rule header at + taken) × (offset_behind at cuts ≤ start_of rule header at + taken)
place_is rule header at lines cuts taken k inside =
    ⊎_elim
    (λ some. let behind = k.some some in (ap (start_of rule header) behind ∙ start_of-some rule header (start_of rule header at + taken) (omega (arith, some)), omega (arith, behind)))
    (λ none. let zero : taken ≡ 0 = omega (arith, none) in let behind : offset_behind at cuts ≡ at = ap (offset_behind at) (k.none zero) in (ap (start_of rule header) behind ∙ omega (arith, zero), omega (arith, behind)))
    (cases_lt 0 taken)

-- the feed, seen from behind the lines that are taken
pub split_feed : (front lines more : List ℕ) (taken : ℕ) → front ++ (lines ++ more) ≡ (front ++ take taken lines) ++ (drop taken lines ++ more)
split_feed front lines more taken =
    ap (λ xs. front ++ (xs ++ more)) (sym (take-append-drop taken lines)) ∙ ap (λ xs. front ++ xs) (append_assoc (take taken lines) (drop taken lines) more) ∙ sym (append_assoc front (take taken lines) (drop taken lines ++ more))

pub split_fed : (front lines : List ℕ) (taken : ℕ) → front ++ lines ≡ (front ++ take taken lines) ++ drop taken lines
split_fed front lines taken =
    ap (λ xs. front ++ xs) (sym (take-append-drop taken lines)) ∙ sym (append_assoc front (take taken lines) (drop taken lines))

pub length_front : (front lines : List ℕ) (taken start : ℕ) → taken ≤ length lines → length front ≡ start → length (front ++ take taken lines) ≡ start + taken
length_front front lines taken start within e = omega (arith, length-append front (take taken lines), length-take-le taken lines within)

-- the piece that is cut behind the others
abbrev pub next_cut : CutRule → List ℕ → ℕ → List ℕ → ℕ → ℕ → Cut
next_cut rule header at lines taken len = record { piece = header ++ take ((taken + len) - taken) (drop taken lines); upto = start_of rule header at + (taken + len) }

cut_is : (rule : CutRule) (header : List ℕ) (at : ℕ) (lines : List ℕ) (taken len n : ℕ) → n ≡ start_of rule header at + taken → Piece (record { piece = header ++ take len (drop taken lines); upto = n + len }) ≡ Piece (next_cut rule header at lines taken len)
cut_is rule header at lines taken len n e =
    ap (λ k. Piece (record { piece = header ++ take k (drop taken lines); upto = n + len })) (omega arith) ∙ ap (λ k. Piece (record { piece = header ++ take ((taken + len) - taken) (drop taken lines); upto = k })) (omega (arith, e))

pub cutting_more : (rule : CutRule) (header : List ℕ) (at : ℕ) (lines : List ℕ) (cuts : List Cut) (taken len seen : ℕ) → IsCutting rule header at lines cuts taken → IsDue (rule.chunk_size - length header) (drop taken lines) len seen → len ≤ length (drop taken lines) → taken + len ≤ length lines → at ≤ start_of rule header at → length header ≤ longest_line → IsCutting rule header at lines (cuts ++ next_cut rule header at lines taken len ∷ []) (taken + len)
cutting_more rule header at lines cuts taken len seen k d has room inside short =
    let place = place_is rule header at lines cuts taken k inside in
    let cut : Cut = next_cut rule header at lines taken len in
    record {
      pieces = λ front more e.
          let at_front : length (front ++ take taken lines) ≡ start_of rule header at + taken = length_front front lines taken (start_of rule header at) k.within e in
          AreNext-push rule header (front ++ (lines ++ more)) at cuts cut (k.pieces front more e)
          (ap (λ feed. next_under rule header feed (offset_behind at cuts)) (split_feed front lines more taken)
          ∙ due_next rule header (front ++ take taken lines) (drop taken lines) more (offset_behind at cuts) len seen d (omega (arith, place.1, at_front)) short (place.0 ∙ sym at_front)
          ∙ cut_is rule header at lines taken len _ at_front);
      finished = λ front e.
          let at_front : length (front ++ take taken lines) ≡ start_of rule header at + taken = length_front front lines taken (start_of rule header at) k.within e in
          AreFinished-push rule header (front ++ lines) at cuts cut (k.finished front e)
          (ap (λ fed. next_so_far rule header fed (offset_behind at cuts)) (split_fed front lines taken)
          ∙ due_so_far rule header (front ++ take taken lines) (drop taken lines) (offset_behind at cuts) len seen d (omega (arith, place.1, at_front)) short (place.0 ∙ sym at_front)
          ∙ cut_is rule header at lines taken len _ at_front);
      none = λ e. absurd (omega (arith, d.some));
      some = λ less. offset_behind-push at cuts cut;
      any = λ less. omega (arith, length-append cuts (cut ∷ []));
      within = room;
    }

-- how long the lines of a due piece are
pub due_within : (room : ℕ) (lines : List ℕ) (taken len seen : ℕ) → taken ≤ length lines → IsDue room (drop taken lines) len seen → (len ≤ length (drop taken lines)) × (taken + len ≤ length lines) × (len ≤ seen) × (0 < len) × (seen ≤ length (drop taken lines))
due_within room lines taken len seen within d =
    let size = ap length d.split in
    let parts = length-append d.lines (d.opened ++ d.rest) in
    let tail = length-append d.opened d.rest in
    (omega (arith, size, parts, d.at_len), omega (arith, size, parts, d.at_len, length-drop taken lines), omega (arith, d.at_seen), d.some, omega (arith, size, parts, tail, d.at_len, d.at_seen))

-- what has been read behind a piece that was cut off
pub read_behind : (room : ℕ) (lines : List ℕ) (taken len seen : ℕ) → IsDue room (drop taken lines) len seen → IsRead room (drop (taken + len) lines) 0 (seen - len)
read_behind room lines taken len seen d =
    record {
      lines = [];
      opened = d.opened;
      rest = d.rest;
      split = sym (drop-drop len taken lines) ∙ ap (drop len) d.split ∙ drop_at d.lines (d.opened ++ d.rest) len d.at_len;
      run = record { whole = refl; fits = inl (omega arith); short = omega arith };
      partial = d.partial;
      at_whole = refl;
      at_seen = omega (arith, d.at_seen);
    }
