-- What a cutter that holds these bytes has to do with a feed.
use Rattle.std.proofs.Common.{◌≡◌, ◌⊎◌, inl, inr, ⊎_elim, ◌==◌, ◌&&◌, ℕ, zero, suc, ◌≤◌, ◌<◌, Bool, true, false, cond, Option, Some, None, MatchOption, unwrap_or, List, [], ◌∷◌, ◌++◌, length, replicate, refl, sym, ap, ◌∙◌, arith, length-append}
use Rattle.std.specs.List.{concat}
use Rattle.std.proofs.lemmas.Bool.{cond-false}
use Rattle.std.proofs.lemmas.List.{length-replicate}
use Rattle.base_types.specs.Lines.{first_line}
use Rattle.report_cut.specs.Pieces.{Long, longest_line, header_of, next, start_of, AreNext}
use Rattle.report_cut.specs.Cutter.{Cutting, header_in, ComeNext, StaysLong}
use Rattle.report_cut.specs.Standing.{Reached}
use Rattle.report_cut.specs.declared.piece.CutRule.{CutRule}
use Rattle.report_cut.specs.declared.piece.Cut.{Cut}
use Rattle.report_cut.proofs.Calls.{stays_in}
use Rattle.report_cut.proofs.Joined.{next_piece, rises, within_some, IsNextPiece}
use Rattle.report_cut.proofs.Plain.{plain_piece}
use Rattle.feed_reader.specs.Coming.{AreOnward, ArePlain}

pub none_of : (o : Option ℕ) → ((n : ℕ) → o ≡ Some n → ⊥) → o ≡ None
none_of None not_some = refl
none_of (Some n) not_some = absurd (not_some n refl)

pub plain_header : (s : Cutting) (feed : List ℕ) → s.rule.replicate ≡ false → s.header ≡ None → header_in s feed ≡ []
plain_header s feed plain none = ap (λ o. unwrap_or o (header_of s.rule feed)) none ∙ cond-false s.rule.replicate (first_line feed) [] plain

pub plain_pieces : (rule : CutRule) (header feed : List ℕ) (at : ℕ) (cuts : List Cut) → rule.replicate ≡ false → header ≡ [] → rule.chunk_size ≤ longest_line → AreNext rule header feed at cuts → ArePlain at cuts
plain_pieces rule header feed at [] plain none small are = tt
plain_pieces rule header feed at (cut ∷ cuts) plain none small are =
    (plain_piece rule header feed at cut plain none small are.0, plain_pieces rule header feed cut.upto cuts plain none small are.1)

-- the lines of a piece begin at its offset, or behind it
behind_start : (rule : CutRule) (header : List ℕ) (at : ℕ) → at ≤ start_of rule header at
behind_start rule header zero = omega arith
behind_start rule header (suc at) = within_some rule header (suc at) (omega arith)

-- the pieces that come next in each feed with these bytes, also in one that is made up
pub plain_next : (s : Cutting) (bytes : List ℕ) (cuts : List Cut) → s.rule.replicate ≡ false → s.header ≡ None → s.rule.chunk_size ≤ longest_line → ComeNext s bytes cuts → ArePlain s.at cuts
plain_next s bytes cuts plain none small next =
    let front : List ℕ = replicate s.at 0 in
    let feed : List ℕ = front ++ (bytes ++ []) in
    plain_pieces s.rule (header_in s feed) feed s.at cuts plain (plain_header s feed plain none) small (next front [] (length-replicate s.at 0))

-- a piece that ends behind its offset has a byte: one of its lines, or of the header that comes first
some_byte : (rule : CutRule) (header feed : List ℕ) (at : ℕ) (cut : Cut) → at < cut.upto → IsNextPiece rule header feed at cut → 0 < length cut.piece
some_byte rule header feed at cut up n =
    let size = ap length n.parts.piece ∙ length-append header (concat n.parts.run) in
    ⊎_elim
    (λ start. omega (arith, up, size, n.parts.upto, start))
    (λ start. omega (arith, up, size, n.parts.upto, start))
    (starts (rule.replicate && (at == 0)))
  where
    starts : (b : Bool) → (cond b (length header) at ≡ length header) ⊎ (cond b (length header) at ≡ at)
    starts true = inl refl
    starts false = inr refl

-- pieces that come next have a byte, and their offsets rise
pub onward : (rule : CutRule) (header feed : List ℕ) (at : ℕ) (cuts : List Cut) → AreNext rule header feed at cuts → AreOnward at cuts
onward rule header feed at [] are = tt
onward rule header feed at (cut ∷ cuts) are =
    let n = next_piece rule header feed at cut are.0 in
    let up = rises rule header feed at cut (behind_start rule header at) n in
    ((up, some_byte rule header feed at cut up n), onward rule header feed cut.upto cuts are.1)

pub onward_next : (s : Cutting) (bytes : List ℕ) (cuts : List Cut) → ComeNext s bytes cuts → AreOnward s.at cuts
onward_next s bytes cuts next =
    let front : List ℕ = replicate s.at 0 in
    let feed : List ℕ = front ++ (bytes ++ []) in
    onward s.rule (header_in s feed) feed s.at cuts (next front [] (length-replicate s.at 0))

-- the line that is too long is what comes next
pub long_next : (rule : CutRule) (feed : List ℕ) (s : Cutting) (bytes rest : List ℕ) (line : ℕ) (o : Option ℕ) → o ≡ s.long → Reached rule feed s (bytes ++ rest) → MatchOption o (StaysLong s (s.held ++ bytes) s.at line) (λ met. met ≡ line) → next rule feed s.at ≡ Long line
long_next rule feed s bytes rest line None is r meets = stays_in rule feed s bytes rest s.at line r.knows (r.is_in (sym is)) meets
long_next rule feed s bytes rest line (Some met) is r meets = r.stays met (sym is) ∙ ap (λ n. Long n) meets
