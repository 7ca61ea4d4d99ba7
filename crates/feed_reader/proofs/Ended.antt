-- The end of a feed.
use Rattle.std.proofs.Common.{◌≡◌, ℕ, ◌≤◌, true, false, None, List, [], ◌++◌, length, replicate, sym, ap, ◌∙◌, subst, arith}
use Rattle.std.proofs.lemmas.List.{drop_all, length-replicate}
use Rattle.report_cut.specs.Pieces.{End, header_of, next, AreNext, IsCutUnder, offset_behind}
use Rattle.report_cut.specs.Cutter.{Cutting, header_in, CutsAll}
use Rattle.report_cut.specs.Standing.{Reached}
use Rattle.report_cut.proofs.Calls.{ended_in}
use Rattle.feed_reader.specs.Coming.{StandsIn, IsCounted, AreOnward, ArePlain}
use Rattle.feed_reader.specs.declared.coming.Coming.{Coming}
use Rattle.feed_reader.proofs.Given.{onward, plain_header, plain_pieces}
use Rattle.feed_reader.proofs.Taken.{stands_at}

-- the rest was cut off when the feed ended
pub record Ended (c d : Coming) : Type 0 where
  pub going : c.ended ≡ false
  pub over : d.ended ≡ true
  pub none : c.pieces.items ≡ []
  pub none_long : c.cutter.long ≡ None
  pub at : d.at ≡ c.at
  pub cutter : d.cutter ≡ record c.cutter { ended = true }
  pub all : CutsAll c.cutter d.pieces.items

pub counted_ended : (c d : Coming) → IsCounted c → Ended c d → IsCounted d
counted_ended c d k t =
    let s : Cutting = c.cutter in
    let rule : d.cutter.rule ≡ s.rule = ap (λ u. u.rule) t.cutter in
    let here = stands_at c k t.going t.none in
    record {
      chunk = omega (arith, k.chunk, ap (λ r. r.chunk_size) rule);
      ended = ap (λ u. u.ended) t.cutter ∙ sym t.over;
      bounded = omega (arith, k.bounded, ap (λ u. length u.held) t.cutter);
      behind = λ going. absurd (cc (going, t.over));
      read = λ going none. absurd (cc (going, t.over));
      header = λ plain. ap (λ u. u.header) t.cutter ∙ k.header (ap (λ r. r.replicate) (sym rule) ∙ plain);
      plain = λ plain.
          let front : List ℕ = replicate s.at 0 in
          let feed : List ℕ = front ++ s.held in
          let plain' = ap (λ r. r.replicate) (sym rule) ∙ plain in
          subst (λ n. ArePlain n d.pieces.items) (sym (t.at ∙ here)) (plain_pieces s.rule (header_in s feed) feed s.at d.pieces.items plain' (plain_header s feed plain' (k.header plain')) k.chunk (t.all front (length-replicate s.at 0)).pieces);
      onward =
          let front : List ℕ = replicate s.at 0 in
          let feed : List ℕ = front ++ s.held in
          subst (λ n. AreOnward n d.pieces.items) (sym (t.at ∙ here)) (onward s.rule (header_in s feed) feed s.at d.pieces.items (t.all front (length-replicate s.at 0)).pieces);
    }

pub stands_ended : (c d : Coming) (feed : List ℕ) → IsCounted c → Ended c d → StandsIn feed c → length feed ≤ c.read → StandsIn feed d
stands_ended c d feed k t stands past =
    let s : Cutting = c.cutter in
    let rule : d.cutter.rule ≡ s.rule = ap (λ u. u.rule) t.cutter in
    let at : d.at ≡ s.at = t.at ∙ stands_at c k t.going t.none in
    let reached : Reached s.rule feed s [] = subst (Reached s.rule feed s) (drop_all c.read feed past) (stands.reached t.going) in
    let cut : IsCutUnder s.rule (header_of s.rule feed) feed s.at d.pieces.items End = ended_in s.rule feed s d.pieces.items reached.knows (reached.is_in t.none_long) t.all in
    let here = subst (λ n. IsCutUnder s.rule (header_of s.rule feed) feed n d.pieces.items End) (sym at) cut in
    record {
      pieces = subst (λ r. AreNext r (header_of r feed) feed d.at d.pieces.items) (sym rule) here.pieces;
      reached = λ going. absurd (cc (going, t.over));
      end = λ _. subst (λ r. next r feed (offset_behind d.at d.pieces.items) ≡ End) (sym rule) here.behind;
    }
