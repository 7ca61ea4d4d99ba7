use Rattle.std.proofs.Common.{◌≤◌, ℕ, length, IfOk, sym, ap, subst, ◌∙◌}
use Rattle.feed_reader.specs.Ahead.{behind}
use Rattle.collector_feeds.specs.Found.{IsAhead}
use Rattle.collector_feeds.proofs.Finding.{ahead_piece, piece_within}
use Rattle.collector_feeds.proofs.open_feed.read_on.Goals as goal
use Rattle.collector_feeds.proofs.open_feed.read_on.Goals.{in-Ok-Piece, in-Ok-End, in-Ok-LongLine, in-Err}

pub returns-clause-ahead : goal.returns-clause-ahead
returns-clause-ahead g c = elim c.match-next_piece.branch [
  | in-Ok-Piece w ↦ subst (λ r. IfOk r (IsAhead c.args.reader.at)) (sym w.found-is) (w.within_limit.ensures.ahead c.args.reader.at (rw w.in-Ok-Piece.field-0-is at w.in-Ok-Piece.ensures.onward))
  | in-Ok-End w ↦ subst (λ r. IfOk r (IsAhead c.args.reader.at)) (sym w.found-is) tt
  | in-Ok-LongLine w ↦ subst (λ r. IfOk r (IsAhead c.args.reader.at)) (sym w.found-is) tt
  | in-Err w ↦ subst (λ r. IfOk r (IsAhead c.args.reader.at)) (sym w.found-is) tt
]

pub returns-clause-within : goal.returns-clause-within
returns-clause-within g c = λ feed told within. elim c.match-next_piece.branch [
  | in-Ok-Piece w ↦
      let at = w.in-Ok-Piece.ensures.at ∙ ap (behind c.args.reader.at) w.in-Ok-Piece.field-0-is in
      subst (λ (n : ℕ). n ≤ length feed) (sym at) (piece_within c.args.reader.rule feed c.args.reader.at w.in-Ok-Piece.cut within (ahead_piece _ w.in-Ok-Piece.cut (sym (w.in-Ok-Piece.ensures.next feed told) ∙ w.in-Ok-Piece.field-0-is)))
  | in-Ok-End w ↦ subst (λ (n : ℕ). n ≤ length feed) (sym (w.in-Ok-End.ensures.at ∙ ap (behind c.args.reader.at) w.in-Ok-End.field-0-is)) within
  | in-Ok-LongLine w ↦ subst (λ (n : ℕ). n ≤ length feed) (sym (w.in-Ok-LongLine.ensures.at ∙ ap (behind c.args.reader.at) w.in-Ok-LongLine.field-0-is)) within
  | in-Err w ↦ subst (λ (n : ℕ). n ≤ length feed) (sym w.in-Err.ensures.at) within
]
