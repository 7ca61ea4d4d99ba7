use Rattle.std.proofs.Common.{◌≡◌, ◌++◌, drop, length, sym, ◌∙◌, ap, subst, arith}
use Rattle.std.proofs.lemmas.List.{append-nil}
use Rattle.std.proofs.lemmas.Result.{MatchResult-from_err}
use Rattle.base_types.specs.Lines.{lines_of}
use Rattle.edge_traits.specs.Output.{Moved}
use Rattle.edge_traits.proofs.Outputs.{TookFront-rest}
use Rattle.feed_reader.specs.Ahead.{behind, IsPlainAhead}
use Rattle.feed_reader.specs.declared.ahead.Ahead.TheVariants as ahead
use Rattle.pipeline_top.specs.Convert.{conversion, conversion_from, end_at, end_from, convert_bot, put_line, behind_line}
use Rattle.pipeline_top.specs.Line.{conversion_unless, end_unless}
use Rattle.status_texts.specs.declared.status.Status.TheVariants as status
use Rattle.pipeline_top.proofs.Ahead.{ahead_here, piece_comes, long_comes}
use Rattle.pipeline_top.proofs.LineEnds.{Moved-then, line_of-long}
use Rattle.pipeline_top.proofs.pieces.convert_pieces.Goals as goal

pub returns-in_err-end-in-Piece-clause-front : goal.returns-in_err-end-in-Piece-clause-front
returns-in_err-end-in-Piece-clause-front g c = λ content told.
    let kept = c.pieces.invariant in let place = c.pieces.place in let cut = c.in-Piece.cut in let piece = c.bytes-piece.result.now in
    let later = lines_of (drop cut.upto content) in
    let here = ahead_here (ahead.Piece cut) c.pieces.reader.rule content c.pieces.reader.at place.at kept.rule kept.at (sym c.in-Piece.is ∙ c.in_ok-cut.ensures.next content (kept.told ∙ told)) in
    let comes = piece_comes content place.at cut here ∙ ap (λ p. lines_of p ++ later) (sym c.bytes-piece.ensures) in
    let moved = subst (λ ls. Moved (g.S.Sink.sink c.args.out.now) (g.S.Sink.sink c.pieces.out) (c.args.buffer.now ++ conversion content) (c.pieces.buffer ++ conversion_from place ls)) comes (kept.moved content told) in
    MatchResult-from_err c.from_residual-in_err-end-in-Piece.result _ _ c.from_residual-in_err-end-in-Piece.ensures.0
    (λ e. TookFront-rest moved (c.in_err-end-in-Piece.ensures.front later))

pub returns-in-Some-clause-end : goal.returns-in-Some-clause-end
returns-in-Some-clause-end g c = λ content told.
    let kept = c.pieces.invariant in let place = c.pieces.place in let cut = c.in-Piece.cut in let piece = c.bytes-piece.result.now in
    let later = lines_of (drop cut.upto content) in
    let here = ahead_here (ahead.Piece cut) c.pieces.reader.rule content c.pieces.reader.at place.at kept.rule kept.at (sym c.in-Piece.is ∙ c.in_ok-cut.ensures.next content (kept.told ∙ told)) in
    let comes = piece_comes content place.at cut here ∙ ap (λ p. lines_of p ++ later) (sym c.bytes-piece.ensures) in
    sym (kept.end content told ∙ ap (end_from place) comes ∙ c.in_ok-end-in-Piece.ensures.end later ∙ ap (λ o. end_unless o c.in_ok-end-in-Piece.behind later) c.in-Some.is)

pub returns-in-Some-clause-written : goal.returns-in-Some-clause-written
returns-in-Some-clause-written g c = λ content told.
    let kept = c.pieces.invariant in let place = c.pieces.place in let cut = c.in-Piece.cut in let piece = c.bytes-piece.result.now in
    let later = lines_of (drop cut.upto content) in
    let here = ahead_here (ahead.Piece cut) c.pieces.reader.rule content c.pieces.reader.at place.at kept.rule kept.at (sym c.in-Piece.is ∙ c.in_ok-cut.ensures.next content (kept.told ∙ told)) in
    let comes = piece_comes content place.at cut here ∙ ap (λ p. lines_of p ++ later) (sym c.bytes-piece.ensures) in
    let moved = subst (λ ls. Moved (g.S.Sink.sink c.args.out.now) (g.S.Sink.sink c.pieces.out) (c.args.buffer.now ++ conversion content) (c.pieces.buffer ++ conversion_from place ls)) comes (kept.moved content told) in
    let buffer = c.convert_piece.new.buffer in
    subst (Moved (g.S.Sink.sink c.args.out.now) (g.S.Sink.sink c.convert_piece.new.out) (c.args.buffer.now ++ conversion content))
    (ap (λ o. buffer ++ conversion_unless o c.in_ok-end-in-Piece.behind later) c.in-Some.is ∙ append-nil buffer)
    (Moved-then moved (c.in_ok-end-in-Piece.ensures.written later))

pub pieces-preserved : goal.pieces-preserved
pieces-preserved g c =
    let kept = c.pieces.invariant in let now = c.in_ok-end-in-Piece.behind in let buffer = c.convert_piece.new.buffer in
    let plain = subst (IsPlainAhead c.pieces.reader.at) c.in-Piece.is (c.in_ok-cut.ensures.plain (ap (λ r. r.replicate) kept.rule)) in
    let upto : now.at ≡ c.in-Piece.cut.upto = omega (arith, c.in_ok-end-in-Piece.ensures.at c.in_default.is, kept.at, plain.1, ap length c.bytes-piece.ensures) in
    record {
      moved = λ content told.
          let kept = c.pieces.invariant in let place = c.pieces.place in let cut = c.in-Piece.cut in let piece = c.bytes-piece.result.now in
          let later = lines_of (drop cut.upto content) in
          let here = ahead_here (ahead.Piece cut) c.pieces.reader.rule content c.pieces.reader.at place.at kept.rule kept.at (sym c.in-Piece.is ∙ c.in_ok-cut.ensures.next content (kept.told ∙ told)) in
          let comes = piece_comes content place.at cut here ∙ ap (λ p. lines_of p ++ later) (sym c.bytes-piece.ensures) in
          let moved = subst (λ ls. Moved (g.S.Sink.sink c.args.out.now) (g.S.Sink.sink c.pieces.out) (c.args.buffer.now ++ conversion content) (c.pieces.buffer ++ conversion_from place ls)) comes (kept.moved content told) in
          subst (Moved (g.S.Sink.sink c.args.out.now) (g.S.Sink.sink c.convert_piece.new.out) (c.args.buffer.now ++ conversion content))
          (ap (λ o. buffer ++ conversion_unless o now later) c.in_default.is ∙ ap (λ n. buffer ++ conversion_from now (lines_of (drop n content))) (sym upto))
          (Moved-then moved (c.in_ok-end-in-Piece.ensures.written later));
      end = λ content told.
          let kept = c.pieces.invariant in let place = c.pieces.place in let cut = c.in-Piece.cut in let piece = c.bytes-piece.result.now in
          let later = lines_of (drop cut.upto content) in
          let here = ahead_here (ahead.Piece cut) c.pieces.reader.rule content c.pieces.reader.at place.at kept.rule kept.at (sym c.in-Piece.is ∙ c.in_ok-cut.ensures.next content (kept.told ∙ told)) in
          let comes = piece_comes content place.at cut here ∙ ap (λ p. lines_of p ++ later) (sym c.bytes-piece.ensures) in
          kept.end content told ∙ ap (end_from place) comes ∙ c.in_ok-end-in-Piece.ensures.end later ∙ ap (λ o. end_unless o now later) c.in_default.is ∙ ap (λ n. end_from now (lines_of (drop n content))) (sym upto);
      at = subst (λ a. c.next_piece.new.self.at ≡ behind c.pieces.reader.at a) c.in-Piece.is c.in_ok-cut.ensures.at ∙ sym upto;
      rule = c.next_piece.ensures.rule ∙ kept.rule;
      near = c.in_ok-end-in-Piece.ensures.near;
      number = c.in_ok-end-in-Piece.ensures.number;
      told = c.next_piece.ensures.told ∙ kept.told;
      name = c.next_piece.ensures.name ∙ kept.name;
      count = omega (arith, kept.count, c.next_piece.ensures.count);
      sink_count = omega (arith, kept.sink_count, c.convert_piece.ensures.sink_count);
    }

pub returns-in-LongLine-clause-end : goal.returns-in-LongLine-clause-end
returns-in-LongLine-clause-end g c = λ content told.
    let kept = c.pieces.invariant in let place = c.pieces.place in let at = c.in-LongLine.at in
    let here = ahead_here (ahead.LongLine at) c.pieces.reader.rule content c.pieces.reader.at place.at kept.rule kept.at (sym c.in-LongLine.is ∙ c.in_ok-cut.ensures.next content (kept.told ∙ told)) in
    let l = long_comes content place.at at here in
    ap (λ b. status.LongLine b at) c.convert_bot-bot.ensures ∙ ap (λ n. status.LongLine convert_bot n) (sym l.at_line)
    ∙ sym (kept.end content told ∙ ap (end_from place) l.lines ∙ ap (λ r. end_at r (end_from (behind_line place l.first) l.later)) (line_of-long place l.first l.long))

pub returns-in-LongLine-clause-written : goal.returns-in-LongLine-clause-written
returns-in-LongLine-clause-written g c = λ content told.
    let kept = c.pieces.invariant in let place = c.pieces.place in let at = c.in-LongLine.at in
    let here = ahead_here (ahead.LongLine at) c.pieces.reader.rule content c.pieces.reader.at place.at kept.rule kept.at (sym c.in-LongLine.is ∙ c.in_ok-cut.ensures.next content (kept.told ∙ told)) in
    let l = long_comes content place.at at here in
    subst (Moved (g.S.Sink.sink c.args.out.now) (g.S.Sink.sink c.pieces.out) (c.args.buffer.now ++ conversion content))
    (ap (λ ls. c.pieces.buffer ++ conversion_from place ls) l.lines ∙ ap (λ r. c.pieces.buffer ++ put_line r (conversion_from (behind_line place l.first) l.later)) (line_of-long place l.first l.long) ∙ append-nil c.pieces.buffer)
    (kept.moved content told)
