use Rattle.std.proofs.Common.{◌∙◌, ◌+◌, ◌-◌, ◌++◌, sym, ap, arith, length, take, length-append}
use Rattle.std.proofs.lemmas.List.{length-take}
use Rattle.live_reload.specs.Lines.{longest_line, lines_from, onto_first_whole}
use Rattle.live_reload.proofs.Wholes.{reads_on, reads_line, onto_none, onto_line, onto_twice, holds_on}
use Rattle.live_reload.proofs.reading.next_line.Goals as goal

pub returns-then-n-eq0-clause-line : goal.returns-then-n-eq0-clause-line
returns-then-n-eq0-clause-line g c = λ content told.
    let kept = c.pieces.invariant in
    let read = kept.read content told in
    read.1 ∙ ap (onto_first_whole read.0) (c.in_ok-n.ensures.end content (kept.told ∙ told) c.if-n-eq0.true) ∙ onto_none read.0

pub returns-in-Some-clause-line : goal.returns-in-Some-clause-line
returns-in-Some-clause-line g c = λ content told.
    let kept = c.pieces.invariant in let piece = c.read_piece.new.piece in let n = c.in_ok-n.n in let i = c.in-Some.end in
    let read = kept.read content told in
    let line = reads_line content piece n c.pieces.upto i c.in_ok-n.ensures.near (c.in_ok-n.ensures.bytes content (kept.told ∙ told)) c.in-Some.ensures in
    (read.0 ++ take i piece, read.1 ∙ ap (onto_first_whole read.0) line ∙ onto_line read.0 (take i piece) _, holds_on c.pieces.front.items read.0 (take i piece) _ read.2 c.in_ok-hold-in-Some.ensures.held)

pub pieces-preserved : goal.pieces-preserved
pieces-preserved g c =
    let kept = c.pieces.invariant in let piece = c.read_piece.new.piece in let n = c.in_ok-n.n in
    let held = c.in_ok-hold-in-None.ensures.held in
    record {
      told = c.in_ok-n.ensures.told ∙ kept.told;
      count = omega (arith, kept.count, c.in_ok-n.ensures.count);
      behind = omega (arith, kept.behind);
      near = c.in_ok-n.ensures.near;
      within = omega (arith, kept.within, ap length held, length-append c.pieces.front.items (take (longest_line - length c.pieces.front.items) (take n piece)), length-take (longest_line - length c.pieces.front.items) (take n piece));
      read = λ content told.
          let read = kept.read content told in
          let on = reads_on content piece n c.pieces.upto c.in_ok-n.ensures.near (c.in_ok-n.ensures.bytes content (kept.told ∙ told)) c.in-None.ensures in
          (read.0 ++ take n piece, read.1 ∙ ap (onto_first_whole read.0) on ∙ sym (onto_twice read.0 (take n piece) (lines_from (c.pieces.upto + n) content)), holds_on c.pieces.front.items read.0 (take n piece) _ read.2 held);
    }
