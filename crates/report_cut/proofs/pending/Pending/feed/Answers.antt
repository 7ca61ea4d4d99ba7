use Rattle.std.proofs.Common.{◌++◌, [], Some, false, take, sym, ap, ◌∙◌, subst}
use Rattle.report_cut.specs.Pieces.{End}
use Rattle.report_cut.specs.Cutter.{ComesAt, Follows, behind_pieces}
use Rattle.report_cut.specs.Pending.{IsAdvance, cutting_of, held_of}
use Rattle.report_cut.proofs.Growing.{next_grown, have_grown, follows_grown, no_long_cuts, no_long_waits, shows_none, comes_grown, same_sound, back_to, fault_long}
use Rattle.report_cut.proofs.pending.Pending.feed.Goals as goal

pub returns-in-Cuts-clause-next : goal.returns-in-Cuts-clause-next
returns-in-Cuts-clause-next c =
    let p = c.args.self.now in
    let v = c.append.new.bytes in
    let cut = subst (IsAdvance (record p { bytes = v })) c.in-Cuts.is c.in-Ok.ensures in
    next_grown p v c.args.piece.now c.in-Cuts.cuts c.in_ok-append.ensures.ok c.requires.sound cut.next

pub returns-in-Cuts-clause-finished : goal.returns-in-Cuts-clause-finished
returns-in-Cuts-clause-finished c =
    let p = c.args.self.now in
    let v = c.append.new.bytes in
    let cut = subst (IsAdvance (record p { bytes = v })) c.in-Cuts.is c.in-Ok.ensures in
    have_grown p v c.args.piece.now c.in-Cuts.cuts c.in_ok-append.ensures.ok c.requires.sound cut.finished

pub returns-in-Cuts-clause-follows : goal.returns-in-Cuts-clause-follows
returns-in-Cuts-clause-follows c =
    let p = c.args.self.now in
    let v = c.append.new.bytes in
    let cut = subst (IsAdvance (record p { bytes = v })) c.in-Cuts.is c.in-Ok.ensures in
    follows_grown p v c.args.piece.now c.in-Cuts.cuts (cutting_of c.in-Cuts.left false) c.in_ok-append.ensures.ok c.requires.sound cut.follows

pub returns-in-Cuts-clause-no_long : goal.returns-in-Cuts-clause-no_long
returns-in-Cuts-clause-no_long c = λ at meets.
    let p = c.args.self.now in
    let v = c.append.new.bytes in
    let cut = subst (IsAdvance (record p { bytes = v })) c.in-Cuts.is c.in-Ok.ensures in
    no_long_cuts (cutting_of p false) (held_of p ++ c.args.piece.now) c.in-Cuts.cuts at cut.any (have_grown p v c.args.piece.now c.in-Cuts.cuts c.in_ok-append.ensures.ok c.requires.sound cut.finished) (shows_none (cutting_of p false) (held_of p ++ c.args.piece.now) at c.in_default.is meets)

pub returns-in-Waits-clause-follows : goal.returns-in-Waits-clause-follows
returns-in-Waits-clause-follows c =
    let p = c.args.self.now in
    let v = c.append.new.bytes in
    let waits = subst (IsAdvance (record p { bytes = v })) c.in-Waits.is c.in-Ok.ensures in
    let new = cutting_of (record p { bytes = v; head = c.in-Waits.head; whole = c.in-Waits.whole; in_header = c.in-Waits.in_header }) false in
    subst (λ cuts. Follows (cutting_of p false) (held_of p ++ c.args.piece.now) cuts new) (sym c.new.ensures) (follows_grown p v c.args.piece.now [] new c.in_ok-append.ensures.ok c.requires.sound waits.1)

pub returns-in-Waits-clause-no_long : goal.returns-in-Waits-clause-no_long
returns-in-Waits-clause-no_long c = λ at meets.
    let p = c.args.self.now in
    let v = c.append.new.bytes in
    let waits = subst (IsAdvance (record p { bytes = v })) c.in-Waits.is c.in-Ok.ensures in
    let comes = subst (λ long. ComesAt (cutting_of (record p { bytes = v }) false) (held_of (record p { bytes = v })) p.at (behind_pieces long)) c.in_default.is waits.1.behind in
    no_long_waits (cutting_of p false) (held_of p ++ c.args.piece.now) at (comes_grown p v c.args.piece.now p.at End c.in_ok-append.ensures.ok c.requires.sound comes) (shows_none (cutting_of p false) (held_of p ++ c.args.piece.now) at c.in_default.is meets)

pub returns-in-LongLine-clause-sound : goal.returns-in-LongLine-clause-sound
returns-in-LongLine-clause-sound c =
    let p = c.args.self.now in
    let same = back_to p.bytes.items c.args.piece.now c.append.new.bytes.items c.truncate-in-LongLine.new.self.items c.in_ok-append.ensures.ok (c.truncate-in-LongLine.ensures.items ∙ ap (λ n. take n c.append.new.bytes.items) (c.len-before.ensures ∙ p.bytes.ok.0)) in
    same_sound p c.truncate-in-LongLine.new.self (Some c.in-LongLine.at) same c.requires.sound

pub returns-in-LongLine-clause-fault : goal.returns-in-LongLine-clause-fault
returns-in-LongLine-clause-fault c =
    let p = c.args.self.now in
    let v = c.append.new.bytes in
    let same = back_to p.bytes.items c.args.piece.now v.items c.truncate-in-LongLine.new.self.items c.in_ok-append.ensures.ok (c.truncate-in-LongLine.ensures.items ∙ ap (λ n. take n v.items) (c.len-before.ensures ∙ p.bytes.ok.0)) in
    fault_long p v c.truncate-in-LongLine.new.self c.args.piece.now c.in-LongLine.at c.in_ok-append.ensures.ok same c.requires.sound c.in_default.is (subst (IsAdvance (record p { bytes = v })) c.in-LongLine.is c.in-Ok.ensures)
