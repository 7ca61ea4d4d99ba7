use Rattle.std.proofs.Common.{◌≡◌, ◌∙◌, sym, ap, arith, length, take}
use Rattle.std.proofs.lemmas.Bool.{ltb-true}
use Rattle.base_types.specs.Lines.{first_line}
use Rattle.feed_reader.proofs.Fronts.{first_line_front, first_line_longer}
use Rattle.feed_reader.proofs.Headers.{headed_beginning, long_header}
use Rattle.feed_reader.proofs.begin.begin_headed.Goals as goal

pub returns-then-header-gt-LONGEST_LINE-clause-begins : goal.returns-then-header-gt-LONGEST_LINE-clause-begins
returns-then-header-gt-LONGEST_LINE-clause-begins g c = λ feed told.
    let read = c.in_ok-front.ensures.front feed (c.in_ok-has_byte.ensures.told ∙ told) in
    let line : c.header_in-header.result.now ≡ first_line (take 1048577 feed) = c.header_in-header.ensures ∙ ap first_line (c.deref.ensures.value ∙ read) in
    long_header c.args.rule feed c.args.at c.requires.headed (ltb-true c.args.at (length feed) (sym (c.in_ok-has_byte.ensures.byte feed told) ∙ c.if-not-branch.false))
    (omega (arith, c.if-header-gt-LONGEST_LINE.true, ap length line, first_line_longer feed 1048577))

pub returns-clause-begins : goal.returns-clause-begins
returns-clause-begins g c = λ feed told.
    let read = c.in_ok-front.ensures.front feed (c.in_ok-has_byte.ensures.told ∙ told) in
    let line : c.header_in-header.result.now ≡ first_line (take 1048577 feed) = c.header_in-header.ensures ∙ ap first_line (c.deref.ensures.value ∙ read) in
    let header : c.in_ok-header.header ≡ first_line feed = c.in_ok-header.ensures ∙ line ∙ first_line_front feed 1048577 (omega (arith, c.if-header-gt-LONGEST_LINE.false, ap length line)) in
    (c.in_ok-cutter.ensures ∙ headed_beginning c.args.rule feed c.in_ok-header.header c.args.at c.requires.headed c.requires.behind header, c.requires.there feed told)
