use Rattle.std.proofs.Common.{arith}
use Rattle.report_cut.proofs.Header.{grown_header}
use Rattle.report_cut.proofs.Handing.{in_header_long, follows_in_header, sound_in_header}
use Rattle.report_cut.proofs.pending.Pending.advance_in_header.Goals as goal

pub returns-then-len-gt-LONGEST_LINE : goal.returns-then-len-gt-LONGEST_LINE
returns-then-len-gt-LONGEST_LINE c =
    in_header_long c.args.self.now (grown_header c.args.self.now c.args.before c.requires.grown c.requires.in_header).in_header c.requires.partial (omega (arith, c.len.ensures))

pub returns : goal.returns
returns c =
    let p = c.args.self.now in
    let h = (grown_header p c.args.before c.requires.grown c.requires.in_header).in_header in
    (sound_in_header p c.requires.grown.chunk c.requires.grown.counted h c.requires.partial (omega (arith, c.len.ensures)), follows_in_header p c.requires.grown.none_long h c.requires.partial (omega (arith, c.len.ensures)))
