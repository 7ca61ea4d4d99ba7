use Rattle.std.proofs.Common.{◌==◌}
use Rattle.base_types.specs.Lines.{newline}
use Rattle.report_cut.proofs.Positions.{first_is_position}
use Rattle.report_cut.proofs.scan.newline_in.Goals as goal

pub returns : goal.returns
returns c = first_is_position (λ b. b == newline) c.args.bytes.now c.memchr.result c.memchr.ensures
