use Rattle.std.proofs.Common.{length, take, drop, sym, subst, ◌∙◌, ap, IsUtf8, arith}
use Rattle.std.proofs.lemmas.List.{take_rest}
use Rattle.base_types.proofs.PlainRuns.{run_utf8, run_bound}
use Rattle.base_types.proofs.plain_runs.split_plain_ascii.Goals as goal

pub split_at-requires : goal.split_at-requires
split_at-requires c = omega (arith, c.ascii_len.ensures, run_bound c.args.text.now 0 (omega arith))

pub from_utf8_unchecked-requires : goal.from_utf8_unchecked-requires
from_utf8_unchecked-requires c = subst IsUtf8 (sym c.split_at.ensures.front) (run_utf8 c.args.text.now c.ascii_len.result c.ascii_len.ensures)
