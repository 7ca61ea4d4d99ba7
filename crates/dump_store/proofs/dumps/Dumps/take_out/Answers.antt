use Rattle.std.proofs.Common.{sym, subst, arith}
use Rattle.dump_store.specs.Dumps.{AreRising, is_dump}
use Rattle.dump_store.proofs.Rising.{rising_without}
use Rattle.dump_store.proofs.dumps.Dumps.take_out.Goals as goal

pub invariant_of-self : goal.invariant_of-self
invariant_of-self c = (
  subst AreRising (sym c.take_out.ensures.left) (rising_without (is_dump c.args.no) c.self.inside.dumps.items c.self.invariant.0),
  omega (arith, c.self.invariant.1, c.take_out.ensures.fewer, c.take_out.ensures.room),
)
