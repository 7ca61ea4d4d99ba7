use Rattle.std.proofs.Common.{length, sym, ap, subst, arith}
use Rattle.dump_store.specs.Dumps.{AreRising}
use Rattle.dump_store.proofs.Rising.{rising_none}
use Rattle.dump_store.proofs.dumps.Dumps.new.Goals as goal

pub invariant_of-result : goal.invariant_of-result
invariant_of-result c = (subst AreRising (sym c.new.ensures.items) rising_none, omega (arith, ap length c.new.ensures.items))
