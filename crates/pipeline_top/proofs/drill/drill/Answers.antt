use Rattle.std.proofs.Common.{refl}
use Rattle.edge_traits.proofs.Outputs.{Took-nothing}
use Rattle.journal_book.specs.Alone.{IsBesideNew}
use Rattle.journal_book.proofs.Alone.{alone_still}
use Rattle.store_commands.specs.declared.end.StoreEnd.TheVariants as end
use Rattle.pipeline_top.proofs.Still.{still_here}
use Rattle.pipeline_top.proofs.drill.drill.Goals as goal

pub returns-in-Err-clause-drilled : goal.returns-in-Err-clause-drilled
returns-in-Err-clause-drilled g c = λ shelf shelf_now. record {
  mid = c.args.disk;
  making = end.Memory;
  made = λ files told. tt;
  begun = λ files told done. absurd (cc (done));
  left_alone = still_here (g.D.Disk.disk c.args.disk) (g.met.D.Disk.only_now c.args.disk);
  others = λ files told. alone_still (g.D.Disk.disk c.args.disk) (IsBesideNew files) (g.met.D.Disk.only_now c.args.disk);
  done = (refl, refl, Took-nothing (g.S.Sink.sink c.args.out.now));
}
