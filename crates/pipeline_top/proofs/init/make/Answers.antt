use Rattle.std.proofs.Common.{[], refl, sym, subst, ◌∙◌}
use Rattle.edge_traits.specs.Sink.{SinkView, Took}
use Rattle.edge_traits.proofs.Outputs.{Took-nothing}
use Rattle.journal_book.specs.Alone.{IsBesideNew}
use Rattle.journal_book.proofs.Alone.{alone_still}
use Rattle.store_commands.specs.declared.end.StoreEnd.TheVariants as end
use Rattle.pipeline_top.proofs.Still.{still_here}
use Rattle.pipeline_top.proofs.init.make.Goals as goal

pub returns-in-Err-clause-made : goal.returns-in-Err-clause-made
returns-in-Err-clause-made g c = λ seen before after. record {
  done = end.Memory;
  end_is = refl;
  made = λ files told. subst (λ (s : SinkView). Took seen.sink s []) (before ∙ sym after) (Took-nothing seen.sink);
  begun = λ files told whole. absurd whole;
  left_alone = still_here (g.D.Disk.disk c.args.disk) (g.met.D.Disk.only_now c.args.disk);
  others = λ files told. alone_still (g.D.Disk.disk c.args.disk) (IsBesideNew files) (g.met.D.Disk.only_now c.args.disk);
}
