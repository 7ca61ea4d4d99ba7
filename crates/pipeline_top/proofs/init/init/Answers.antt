use Rattle.std.proofs.Common.{Err, refl}
use Rattle.pipeline_top.proofs.init.init.Goals as goal

pub returns-in-Err-clause-begun : goal.returns-in-Err-clause-begun
returns-in-Err-clause-begun g c = λ clock. record {
  brought = Err c.in-Err.why;
  brings = c.in-Err.ensures.brought;
  done = c.unmade.ensures.unmade (record { shelf = g.H.Shelf.shelf c.args.shelf.now; shelf_now = g.H.Shelf.shelf c.bring.new.shelf; sink = g.S.Sink.sink c.args.out.now; sink_now = g.S.Sink.sink c.args.out.now; clock = clock }) refl;
}
