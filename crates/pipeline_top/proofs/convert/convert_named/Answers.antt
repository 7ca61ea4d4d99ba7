use Rattle.pipeline_top.specs.Convert.{conversion}
use Rattle.pipeline_top.proofs.Halting.{wrote_front}
use Rattle.pipeline_top.proofs.convert.convert_named.Goals as goal

pub returns-in-Err-clause-written : goal.returns-in-Err-clause-written
returns-in-Err-clause-written g c = λ content told.
    wrote_front c.args.name.now c.in-Err.halt c.halt_status.result (g.S.Sink.sink c.args.out.now) (g.S.Sink.sink c.convert_feed.new.out) (conversion content) c.halt_status.ensures (c.in-Err.ensures.front content told)
