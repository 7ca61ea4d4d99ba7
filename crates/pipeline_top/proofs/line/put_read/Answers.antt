use Rattle.std.proofs.Common.{List, sym, subst, Some}
use Rattle.event_text.specs.Lenient.{lenient}
use Rattle.pipeline_top.specs.Convert.{read_line}
use Rattle.pipeline_top.specs.Line.{PutLine}
use Rattle.status_texts.specs.declared.status.Status.TheVariants as status
use Rattle.pipeline_top.proofs.LineEnds.{put_empty, put_text, put_bad}
use Rattle.pipeline_top.proofs.line.put_read.Goals as goal

pub returns-then-is_empty-clause-put : goal.returns-then-is_empty-clause-put
returns-then-is_empty-clause-put c = put_empty c.args.number c.args.line.now c.args.buffer.now c.if-is_empty.ensures

pub returns-in_ok-end_line-in-Ok-clause-put : goal.returns-in_ok-end_line-in-Ok-clause-put
returns-in_ok-end_line-in-Ok-clause-put c =
    put_text c.args.number c.args.line.now c.args.buffer.now c.put_clean.new.self _ c.if-is_empty.ensures c.in-Ok.ensures.text c.in_ok-end_line-in-Ok.ensures

pub returns-in_ok-want_of_memory-in-Err-clause-put : goal.returns-in_ok-want_of_memory-in-Err-clause-put
returns-in_ok-want_of_memory-in-Err-clause-put c =
    subst (λ (new : List _). PutLine (read_line c.args.number c.args.line.now) c.args.buffer.now new (Some (status.BadLine c.args.number))) (sym c.in-Err.ensures.same)
    (put_bad c.args.number c.args.line.now c.args.buffer.now c.if-is_empty.ensures (c.in_ok-want_of_memory-in-Err.ensures c.args.number (lenient c.args.line.now) c.in-Err.ensures.fault))
