use Rattle.std.proofs.Common.{Some, refl, sym, ap, subst, arith}
use Rattle.pipeline_top.specs.Line.{PutLine}
use Rattle.status_texts.specs.declared.status.Status.TheVariants as status
use Rattle.pipeline_top.proofs.LineEnds.{line_of-far, line_of-near, put_near}
use Rattle.pipeline_top.proofs.line.put_converted.Goals as goal

pub returns-then-place-line-gt-LONGEST_FEED-clause-put : goal.returns-then-place-line-gt-LONGEST_FEED-clause-put
returns-then-place-line-gt-LONGEST_FEED-clause-put c =
    subst (λ l. PutLine l c.args.buffer.now c.args.buffer.now (Some (status.LongFeed c.convert_bot.result))) (sym (line_of-far c.args.place c.args.line.now c.requires.short (omega (arith, c.if-place-line-gt-LONGEST_FEED.true))))
    (ap (λ b. status.LongFeed b) c.convert_bot.ensures, refl)

pub returns-clause-put : goal.returns-clause-put
returns-clause-put c =
    let near = line_of-near c.args.place c.args.line.now c.requires.short (omega (arith, c.if-place-line-gt-LONGEST_FEED.false)) in
    put_near c.args.place c.args.line.now c.without_newline.result.now c.args.buffer.now c.put_read.new.buffer c.put_read.result near c.without_newline.ensures c.put_read.ensures.put
