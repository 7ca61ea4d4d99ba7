use Rattle.store_image.specs.Files.{generation_file}
use Rattle.journal_book.proofs.Earlier.{past_is}
use Rattle.journal_book.proofs.past.read_history.Goals as goal

pub returns-in-Ok-past_of-clause-past : goal.returns-in-Ok-past_of-clause-past
returns-in-Ok-past_of-clause-past g c = λ files told.
    past_is g.R.Rules.meaning c.args.generation (files (generation_file c.args.generation)) c.in-Ok.bodies c.as_slice.result.now c.in-Ok-past_of.past.base c.in-Ok-past_of.past.steps c.as_slice.ensures
    (c.in-Ok.ensures.bodies files told) c.in-Ok-past_of.ensures.history
