use Rattle.book_runs.proofs.BroughtUp.{durable_behind, goes_on, same_book, Completed}
use Rattle.book_runs.proofs.completing.complete_outputs.Goals as goal

pub returns-clause-goes_on : goal.returns-clause-goes_on
returns-clause-goes_on g c =
    let old = c.args.book.now in let new = c.bring_up.new.self in
    let is : Completed old new c.bring_up.result = record { ok = c.bring_up.ensures.ok; failed = c.bring_up.ensures.disk; durable = c.bring_up.ensures.durable; still = c.bring_up.ensures.still } in
    goes_on old new c.bring_up.ensures.kept c.bring_up.ensures.any_moment c.bring_up.ensures.others c.bring_up.result is

pub returns-clause-durable : goal.returns-clause-durable
returns-clause-durable g c = λ other.
    let old = c.args.book.now in let new = c.bring_up.new.self in
    let is : Completed old new c.bring_up.result = record { ok = c.bring_up.ensures.ok; failed = c.bring_up.ensures.disk; durable = c.bring_up.ensures.durable; still = c.bring_up.ensures.still } in
    durable_behind old new c.bring_up.result is other

pub returns-clause-same : goal.returns-clause-same
returns-clause-same g c =
    let old = c.args.book.now in let new = c.bring_up.new.self in
    let is : Completed old new c.bring_up.result = record { ok = c.bring_up.ensures.ok; failed = c.bring_up.ensures.disk; durable = c.bring_up.ensures.durable; still = c.bring_up.ensures.still } in
    same_book old new c.bring_up.result is
