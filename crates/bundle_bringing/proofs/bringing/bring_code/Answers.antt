use Rattle.std.proofs.Common.{Ok, Some, subst, sym}
use Rattle.std.specs.Option.{option_copied}
use Rattle.bundle_bringing.specs.Brought.{IsNamed}
use Rattle.bundle_bringing.proofs.bringing.bring_code.Goals as goal

pub returns-in-Ok-code_of-clause-named : goal.returns-in-Ok-code_of-clause-named
returns-in-Ok-code_of-clause-named g c = λ files told.
    subst (λ name. IsNamed files (option_copied name) (Ok (Some c.in-Ok-code_of.code))) (sym c.in-Some.is)
    ((c.in-Ok.bundle, c.in-Ok.plan), c.in-Ok.ensures.brought files told, c.in-Ok-code_of.ensures.code)
