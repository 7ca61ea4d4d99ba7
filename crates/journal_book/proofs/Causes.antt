-- What refuses a step of a book that isn't broken.
use Rattle.std.proofs.Common.{◌≡◌, Bool, false, Option, None, subst}
use Rattle.journal_book.specs.Staged.{cause_of}
use Rattle.journal_book.specs.declared.stage_refusal.StageRefusal.{StageRefusal}

pub not_refused : (broken : Bool) (cause : Option StageRefusal) → broken ≡ false → cause_of broken cause ≡ None → cause ≡ None
not_refused broken cause whole is = subst (λ (b : Bool). cause_of b cause ≡ None) whole is
