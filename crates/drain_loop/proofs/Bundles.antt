-- The bundle in force during turns.
use Rattle.std.proofs.Common.{◌≡◌, ℕ, List, [], filter, ap}
use Rattle.edge_traits.specs.Disk.{DiskView}
use Rattle.step_code.specs.declared.base.Base.{Base}
use Rattle.step_code.specs.Rules.{Meaning, collects}
use Rattle.step_code.specs.State.{bots_of}
use Rattle.turn_order.specs.Turn.{collectors}
use Rattle.journal_book.specs.Book.{BookView}
use Rattle.book_runs.specs.GoesOn.{GoesOn}

-- a run of no steps keeps it
pub still_bundle : {D R : Type 0} {disk : D → DiskView} {m : Meaning} {old new : BookView D R} → GoesOn disk m old new [] → new.state.bundle ≡ old.state.bundle
still_bundle goes_on = ap (λ (s : Base). s.bundle) goes_on.state.same

-- it has the same collectors
pub same_collectors : (m : Meaning) (s t : Base) → t.bundle ≡ s.bundle → collectors m t ≡ collectors m s
same_collectors m s t same = ap (λ (bundle : List ℕ). filter collects (bots_of m bundle)) same
