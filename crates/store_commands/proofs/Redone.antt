-- What a call leaves of a store's history that makes the step that redoes a dump, or none.
use Rattle.std.proofs.Common.{◌≡◌, ◌+◌, ◌-◌, ℕ, List, [], ◌∷◌, ◌++◌, length, take, sym, ap, subst, ◌∙◌}
use Rattle.edge_traits.specs.Disk.{DiskView}
use Rattle.step_code.specs.declared.base.Base.{Base}
use Rattle.step_code.specs.declared.step.Step.{Step}
use Rattle.step_code.specs.History.{replay}
use Rattle.step_code.specs.Rules.{Meaning}
use Rattle.store_image.specs.Stands.{Origin}
use Rattle.journal_book.specs.Book.{BookView}
use Rattle.book_runs.specs.Calls.{IsCall, IsOpened, StandsOn}
use Rattle.book_runs.proofs.Called.{all_made, called, count_called, sealed_state, still_stands, AllAccounted}
use Rattle.store_commands.specs.Redone.{redo_step, RedoesStep, Redid}
use Rattle.store_commands.specs.declared.end.StoreEnd.{StoreEnd}

module _ {D R : Type 0} {disk : D → DiskView} {m : Meaning} (accounts : AllAccounted m) (origin : Origin) (steps more : List Step) (old : D) (opened later : BookView D R)
    (is : IsOpened disk m origin steps more old opened) (dump now : ℕ) (e : StoreEnd) (redid : Redid disk m opened later (redo_step opened.state dump now) e) where
  abbrev step : Step
  step = redo_step opened.state dump now

  abbrev durable : ℕ
  durable = (length redid.run.archived + later.kept) - opened.kept

  whole : IsCall disk m origin steps more (disk old) (disk later.disk) redid.made durable
  whole = called origin steps more redid.made old opened later is redid.run accounts

  -- no step was made
  pub stands : redid.made ≡ [] → StandsOn m origin steps more (disk old) (disk later.disk)
  stands = still_stands origin steps more redid.made old opened later is redid.run

  step_is : step ≡ redo_step (replay m origin.first (steps ++ take whole.count more)) dump now
  unfolding whole
  step_is =
      ap (λ (b : Base). redo_step b dump now) (sealed_state origin steps more redid.made old opened later is redid.run).same
      ∙ ap (λ (n : ℕ). redo_step (replay m origin.first (steps ++ take n more)) dump now) (sym (count_called origin steps more redid.made old opened later is redid.run accounts))

  -- the step was made
  pub makes : redid.made ≡ step ∷ [] → RedoesStep disk m origin steps more (disk old) (disk later.disk) dump now durable
  makes one = from_call redid.made (sym one) whole step_is
    where
      from_call : (made : List Step) → step ∷ [] ≡ made → (call : IsCall disk m origin steps more (disk old) (disk later.disk) made durable) → step ≡ redo_step (replay m origin.first (steps ++ take call.count more)) dump now
          → RedoesStep disk m origin steps more (disk old) (disk later.disk) dump now durable
      from_call made same =
          subst (λ (ms : List Step). (call : IsCall disk m origin steps more (disk old) (disk later.disk) ms durable) → step ≡ redo_step (replay m origin.first (steps ++ take call.count more)) dump now
          → RedoesStep disk m origin steps more (disk old) (disk later.disk) dump now durable)
          same (λ call here. record { step = step; call = call; step_is = here })

  -- and it is durable, where all steps of the book are
  pub makes_durably : later.kept ≡ length later.steps → redid.made ≡ step ∷ [] → RedoesStep disk m origin steps more (disk old) (disk later.disk) dump now 1
  makes_durably all one =
      let number : durable ≡ 1 = all_made origin steps more redid.made old opened later is redid.run all ∙ ap length one in
      subst (λ (n : ℕ). RedoesStep disk m origin steps more (disk old) (disk later.disk) dump now n) number (makes one)
