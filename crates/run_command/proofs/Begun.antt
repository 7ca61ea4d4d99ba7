-- The opening of a call, and the workers behind it.
use Rattle.std.proofs.Common.{◌≡◌, ◌++◌, ℕ, List, [], map, Option, Ok, Err, inl, inr, refl, sym, subst, append-nil, ◌∙◌}
use Rattle.edge_traits.specs.Disk.{DiskView}
use Rattle.edge_traits.specs.Shelf.{ShelfView}
use Rattle.edge_traits.specs.Sink.{SinkView}
use Rattle.edge_traits.proofs.Outputs.{Took-nothing}
use Rattle.step_code.specs.declared.step.Step.{Step}
use Rattle.journal_book.specs.Book.{BookView}
use Rattle.book_runs.proofs.Going.{goes_further}
use Rattle.drain_turns.specs.Turn.{Outside}
use Rattle.drain_turns.specs.declared.end.TurnsEnd.{TurnsEnd}
use Rattle.drain_loop.specs.Calls.{opening_of, place_of, place_with, IsOpened}
use Rattle.drain_command.specs.declared.draining.Asked.{Asked}
use Rattle.live_reload.specs.declared.end.OrdersEnd.{OrdersEnd}
use Rattle.live_reload.specs.declared.end.OrdersEnd.TheVariants as end
use Rattle.run_command.specs.Laps.{HasEnded, HasTurned}
use Rattle.run_command.specs.Runs.{steps_in}
use Rattle.run_command.specs.Said.{IsSaid}

module _ {D R : Type 0} {disk : D → DiskView} where
  -- the opening, and then the workers and orders
  pub worked_on : (o : Outside) (asked : Asked) (old mid new : BookView D R) (left : Option ℕ) (control : Option (List ℕ)) (seen : ShelfView) (before after : SinkView) (by : OrdersEnd) (why : TurnsEnd)
      → IsOpened disk o (place_with (opening_of o.meaning old.state asked.opening.bundle asked.opening.rounds) old asked.left) [] old mid (Ok left)
      → HasEnded disk o left mid new control seen before after by [] why → HasTurned disk o asked old new control seen before after by why
  worked_on o asked old mid new left control seen before after by why opened ended = record {
    lines = ended.more;
    said = ended.said;
    turned = record {
      made = opened.made ++ (steps_in ended.parts ++ ended.rest);
      makes = inr (record {
        begun = opened.made;
        parts = ended.parts;
        rest = ended.rest;
        splits = refl;
        here = place_of mid left;
        opened = refl;
        left = opened.left;
        state = opened.goes_on.state;
        kinds = opened.kinds ∙ append-nil (map (λ (step : Step). step.what) opened.made);
        begins = opened.opens;
        own = ended.own;
        few = ended.few;
        ends = ended.ends;
      });
      run = goes_further old mid new opened.made (steps_in ended.parts ++ ended.rest) opened.goes_on ended.goes_on;
    };
  }

  -- the opening alone
  pub worked_off : (o : Outside) (asked : Asked) (old new : BookView D R) (control : Option (List ℕ)) (sink : SinkView) (by : OrdersEnd) (why : TurnsEnd) → by ≡ end.Open
      → IsOpened disk o (place_with (opening_of o.meaning old.state asked.opening.bundle asked.opening.rounds) old asked.left) [] old new (Err why)
      → HasTurned disk o asked old new control o.shelf sink sink by why
  worked_off o asked old new control sink by why is_open opened = record {
    lines = [];
    said = subst (λ b. IsSaid control o.shelf o.shelf sink sink b []) (sym is_open) (record { are = tt; printed = Took-nothing sink });
    turned = record { made = opened.made; makes = inl (refl, opened.opens); run = opened.goes_on };
  }
