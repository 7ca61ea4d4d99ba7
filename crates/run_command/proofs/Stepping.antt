-- A run, order by order and lap by lap.
use Rattle.std.proofs.Common.{◌≡◌, ◌≢◌, ◌≤◌, ◌⊎◌, ◌++◌, ℕ, List, [], ◌∷◌, length, Option, Some, None, IfSome, IsSome, Result, Ok, Err, MatchResult, inl, inr, refl, sym, ap, subst, ◌∙◌, arith, append_assoc, append-nil}
use Rattle.std.specs.List.{slice_get}
use Rattle.bot_rules.specs.Intel.{intel}
use Rattle.edge_traits.specs.Count.{Rose}
use Rattle.edge_traits.specs.Disk.{DiskView, Image, IsImage}
use Rattle.edge_traits.specs.Shelf.{ShelfView, count_on}
use Rattle.edge_traits.specs.Sink.{SinkView, Took}
use Rattle.edge_traits.specs.Source.{SourceView}
use Rattle.step_code.specs.declared.step.Step.{Step}
use Rattle.step_code.specs.History.{replay}
use Rattle.store_image.proofs.Histories.{seals_self}
use Rattle.journal_book.specs.Book.{BookView}
use Rattle.book_runs.specs.GoesOn.{GoesOn}
use Rattle.book_runs.proofs.Going.{goes_further, goes_nowhere}
use Rattle.drain_turns.specs.Turn.{Outside}
use Rattle.drain_turns.specs.declared.end.TurnsEnd.{TurnsEnd}
use Rattle.drain_turns.specs.declared.end.TurnsEnd.TheVariants as last
use Rattle.drain_loop.specs.Calls.{place_of, place_with}
use Rattle.live_reload.specs.Answers.{brought_answer, IsAnswerTo}
use Rattle.live_reload.specs.Followed.{answers_to, orders_in, HasFollowed}
use Rattle.live_reload.specs.Live.{Answers, Follows, LiveView, Stays, Turns, Waits}
use Rattle.live_reload.specs.Lines.{control_lines}
use Rattle.live_reload.specs.declared.control.Control.{Control}
use Rattle.live_reload.specs.declared.control.Control.TheVariants as control
use Rattle.live_reload.specs.declared.end.OrdersEnd.{OrdersEnd}
use Rattle.live_reload.specs.declared.end.OrdersEnd.TheVariants as end
use Rattle.live_reload.specs.declared.live.LiveOrders.{LiveOrders}
use Rattle.live_reload.specs.declared.order.Order.{Order}
use Rattle.live_reload.specs.declared.order.Order.TheVariants as order
use Rattle.live_reload.specs.declared.word.Word.{Word}
use Rattle.live_reload.proofs.Followed.{follows_front, follows_more, follows_none, follows_since, orders_append}
use Rattle.bundle_bringing.specs.declared.bringing.Unbrought.{Unbrought}
use Rattle.bundle_bringing.specs.declared.bringing.Unbrought.TheVariants as unbrought
use Rattle.run_command.specs.Laps.{HasEnded, HasGoneOn, HasLapped, HasStepped, IsObeyed}
use Rattle.run_command.specs.Runs.{carried_in, left_behind, steps_in, EndsAfter, HaveFailed, RunEnds}
use Rattle.run_command.specs.Said.{AreAnswered, AreAnsweredBut, IsAllOf, IsSaid}
use Rattle.run_command.proofs.Lapping.{all_left, left_lists}
use Rattle.run_command.proofs.Parts.{carried_on, ends_on, few_parts, own_parts, steps_on}

-- ---- what a line may give

-- a line gives neither of these
abbrev ordinary : Order → Type 0
ordinary order.Failed = ⊥
ordinary order.OutOfMemory = ⊥
ordinary other = Unit {0}

abbrev order_in : Option (Word × Order) → Order
order_in None = order.Nothing
order_in (Some answer) = answer.1

brought_ordinary : (r : Result (Option (List ℕ)) Unbrought) (w : Word) (o : Order) → brought_answer r ≡ Some (w, o) → ordinary o
brought_ordinary (Ok (Some code)) w o is = subst ordinary (ap order_in is) tt
brought_ordinary (Ok None) w o is = absurd (cc is)
brought_ordinary (Err (unbrought.Absent name)) w o is = subst ordinary (ap order_in is) tt
brought_ordinary (Err (unbrought.Failed name)) w o is = subst ordinary (ap order_in is) tt
brought_ordinary (Err (unbrought.Config fault)) w o is = subst ordinary (ap order_in is) tt
brought_ordinary (Err unbrought.OutOfMemory) w o is = absurd (cc is)

answered_ordinary : (asked : Control) (shelf : ShelfView) (w : Word) (o : Order) → IsAnswerTo asked shelf w o → ordinary o
answered_ordinary control.Round shelf w o is = subst ordinary (sym is.1) tt
answered_ordinary control.Stop shelf w o is = subst ordinary (sym is.1) tt
answered_ordinary control.Bad shelf w o is = subst ordinary (sym is.1) tt
answered_ordinary (control.Reload name) shelf w o is = brought_ordinary is.0 w o is.2

ordinary_answers : (old new : LiveView) (o : Order) → Answers old new o → ordinary o
ordinary_answers old new o answers = answered_ordinary answers.takes.asked old.shelf answers.word o answers.takes.answer

-- a bundle that is put in force loads
pub order_loads : (old new : LiveView) (code : List ℕ) → Turns old new (order.Reload code) → IsSome (intel.facts code)
order_loads old new code (inl answers) = answers.takes.loads code refl
order_loads old new code (inr (inl (is, waits))) = absurd (cc is)
order_loads old new code (inr (inr (inl (is, failed)))) = absurd (cc is)
order_loads old new code (inr (inr (inr (inl (is, failed))))) = absurd (cc is)
order_loads old new code (inr (inr (inr (inr (is, starved))))) = absurd (cc is)

-- control failed, or the output
pub control_rose : (old new : LiveView) (o : Order) → Turns old new o → new.end ≡ end.Control → Rose old.control.faults new.control.faults
control_rose old new o (inl answers) at = absurd (cc (sym answers.end ∙ at))
control_rose old new o (inr (inl (is, waits))) at = absurd (cc (sym waits.end ∙ at))
control_rose old new o (inr (inr (inl (is, failed)))) at = failed.rose
control_rose old new o (inr (inr (inr (inl (is, failed))))) at = absurd (cc (sym failed.end ∙ at))
control_rose old new o (inr (inr (inr (inr (is, starved))))) at = absurd (cc (sym starved.end ∙ at))

pub sink_rose : (old new : LiveView) (o : Order) → Turns old new o → new.end ≡ end.Sink → Rose old.out.faults new.out.faults
sink_rose old new o (inl answers) at = absurd (cc (sym answers.end ∙ at))
sink_rose old new o (inr (inl (is, waits))) at = absurd (cc (sym waits.end ∙ at))
sink_rose old new o (inr (inr (inl (is, failed)))) at = absurd (cc (sym failed.end ∙ at))
sink_rose old new o (inr (inr (inr (inl (is, failed))))) at = failed.rose
sink_rose old new o (inr (inr (inr (inr (is, starved))))) at = absurd (cc (sym starved.end ∙ at))

-- lines that were taken of a source are the same behind reads of it
pub follows_still : (old new : SourceView) (live : LiveOrders) → new.told ≡ old.told → Follows old live → Follows new live
follows_still old new live told follows = record { near = follows.near; few = follows.few; left = λ content is. follows.left content (sym told ∙ is) }

-- a later count rose since an earlier moment, too
pub rose_on : (a b c : ℕ) → b ≤ c → Rose a b → Rose a c
rose_on a b c less (inl rose) = inl (omega (arith, rose, less))
rose_on a b c less (inr most) = inr most

-- ---- one step of a run

few_none : (l : Option ℕ) → IfSome l (λ most. 0 ≤ most)
few_none None = tt
few_none (Some n) = omega arith

-- an order that is carried out
abbrev pub IsWork : Order → Type 0
IsWork (order.Reload code) = Unit {0}
IsWork order.Round = Unit {0}
IsWork other = ⊥

one_order : (given : Order) → IsWork given → (w : Word) → orders_in ((w, given) ∷ []) ≡ given ∷ []
one_order (order.Reload code) work w = refl
one_order order.Round work w = refl
one_order order.Nothing work w = absurd work
one_order order.Stop work w = absurd work
one_order order.Failed work w = absurd work
one_order order.OutOfMemory work w = absurd work

of_work : (old new : LiveView) (given : Order) → IsWork given → Turns old new given → Answers old new given
of_work old new given work (inl answers) = answers
of_work old new given work (inr (inl (is, waits))) = absurd (subst IsWork is work)
of_work old new given work (inr (inr (inl (is, failed)))) = absurd (subst IsWork is work)
of_work old new given work (inr (inr (inr (inl (is, failed))))) = absurd (subst IsWork is work)
of_work old new given work (inr (inr (inr (inr (is, starved))))) = absurd (subst IsWork is work)

module _ (o : Outside) (told : Option (List ℕ)) (before : SinkView) (lines : List (Word × Order)) (old new : LiveView)
    (same : old.control.told ≡ told) (shelf : old.shelf.told ≡ o.shelf.told) (was : (name : List ℕ) → count_on o.shelf name ≤ count_on old.shelf name) (stays : Stays old new)
    (followed : HasFollowed told o.shelf old.shelf before old.out old.taken lines) where
  -- the answer was printed
  answered : (given : Order) (answers : Answers old new given) → HasFollowed told o.shelf new.shelf before new.out new.taken (lines ++ (answers.word, given) ∷ [])
  answered given answers = follows_more told o.shelf before old new lines given same shelf was stays.shelf_counts followed answers

  -- as printed as before
  still_said : new.out ≡ old.out → AreAnswered told o.shelf new.shelf before new.out (lines ++ [])
  still_said out =
      let since = follows_since told o.shelf old.shelf new.shelf before old.out old.taken lines was stays.shelf_counts followed in
      subst (AreAnswered told o.shelf new.shelf before new.out) (sym (append-nil lines)) (record { are = since.are; printed = subst (λ x. Took before x (answers_to 0 lines)) (sym out) since.printed })

  -- control was read to its end
  of_waits : new.end ≡ end.AtEnd → Turns old new order.Nothing → Waits old new
  of_waits at (inl answers) = absurd (cc (sym answers.end ∙ at))
  of_waits at (inr (inl (is, waits))) = waits
  of_waits at (inr (inr (inl (is, failed)))) = absurd (cc is)
  of_waits at (inr (inr (inr (inl (is, failed))))) = absurd (cc is)
  of_waits at (inr (inr (inr (inr (is, starved))))) = absurd (cc is)

  module _ {D R : Type 0} {disk : D → DiskView} (left : Option ℕ) where
    -- a line that gives nothing
    pub steps_nothing : (book : BookView D R) → ((image : Image) → (disk book.disk).left_since (disk book.disk).moment image → IsImage (disk book.disk).may_leave image) → new.end ≢ end.AtEnd → Turns old new order.Nothing
        → HasStepped disk o left book book told new.shelf before new.out new.taken new.end lines (Ok left)
    steps_nothing book only more (inl answers) = record { more = (answers.word, order.Nothing) ∷ []; follows = answered order.Nothing answers; parts = []; goes_on = goes_nowhere book only; own = tt; few = few_none left; carried = refl; left_is = all_left left }
    steps_nothing book only more (inr (inl (is, waits))) = absurd (more waits.end)
    steps_nothing book only more (inr (inr (inl (is, failed)))) = absurd (cc is)
    steps_nothing book only more (inr (inr (inr (inl (is, failed))))) = absurd (cc is)
    steps_nothing book only more (inr (inr (inr (inr (is, starved))))) = absurd (cc is)

    pub steps_order : (book after : BookView D R) (given : Order) (result : Result (Option ℕ) TurnsEnd) → IsWork given → Turns old new given → IsObeyed disk o left book after given result
        → HasStepped disk o left book after told new.shelf before new.out new.taken new.end lines result
    steps_order book after given (Ok now) work turns done =
        let answers = of_work old new given work turns in
        let whole = sym (append-nil done.made) in
        record {
          more = (answers.word, given) ∷ [];
          follows = answered given answers;
          parts = (Some given, done.made) ∷ [];
          goes_on = subst (GoesOn disk o.meaning book after) whole done.goes_on;
          own = (done.came.0, tt);
          few = subst (λ (ss : List Step). IfSome left (λ most. length ss ≤ most)) whole done.came.1;
          carried = sym (one_order given work answers.word);
          left_is = subst (λ (ss : List Step). now ≡ left_behind left (length ss)) whole done.came.2;
        }
    steps_order book after given (Err why) work turns done =
        let answers = of_work old new given work turns in
        let follows = answered given answers in
        record {
          more = (answers.word, given) ∷ [];
          said = subst (λ by. IsSaid told o.shelf new.shelf before new.out by (lines ++ (answers.word, given) ∷ [])) (sym answers.end) (record { are = follows.are; printed = follows.printed });
          parts = [];
          rest = done.made;
          goes_on = done.goes_on;
          own = tt;
          few = few_none left;
          ends = inr (inr (inl (given, one_order given work answers.word, record { here = place_with _ book left; opening = refl; left_is = all_left left; state = seals_self book.state; drains = done.came })));
        }

    -- nothing more is done: the run ends for this, with these lines more
    module _ (book : BookView D R) (only : (image : Image) → (disk book.disk).left_since (disk book.disk).moment image → IsImage (disk book.disk).may_leave image) where
      ends_here : (more : List (Word × Order)) (why : TurnsEnd) → IsSaid told o.shelf new.shelf before new.out new.end (lines ++ more) → RunEnds o left book.state [] new.end (orders_in more) [] [] why
          → HasEnded disk o left book book told new.shelf before new.out new.end lines why
      ends_here more why said ends = record { more = more; said = said; parts = []; rest = []; goes_on = goes_nowhere book only; own = tt; few = few_none left; ends = ends }

      -- `stop` was given
      steps_stop : Turns old new order.Stop → HasEnded disk o left book book told new.shelf before new.out new.end lines last.Left
      steps_stop (inl answers) =
          let follows = answered order.Stop answers in
          ends_here ((answers.word, order.Stop) ∷ []) last.Left
          (subst (λ by. IsSaid told o.shelf new.shelf before new.out by (lines ++ (answers.word, order.Stop) ∷ [])) (sym answers.end) (record { are = follows.are; printed = follows.printed }))
          (inr (inl (refl, refl, refl)))
      steps_stop (inr (inl (is, waits))) = absurd (cc is)
      steps_stop (inr (inr (inl (is, failed)))) = absurd (cc is)
      steps_stop (inr (inr (inr (inl (is, failed))))) = absurd (cc is)
      steps_stop (inr (inr (inr (inr (is, starved))))) = absurd (cc is)

      -- control or the output failed
      steps_failed : Turns old new order.Failed → HasEnded disk o left book book told new.shelf before new.out new.end lines last.Left
      steps_failed (inl answers) = absurd (ordinary_answers old new order.Failed answers)
      steps_failed (inr (inl (is, waits))) = absurd (cc is)
      steps_failed (inr (inr (inl (is, failed)))) =
          ends_here [] last.Left
          (subst (λ by. IsSaid told o.shelf new.shelf before new.out by (lines ++ [])) (sym failed.end) (still_said failed.out))
          (inr (inr (inr (refl, refl, refl, subst HaveFailed (sym failed.end) tt))))
      steps_failed (inr (inr (inr (inl (is, failed))))) =
          let front = follows_front told o.shelf before old new lines same shelf was stays.shelf_counts followed failed in
          ends_here [] last.Left
          (subst (λ by. IsSaid told o.shelf new.shelf before new.out by (lines ++ [])) (sym failed.end)
          (subst (AreAnsweredBut told o.shelf new.shelf before new.out) (sym (append-nil lines)) (record { line = (failed.word, failed.order); are = front.0; printed = front.1 })))
          (inr (inr (inr (refl, refl, refl, subst HaveFailed (sym failed.end) tt))))
      steps_failed (inr (inr (inr (inr (is, starved))))) = absurd (cc is)

      -- either of the two
      pub steps_left : (given : Order) → (given ≡ order.Stop) ⊎ (given ≡ order.Failed) → Turns old new given → HasEnded disk o left book book told new.shelf before new.out new.end lines last.Left
      steps_left given (inl stop) turns = steps_stop (subst (Turns old new) stop turns)
      steps_left given (inr failed) turns = steps_failed (subst (Turns old new) failed turns)

      -- there was no memory
      pub steps_starved : Turns old new order.OutOfMemory → HasEnded disk o left book book told new.shelf before new.out new.end lines last.Memory
      steps_starved (inl answers) = absurd (ordinary_answers old new order.OutOfMemory answers)
      steps_starved (inr (inl (is, waits))) = absurd (cc is)
      steps_starved (inr (inr (inl (is, failed)))) = absurd (cc is)
      steps_starved (inr (inr (inr (inl (is, failed))))) = absurd (cc is)
      steps_starved (inr (inr (inr (inr (is, starved))))) =
          ends_here [] last.Memory
          (subst (λ by. IsSaid told o.shelf new.shelf before new.out by (lines ++ [])) (sym starved.end) (still_said starved.out))
          (inl (refl, refl, (λ idle. absurd (cc idle)), record { few = few_none left; here = place_of book left; opened = refl; left_is = all_left left; state = seals_self book.state; shelf = o.shelf; told = refl; ends = tt }))

    -- a lap was made then
    pub steps_lapped : (book after : BookView D R) (seen : ShelfView) (result : Result (Option ℕ) TurnsEnd) → new.end ≡ end.AtEnd → Turns old new order.Nothing → ((name : List ℕ) → count_on new.shelf name ≤ count_on seen name) → HasLapped disk o left book after result
        → HasStepped disk o left book after told seen before new.out new.taken new.end lines result
    steps_lapped book after seen result at turns more lapped = by result lapped.ends
      where
        waits : Waits old new
        waits = of_waits at turns

        whole : lapped.worked.made ≡ lapped.worked.made ++ []
        whole = sym (append-nil lapped.worked.made)

        counted : (name : List ℕ) → count_on old.shelf name ≤ count_on seen name
        counted name = let a = stays.shelf_counts name in let b = more name in omega (arith, a, b)

        since : HasFollowed told o.shelf seen before new.out new.taken lines
        since =
            let f = follows_since told o.shelf old.shelf seen before old.out old.taken lines was counted followed in
            record { taken_is = waits.taken ∙ f.taken_is; are = f.are; printed = subst (λ x. Took before x (answers_to 0 lines)) (sym waits.out) f.printed }

        goes_on : GoesOn disk o.meaning book after (lapped.worked.made ++ [])
        goes_on = subst (GoesOn disk o.meaning book after) whole lapped.worked.goes_on

        few : IfSome left (λ most. length (lapped.worked.made ++ []) ≤ most)
        few = subst (λ (ss : List Step). IfSome left (λ most. length ss ≤ most)) whole lapped.worked.few

        by : (r : Result (Option ℕ) TurnsEnd) → MatchResult r (λ now. now ≡ left_behind left (length lapped.worked.made)) (EndsAfter o left book.state lapped.worked.made) → HasStepped disk o left book after told seen before new.out new.taken new.end lines r
        by (Ok now) is = record {
          more = [];
          follows = subst (HasFollowed told o.shelf seen before new.out new.taken) (sym (append-nil lines)) since;
          parts = (None, lapped.worked.made) ∷ [];
          goes_on = goes_on;
          own = (lapped.worked.own, tt);
          few = few;
          carried = refl;
          left_is = subst (λ (ss : List Step). now ≡ left_behind left (length ss)) whole is;
        }
        by (Err why) ends = record {
          more = [];
          said = subst (λ by. IsSaid told o.shelf seen before new.out by (lines ++ [])) (sym at)
              (subst (λ ls. AreAnswered told o.shelf seen before new.out ls × IsAllOf told (length ls)) (sym (append-nil lines))
              (record { are = since.are; printed = since.printed }, (λ content is. subst (λ n. slice_get (control_lines content) n ≡ None) followed.taken_is (waits.none content (same ∙ is)))));
          parts = (None, lapped.worked.made) ∷ [];
          rest = [];
          goes_on = subst (GoesOn disk o.meaning book after) (sym (append-nil (lapped.worked.made ++ []))) goes_on;
          own = (lapped.worked.own, tt);
          few = few;
          ends = inl (refl, refl, (λ idle. at), subst (λ (ss : List Step). EndsAfter o left book.state ss why) whole ends);
        }

-- ---- steps, one behind the other

module _ {D R : Type 0} {disk : D → DiskView} (o : Outside) (told : Option (List ℕ)) (before : SinkView) where
  pub gone_none : (left : Option ℕ) (book : BookView D R) → ((image : Image) → (disk book.disk).left_since (disk book.disk).moment image → IsImage (disk book.disk).may_leave image) → HasGoneOn disk o left book book told o.shelf before before 0 [] left
  gone_none left book only = record { more = []; follows = follows_none told o.shelf before; parts = []; goes_on = goes_nowhere book only; own = tt; few = none left; carried = refl; left_is = all_left left }
    where
      none : (l : Option ℕ) → IfSome l (λ most. 0 ≤ most)
      none None = tt
      none (Some n) = omega arith

  module _ (left mid_left : Option ℕ) (old mid new : BookView D R) (seen later : ShelfView) (sink after : SinkView) (taken : ℕ) (front : HasGoneOn disk o left old mid told seen before sink taken [] mid_left) where
    few_on : (more : List (Option Order × List Step)) → IfSome mid_left (λ most. length (steps_in more) ≤ most) → IfSome left (λ most. length (steps_in (front.parts ++ more)) ≤ most)
    few_on more few = few_parts left front.parts more front.few (subst (λ (l : Option ℕ). IfSome l (λ most. length (steps_in more) ≤ most)) front.left_is few)

    orders_on : (more : List (Option Order × List Step)) (lines : List (Word × Order)) → carried_in more ≡ orders_in lines → carried_in (front.parts ++ more) ≡ orders_in (front.more ++ lines)
    orders_on more lines is = carried_on front.parts more ∙ ap (λ os. os ++ carried_in more) front.carried ∙ ap (λ os. orders_in front.more ++ os) is ∙ sym (orders_append front.more lines)

    pub gone_more : (now : Option ℕ) (more_taken : ℕ) → HasGoneOn disk o mid_left mid new told later before after more_taken front.more now → HasGoneOn disk o left old new told later before after more_taken [] now
    gone_more now more_taken rest = record {
      more = front.more ++ rest.more;
      follows = rest.follows;
      parts = front.parts ++ rest.parts;
      goes_on = subst (GoesOn disk o.meaning old new) (sym (steps_on front.parts rest.parts)) (goes_further old mid new (steps_in front.parts) (steps_in rest.parts) front.goes_on rest.goes_on);
      own = own_parts o old.state mid.state front.parts rest.parts front.goes_on.state front.own rest.own;
      few = few_on rest.parts rest.few;
      carried = orders_on rest.parts rest.more rest.carried;
      left_is = rest.left_is ∙ ap (λ (l : Option ℕ). left_behind l (length (steps_in rest.parts))) front.left_is ∙ left_lists left (steps_in front.parts) (steps_in rest.parts)
          ∙ ap (λ (ss : List Step). left_behind left (length ss)) (sym (steps_on front.parts rest.parts));
    }

    pub ended_more : (by : OrdersEnd) (why : TurnsEnd) → HasEnded disk o mid_left mid new told later before after by front.more why → HasEnded disk o left old new told later before after by [] why
    ended_more by why last_one = record {
      more = front.more ++ last_one.more;
      said = last_one.said;
      parts = front.parts ++ last_one.parts;
      rest = last_one.rest;
      goes_on = subst (λ ss. GoesOn disk o.meaning old new (ss ++ last_one.rest)) (sym (steps_on front.parts last_one.parts))
          (subst (GoesOn disk o.meaning old new) (sym (append_assoc (steps_in front.parts) (steps_in last_one.parts) last_one.rest)) (goes_further old mid new (steps_in front.parts) (steps_in last_one.parts ++ last_one.rest) front.goes_on last_one.goes_on));
      own = own_parts o old.state mid.state front.parts last_one.parts front.goes_on.state front.own last_one.own;
      few = few_on last_one.parts last_one.few;
      ends = subst (λ (os : List Order). RunEnds o left old.state (steps_in (front.parts ++ last_one.parts)) by os (carried_in (front.parts ++ last_one.parts)) last_one.rest why) (sym (orders_append front.more last_one.more))
          (subst (λ (os : List Order). RunEnds o left old.state (steps_in (front.parts ++ last_one.parts)) by (orders_in front.more ++ orders_in last_one.more) os last_one.rest why)
          (sym (carried_on front.parts last_one.parts ∙ ap (λ os. os ++ carried_in last_one.parts) front.carried))
          (subst (λ (ss : List Step). RunEnds o left old.state ss by (orders_in front.more ++ orders_in last_one.more) (orders_in front.more ++ carried_in last_one.parts) last_one.rest why) (sym (steps_on front.parts last_one.parts))
          (ends_on o left old.state mid.state (steps_in front.parts) (steps_in last_one.parts) by (orders_in front.more) (orders_in last_one.more) (carried_in last_one.parts) last_one.rest why front.few front.goes_on.state
          (subst (λ (l : Option ℕ). RunEnds o l mid.state (steps_in last_one.parts) by (orders_in last_one.more) (carried_in last_one.parts) last_one.rest why) front.left_is last_one.ends))));
    }
