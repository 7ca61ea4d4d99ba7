-- Bodies stay lawful.
use Rattle.std.proofs.Common.{suc, ◌+◌, ◌≤◌, ◌&&◌, not, unwrap_or, option_map, ◌≡◌, ℕ, Bool, true, false, List, [], ◌∷◌, ◌++◌, map, filter, drop, Option, Some, None, find, refl, sym, ap, subst, if◌then◌else◌}
use Rattle.std.specs.List.{AllByRecursion, list_any}
use Rattle.base_types.specs.declared.message.Msg.{Msg}
use Rattle.base_types.specs.declared.message.Moment.{Moment}
use Rattle.base_types.specs.declared.message.FaultNote.{FaultNote}
use Rattle.stored_types.specs.declared.message.Dump.{Dump}
use Rattle.step_code.specs.declared.base.Base.{Base}
use Rattle.stored_types.specs.declared.hand.Hand.{Hand}
use Rattle.stored_types.specs.declared.queue.Queue.{Queue}
use Rattle.step_code.specs.declared.output.Output.{Output}
use Rattle.step_code.specs.declared.rules.Facts.{Facts}
use Rattle.step_code.specs.declared.step.Step.{Step}
use Rattle.step_code.specs.declared.step.StepKind.{StepKind}
use Rattle.step_code.specs.declared.step.StepKind.TheVariants as kind
use Rattle.base_types.specs.Lists.{AreBytes, changed, without}
use Rattle.step_code.specs.Rules.{Meaning, Task, FitsBot, IsLawful, bot_named, is_collector, last_moment, writes}
use Rattle.step_code.specs.State.{is_instance, bots_in_force, bots_of, waiting, is_dump, is_feed, is_out, hand_of, new_out}
use Rattle.base_types.specs.Name.{queue_name}
use Rattle.stored_types.specs.Queue.{is_queue, put, put_all, put_first}
use Rattle.stored_types.specs.Hand.{is_hand}
use Rattle.step_code.specs.After.{all_given_back, cached, cache_rule, body_in_hand, after, given_back, halted_by, instances_of, numbered, put_aside, redone, returned, sent, dumped, reports, taken_first, written}
use Rattle.step_code.specs.Content.{Carries, May, is_duplicate}
use Rattle.step_code.specs.History.{Legal, replay}
use Rattle.step_code.specs.Places.{AreLawful}
use Rattle.base_types.proofs.Everywhere.{all-append, all_changed, all_changed_or_added, all_without, all_found}
use Rattle.step_code.proofs.Parts.{done_fits, collect_fits, passes_there}
use Rattle.history_laws.proofs.Loads.{still_loads}

module _ (m : Meaning) where
  abbrev lawful : List ℕ → Type 0
  lawful body = IsLawful m body

  abbrev IsFine : Queue → Type 0
  IsFine q = AllByRecursion (λ message. lawful message.body) q.messages

  put_keeps : (name : List ℕ) (m : Msg) (queues : List Queue) → lawful m.body → AllByRecursion IsFine queues → AllByRecursion IsFine (put name m queues)
  put_keeps name m queues fine all =
      all_changed_or_added IsFine (is_queue name) (λ q. record q { messages = q.messages ++ m ∷ [] }) (record { name = name; messages = m ∷ [] }) queues (fine, tt)
      (λ q was. all-append (λ message. lawful message.body) q.messages (m ∷ []) was (fine, tt)) all

  put_all_keeps : (next : ℕ) (sends : List (List ℕ × List ℕ)) (queues : List Queue) → AllByRecursion (λ send. lawful send.1) sends → AllByRecursion IsFine queues
      → AllByRecursion IsFine (put_all next sends queues)
  put_all_keeps next [] queues fine all = all
  put_all_keeps next (send ∷ sends) queues fine all =
      put_all_keeps (suc next) sends (put send.0 (record { no = next; body = send.1 }) queues) fine.1 (put_keeps send.0 (record { no = next; body = send.1 }) queues fine.0 all)

  numbered_keeps : (next dump : ℕ) (bot : List ℕ) (now : Moment) (items : List (List ℕ × FaultNote)) → AllByRecursion (λ item. lawful item.0) items
      → AllByRecursion (λ d. lawful d.message.body) (numbered next dump bot now items)
  numbered_keeps next dump bot now [] fine = tt
  numbered_keeps next dump bot now (item ∷ items) fine = (fine.0, numbered_keeps (suc next) (suc dump) bot now items fine.1)

  sent_keeps : (sends : List (List ℕ × List ℕ)) (s : Base) → AllByRecursion (λ send. lawful send.1) sends → AreLawful m s → AreLawful m (sent sends s)
  sent_keeps sends s fine all = record { queues = put_all_keeps s.next_message sends s.queues fine all.queues; hands = all.hands; dumps = all.dumps; outs = all.outs }

  dumped_keeps : (bot : List ℕ) (now : Moment) (items : List (List ℕ × FaultNote)) (s : Base) → AllByRecursion (λ item. lawful item.0) items → AreLawful m s → AreLawful m (dumped bot now items s)
  dumped_keeps bot now items s fine all = record {
    queues = all.queues;
    hands = all.hands;
    dumps = all-append (λ d. lawful d.message.body) s.dumps (numbered s.next_message s.next_dump bot now items) all.dumps (numbered_keeps s.next_message s.next_dump bot now items fine);
    outs = all.outs;
  }

  same_body : (queues : List (List ℕ)) (body : List ℕ) → lawful body → AllByRecursion {X = List ℕ × List ℕ} (λ send. lawful send.1) (map (λ queue. (queue, body)) queues)
  same_body [] body fine = tt
  same_body (q ∷ queues) body fine = (fine, same_body queues body fine)

  drop_keeps : (messages : List Msg) → AllByRecursion (λ message. lawful message.body) messages → AllByRecursion (λ message. lawful message.body) (drop 1 messages)
  drop_keeps [] all = tt
  drop_keeps (m ∷ messages) all = all.1

  queued_fine : (name : List ℕ) (found : Option Queue) (messages : List Msg) → ((q : Queue) → found ≡ Some q → IsFine q) → unwrap_or (option_map (λ q. q.messages) found) [] ≡ messages
      → AllByRecursion (λ message. lawful message.body) messages
  queued_fine name None messages fine is = subst (AllByRecursion (λ message. lawful message.body)) is tt
  queued_fine name (Some q) messages fine is = subst (AllByRecursion (λ message. lawful message.body)) is (fine q refl)

  taken_keeps : (bot : List ℕ) (instance : ℕ) (now : Moment) (s : Base) (messages : List Msg) → waiting (queue_name bot) s ≡ messages → AreLawful m s → AreLawful m (taken_first bot instance now messages s)
  taken_keeps bot instance now s [] is all = all
  taken_keeps bot instance now s (m ∷ others) is all =
      let fine = queued_fine (queue_name bot) (find (is_queue (queue_name bot)) s.queues) (m ∷ others) (λ q. all_found IsFine (is_queue (queue_name bot)) s.queues q all.queues) is in
      record {
        queues = all_changed IsFine (is_queue (queue_name bot)) (λ q. record q { messages = drop 1 q.messages }) s.queues (λ q. drop_keeps q.messages) all.queues;
        hands = all-append (λ h. lawful h.message.body) s.hands (record { bot = bot; instance = instance; message = m; tries = 0; since = now } ∷ []) all.hands (fine.0, tt);
        dumps = all.dumps;
        outs = all.outs;
      }

  written_keeps : (line : Bool) (bot body : List ℕ) (outs : List Output) → lawful body → AllByRecursion (λ o. AllByRecursion lawful o.lines) outs → AllByRecursion (λ o. AllByRecursion lawful o.lines) (written line bot body outs)
  written_keeps true bot body outs fine all =
      all_changed (λ o. AllByRecursion lawful o.lines) (is_out bot) (λ o. record o { lines = o.lines ++ body ∷ [] }) outs (λ o was. all-append lawful o.lines (body ∷ []) was (fine, tt)) all
  written_keeps false bot body outs fine all = all

  carried : (duplicate : Bool) (given_sends sends : List (List ℕ × List ℕ)) (given_key key : Option (List ℕ)) → Carries duplicate given_sends given_key sends key
      → AllByRecursion (λ send. lawful send.1) given_sends → AllByRecursion (λ send. lawful send.1) sends
  carried true given_sends sends given_key key carries fine = subst (AllByRecursion (λ send. lawful send.1)) (sym carries.0) tt
  carried false given_sends sends given_key key carries fine = subst (AllByRecursion (λ send. lawful send.1)) (sym carries.0) fine

  body_fine : (found : Option Hand) (h : Hand) → found ≡ Some h → lawful h.message.body → lawful (unwrap_or (option_map (λ h. h.message.body) found) [])
  body_fine found h is fine = subst (λ o. lawful (unwrap_or (option_map (λ (h : Hand). h.message.body) o) [])) (sym is) fine

  -- outputs without lines
  pub no_lines : (bots : List Facts) → AllByRecursion {X = Output} (λ o. AllByRecursion lawful o.lines) (map new_out bots)
  no_lines [] = tt
  no_lines (f ∷ bots) = (tt, no_lines bots)

  put_first_keeps : (name : List ℕ) (m : Msg) (queues : List Queue) → lawful m.body → AllByRecursion IsFine queues → AllByRecursion IsFine (put_first name m queues)
  put_first_keeps name m queues fine all =
      all_changed_or_added IsFine (is_queue name) (λ q. record q { messages = m ∷ q.messages }) (record { name = name; messages = m ∷ [] }) queues (fine, tt) (λ q was. (fine, was)) all

  returned_keeps : (bot : List ℕ) (instance : ℕ) (found : Option Hand) (s : Base) → hand_of bot instance s ≡ found → AreLawful m s → AreLawful m (returned bot instance found s)
  returned_keeps bot instance None s is all = all
  returned_keeps bot instance (Some h) s is all = record {
    queues = put_first_keeps (queue_name bot) h.message s.queues (all_found (λ h. lawful h.message.body) (is_hand bot instance) s.hands h all.hands is) all.queues;
    hands = all_without (λ h. lawful h.message.body) (is_hand bot instance) s.hands all.hands;
    dumps = all.dumps;
    outs = all.outs;
  }

  one_keeps : (live : Bool) (bot : List ℕ) (instance : ℕ) (s : Base) → AreLawful m s → AreLawful m (if live then s else given_back bot instance s)
  one_keeps true bot instance s all = all
  one_keeps false bot instance s all = returned_keeps bot instance (hand_of bot instance s) s refl all

  all_given_back_keeps : (bots : List Facts) (instances : List (List ℕ × ℕ)) (s : Base) → AreLawful m s → AreLawful m (all_given_back bots instances s)
  all_given_back_keeps bots [] s all = all
  all_given_back_keeps bots (x ∷ xs) s all =
      all_given_back_keeps bots xs (if is_instance bots x.0 x.1 then s else given_back x.0 x.1 s) (one_keeps (is_instance bots x.0 x.1) x.0 x.1 s all)

  redone_keeps : (dump : ℕ) (found : Option Dump) (s : Base) → find (is_dump dump) s.dumps ≡ found → AreLawful m s → AreLawful m (redone dump found s)
  redone_keeps dump None s is all = all
  redone_keeps dump (Some d) s is all = record {
    queues = put_keeps (queue_name d.bot) d.message s.queues (all_found (λ d. lawful d.message.body) (is_dump dump) s.dumps d all.dumps is) all.queues;
    hands = all.hands;
    dumps = all_without (λ d. lawful d.message.body) (is_dump dump) s.dumps all.dumps;
    outs = all.outs;
  }

  put_aside_keeps : (bot : List ℕ) (instance message : ℕ) (fault : FaultNote) (now : Moment) (s : Base) → lawful (body_in_hand bot instance s) → AreLawful m s
      → AreLawful m (put_aside bot instance message fault now s)
  put_aside_keeps bot instance message fault now s fine all = record {
    queues = all.queues;
    hands = all_without (λ h. lawful h.message.body) (is_hand bot instance) s.hands all.hands;
    dumps = all-append (λ d. lawful d.message.body) s.dumps
        (record { no = s.next_dump; bot = bot; message = record { no = message; body = body_in_hand bot instance s }; note = fault; moment = now } ∷ []) all.dumps (fine, tt);
    outs = all.outs;
  }

  -- the bundle in force loads
  abbrev Loads : Base → Type 0
  Loads s = (bots : List Facts) × (m.facts s.bundle ≡ Some bots)

  module _
      (reports_are_lawful : (bots : List Facts) (task : Task) (piece : List ℕ) (now : ℕ) → m.facts task.bundle ≡ Some bots → is_collector bots task.bot ≡ true → AreBytes piece → now ≤ last_moment → lawful (m.report task piece now))
      (given_fits : (bots : List Facts) (facts : Facts) (task : Task) (body : List ℕ) (since : ℕ) → m.facts task.bundle ≡ Some bots → bot_named task.bot bots ≡ Some facts → FitsBot m facts (m.give task body since)) where
    in_force : (s : Base) (bots : List Facts) → m.facts s.bundle ≡ Some bots → bots_in_force m s ≡ bots
    in_force s bots plan = ap (λ o. unwrap_or o []) plan

    step_keeps : (s : Base) (now : Moment) (what : StepKind) → Loads s → May m s (record { moment = now; what = what }) → AreLawful m s → AreLawful m (after m s (record { moment = now; what = what }))
    step_keeps s now kind.Start plan may all = record { queues = all.queues; hands = all.hands; dumps = all.dumps; outs = all.outs }
    step_keeps s now (kind.Collect bot from upto piece) (bots, plan) may all =
        let t : Base = record s { steps = s.steps + 1; latest = now; feeds = changed (is_feed bot) (λ f. record f { position = upto }) s.feeds } in
        let collects = subst (λ b. is_collector b bot ≡ true) (in_force s bots plan) (collect_fits m s now bot from upto piece may.fits) in
        let task : Task = record { bundle = s.bundle; bot = bot } in
        sent_keeps (reports m s bot piece now) t (same_body _ (m.report task piece now.0) (reports_are_lawful bots task piece now.0 plan collects may.content.what.1 may.content.time.limit))
        (record { queues = all.queues; hands = all.hands; dumps = all.dumps; outs = all.outs })
    step_keeps s now (kind.FeedEnd bot position) plan may all = record { queues = all.queues; hands = all.hands; dumps = all.dumps; outs = all.outs }
    step_keeps s now (kind.Take bot instance message) plan may all =
        let t : Base = record s { steps = s.steps + 1; latest = now } in
        taken_keeps bot instance now t (waiting (queue_name bot) s) refl (record { queues = all.queues; hands = all.hands; dumps = all.dumps; outs = all.outs })
    step_keeps s now (kind.Done bot instance message bundle sends dumps key line) (bots, plan) may all =
        let result = may.content.what in
        let live = subst (λ b. is_instance b bot instance ≡ true) (in_force s bots plan) (done_fits m s now bot instance message bundle sends dumps key line may.fits).0 in
        let named = passes_there _ (bot_named bot bots) live in
        let task : Task = record { bundle = s.bundle; bot = bot } in
        let body = all_found (λ h. lawful h.message.body) (is_hand bot instance) s.hands result.hand all.hands result.holds in
        let fits = subst (FitsBot m named.0) result.gives (given_fits bots named.0 task result.hand.message.body result.hand.since.0 plan named.1) in
        let t : Base = record s {
          steps = s.steps + 1;
          latest = now;
          caches = cached (cache_rule m s bot) bot now key s.caches;
          outs = written line bot (body_in_hand bot instance s) s.outs;
          hands = without (is_hand bot instance) s.hands;
        } in
        dumped_keeps bot now dumps (sent sends t) fits.1 (sent_keeps sends t
        (carried (is_duplicate m s bot now.0 result.given_key) result.given_sends sends result.given_key key result.carries fits.0)
        (record {
          queues = all.queues;
          hands = all_without (λ h. lawful h.message.body) (is_hand bot instance) s.hands all.hands;
          dumps = all.dumps;
          outs = written_keeps line bot (body_in_hand bot instance s) s.outs (body_fine (hand_of bot instance s) result.hand result.holds body) all.outs;
        }))
    step_keeps s now (kind.Retry bot instance message bundle fault) plan may all = record {
      queues = all.queues;
      hands = all_changed (λ h. lawful h.message.body) (is_hand bot instance) (λ h. record h { tries = h.tries + 1 }) s.hands (λ h was. was) all.hands;
      dumps = all.dumps;
      outs = all.outs;
    }
    step_keeps s now (kind.Fail bot instance message bundle fault queues halts) plan may all =
        let gave = may.content.what.gave in
        let t : Base = record s { steps = s.steps + 1; latest = now; halted = halted_by halts bot s.halted } in
        let held = all_found (λ h. lawful h.message.body) (is_hand bot instance) s.hands gave.hand all.hands gave.holds in
        let body = body_fine (hand_of bot instance s) gave.hand gave.holds held in
        sent_keeps (map (λ queue. (queue, body_in_hand bot instance s)) queues) (put_aside bot instance message fault now t) (same_body queues (body_in_hand bot instance s) body)
        (put_aside_keeps bot instance message fault now t body (record { queues = all.queues; hands = all.hands; dumps = all.dumps; outs = all.outs }))
    step_keeps s now (kind.Reload bundle) plan may all =
        let new = bots_of m bundle in
        all_given_back_keeps new (instances_of (bots_in_force m s)) _ (record {
          queues = all.queues;
          hands = all.hands;
          dumps = all.dumps;
          outs = all-append (λ o. AllByRecursion lawful o.lines) s.outs (map new_out (filter (λ f. writes f && not (list_any (is_out f.bot) s.outs)) new)) all.outs
              (no_lines (filter (λ f. writes f && not (list_any (is_out f.bot) s.outs)) new));
        })
    step_keeps s now (kind.Redo dump) plan may all =
        let t : Base = record s { steps = s.steps + 1; latest = now } in
        redone_keeps dump (find (is_dump dump) s.dumps) t refl (record { queues = all.queues; hands = all.hands; dumps = all.dumps; outs = all.outs })
    step_keeps s now (kind.Round bot) plan may all = record { queues = all.queues; hands = all.hands; dumps = all.dumps; outs = all.outs }

    pub stay_lawful : (s : Base) (steps : List Step) → Loads s → Legal m s steps → AreLawful m s → AreLawful m (replay m s steps)
    stay_lawful s [] plan legal all = all
    stay_lawful s (step ∷ steps) plan legal all =
        stay_lawful (after m s step) steps (still_loads m s step.moment step.what legal.0.fits plan) legal.1 (step_keeps s step.moment step.what plan legal.0 all)
