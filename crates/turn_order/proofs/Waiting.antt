-- Where no bot may step and none is halted, nothing waits.
use Rattle.std.proofs.Common.{◌≡◌, ◌≤◌, ◌&&◌, ℕ, Bool, true, false, not, is_some, nat_le, List, [], ◌∷◌, Option, Some, None, option_map, map, find, refl, ap, subst, ◌∙◌, arith, if◌then◌else◌}
use Rattle.std.specs.List.{AllByRecursion, list_any}
use Rattle.std.specs.Option.{option_or}
use Rattle.std.specs.Str.{bytes_eq}
use Rattle.std.proofs.lemmas.Bool.{eq-eqb, leb-true}
use Rattle.std.proofs.lemmas.Slice.Eq.{bytes_eq-Decides}
use Rattle.base_types.proofs.Everywhere.{all_found, all_wider}
use Rattle.base_types.specs.Name.{queue_name}
use Rattle.stored_types.specs.Hand.{is_hand}
use Rattle.stored_types.specs.declared.hand.Hand.{Hand}
use Rattle.step_code.specs.declared.base.Base.{Base}
use Rattle.step_code.specs.declared.rules.Facts.{Facts}
use Rattle.step_code.specs.Fits.{is_empty}
use Rattle.step_code.specs.Rules.{bot_named, collects, passes}
use Rattle.step_code.specs.Sound.{IsSoundHand}
use Rattle.step_code.specs.State.{bots_in_force, held, is_instance, waiting}
use Rattle.turn_order.specs.Laws.{NothingWaits}
use Rattle.turn_order.specs.Order.{worker_of as worker_does}
use Rattle.turn_order.specs.Turn.{actor_of, lowest_full, may_take, workers}
use Rattle.turn_order.specs.declared.actor.Actor.TheVariants.{Full, Take}
use Rattle.turn_order.proofs.Actors.{among_all, both, found_passes, none_first, none_full}

-- an instance is one of a bot of the plan
pub record IsWorker (bots : List Facts) (bot : List ℕ) (i : ℕ) : Type 0 where
  pub facts : Facts
  pub named : bot_named bot bots ≡ Some facts
  pub name : facts.bot ≡ bot
  pub worker : not (collects facts) ≡ true
  pub from : 1 ≤ i
  pub upto : i ≤ facts.instances

pub worker_of : (bots : List Facts) (bot : List ℕ) (i : ℕ) → is_instance bots bot i ≡ true → IsWorker bots bot i
worker_of bots bot i is = go (bot_named bot bots) refl is
  where
    go : (o : Option Facts) → bot_named bot bots ≡ o → passes (λ (f : Facts). not (collects f) && nat_le 1 i && nat_le i f.instances) o ≡ true → IsWorker bots bot i
    go None found is = absurd (cc)
    go (Some f) found is =
        let first = both (not (collects f) && nat_le 1 i) (nat_le i f.instances) is in
        let second = both (not (collects f)) (nat_le 1 i) first.0 in
        record { facts = f; named = found; name = (bytes_eq-Decides f.bot bot).0 (found_passes (λ (g : Facts). bytes_eq g.bot bot) bots f found); worker = second.0; from = leb-true 1 i second.1; upto = leb-true i f.instances first.1 }

-- a bot that does nothing has no full hand, and may take nothing
does_nothing : (s : Base) (f : Facts) → actor_of s f ≡ None → (lowest_full f.bot 1 f.instances s ≡ None) × (may_take s f.bot ≡ false)
does_nothing s f is = go (lowest_full f.bot 1 f.instances s) (may_take s f.bot) is
  where
    go : (o : Option ℕ) (b : Bool) → option_or (option_map (Full f.bot) o) (if b then Some (Take f.bot) else None) ≡ None → (o ≡ None) × (b ≡ false)
    go (Some k) b is = absurd (cc)
    go None true is = absurd (cc)
    go None false is = (refl, refl)

none_waits : (s : Base) (bot : List ℕ) → s.halted ≡ [] → may_take s bot ≡ false → waiting (queue_name bot) s ≡ []
none_waits s bot none is = go (waiting (queue_name bot) s) (rw (ap (λ names. list_any (λ name. bytes_eq name bot) names) none) at is)
  where
    go : {A : Type 0} (xs : List A) → not (is_empty xs) ≡ false → xs ≡ []
    go [] is = refl
    go (x ∷ xs) is = absurd (cc)

pub nothing_waits : NothingWaits
nothing_waits m s hands sound none halted =
    let idle = none_first (actor_of s) (workers m s) none in
    (no_hands s.hands refl, all_wider _ _ (workers m s) (λ f is. none_waits s f.bot halted (does_nothing s f is).1) idle)
  where
    of_worker : (f : Facts) → not (collects f) ≡ true → worker_does s f ≡ None → actor_of s f ≡ None
    of_worker f worker is = go (collects f) refl worker is
      where
        go : (c : Bool) → collects f ≡ c → not c ≡ true → worker_does s f ≡ None → actor_of s f ≡ None
        go true role worker is = absurd (cc)
        go false role worker is = rw (role) at is

    no_hands : (full : List Hand) → s.hands ≡ full → s.hands ≡ []
    no_hands [] is = is
    no_hands (h ∷ others) is =
        let each = subst (AllByRecursion (IsSoundHand (bots_in_force m s) (map (λ q. q.name) s.queues))) is hands.each_hand in
        let worker = worker_of (bots_in_force m s) h.bot h.instance each.0.live in
        let f = worker.facts in
        let none_of = all_found _ _ (bots_in_force m s) f (none_first (worker_does s) (bots_in_force m s) (among_all s (bots_in_force m s) ∙ none)) worker.named in
        let nothing = does_nothing s f (of_worker f worker.worker none_of) in
        let empty = none_full f.bot 1 f.instances h.instance s nothing.0 worker.from (omega (arith, worker.upto)) in
        let here : is_hand h.bot h.instance h ≡ true = rw ((bytes_eq-Decides h.bot h.bot).1 refl, eq-eqb h.instance h.instance refl) refl in
        let full : held h.bot h.instance s ≡ Some h.message.no = ap (λ (hs : List Hand). option_map (λ (g : Hand). g.message.no) (find (is_hand h.bot h.instance) hs)) is ∙ rw (here) refl in
        absurd (cc (full, subst (λ (b : List ℕ). is_some (held b h.instance s) ≡ false) worker.name empty))
