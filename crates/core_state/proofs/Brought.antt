-- The numbers that a step brings, and the first of them past the last one.
use Rattle.std.proofs.Common.{◌≡◌, ◌+◌, ◌-◌, ℕ, zero, suc, Bool, true, false, cond, List, [], ◌∷◌, ◌++◌, length, map, min, drop, take, get_or, find, position, Option, Some, None, option_map, refl, sym, ◌∙◌, ap, arith}
use Rattle.std.proofs.lemmas.List.{append-nil, length-append, length-map, map-append}
use Rattle.std.specs.Option.{option_or}
use Rattle.std.specs.Str.{bytes_eq}
use Rattle.std.proofs.lemmas.List.Folds.{find-append}
use Rattle.std.proofs.lemmas.List.Sums.{sum_by-append}
use Rattle.base_types.specs.declared.message.Moment.{Moment}
use Rattle.base_types.specs.declared.message.Msg.{Msg}
use Rattle.stored_types.specs.declared.message.Dump.{Dump}
use Rattle.step_code.specs.declared.output.Output.{Output}
use Rattle.step_code.specs.declared.rules.Facts.{Facts}
use Rattle.step_code.specs.declared.base.Base.{Base}
use Rattle.step_code.specs.declared.step.StepKind.{StepKind}
use Rattle.step_code.specs.declared.step.StepKind.TheVariants as kind
use Rattle.step_code.specs.After.{after, body_in_hand, instances_of, redone, renewed, reports, taken_first, with_feeds, with_outs, written}
use Rattle.base_types.specs.Lists.{changed}
use Rattle.step_code.specs.Rules.{Meaning}
use Rattle.step_code.specs.State.{bots_in_force, bots_of, is_dump, is_out, new_out, waiting}
use Rattle.step_code.proofs.GivenBack.{kept-all_given_back}
use Rattle.base_types.specs.Name.{queue_name}
use Rattle.step_code.specs.Spent.{is_past, numbers_brought, out_length, spent, up_to_spent}
use Rattle.base_types.specs.Number.{last_u64}
use Rattle.base_types.proofs.Found.{IsFirst, changed_missing, first_at}
use Rattle.core_state.specs.declared.outputs.Written.{Written}
use Rattle.core_state.specs.Outputs.{HasLength, HaveLengths, is_written_by, out_of, outs_of}
use Rattle.core_state.specs.Spent.{bots_coming, bundles_by, dumps_by, line_by, line_of, messages_by, new_writers, outs_by, with_line}

abbrev capped : ℕ → ℕ
capped n = min n last_u64

-- the first past the last one, where one of them is changed
pub first_changed : {A : Type 0} (is : A → Bool) (change : A → A) (f : A → ℕ) (xs : List A) (i : ℕ) (d : A) → IsFirst is xs i
    → find is_past (map f (changed is change xs)) ≡ option_or (find is_past (map f (take i xs))) (option_or (find is_past (f (change (get_or xs i d)) ∷ [])) (find is_past (map f (drop (i + 1) xs))))
first_changed is change f [] i d first = absurd (omega (arith, first.inside))
first_changed is change f (x ∷ xs) zero d first = rw (first.passes d) (here (is_past (f (change x))) (f (change x)) (find is_past (map f xs)))
  where
    here : (b : Bool) (y : ℕ) (rest : Option ℕ) → cond b (Some y) rest ≡ option_or (cond b (Some y) None) rest
    here true y rest = refl
    here false y rest = refl
first_changed is change f (x ∷ xs) (suc i) d first =
    let one : suc i + 1 ≡ suc (i + 1) = omega arith in
    rw (one, first.before d 0 (omega arith)) (go (is_past (f x)) (f x) (find is_past (map f (changed is change xs))) (find is_past (map f (take i xs))) _
    (first_changed is change f xs i d (record { inside = omega (arith, first.inside); passes = first.passes; before = λ e k below. first.before e (suc k) (omega (arith, below)) })))
  where
    go : (b : Bool) (y : ℕ) (whole front rest : Option ℕ) → whole ≡ option_or front rest → cond b (Some y) whole ≡ option_or (cond b (Some y) front) rest
    go true y whole front rest is = refl
    go false y whole front rest is = is

-- the lengths that stand beside outputs
pub lengths_are : (ws : List Written) → HaveLengths ws → map (λ w. w.length) ws ≡ map capped (map out_length (outs_of ws))
lengths_are [] all = refl
lengths_are (w ∷ ws) all = λ i. all.0 i ∷ lengths_are ws all.1 i

longer : (w : Written) (body : List ℕ) → HasLength w → min (w.length + (length body + 1)) last_u64 ≡ capped (out_length (record (out_of w) { lines = w.lines.items ++ body ∷ [] }))
longer w body has = omega (arith, has, sum_by-append (λ (line : List ℕ). length line + 1) w.lines.items (body ∷ []))

pub lengths_with : (bot body : List ℕ) (ws : List Written) → HaveLengths ws → map (λ w. w.length) (with_line (Some (bot, length body)) ws) ≡ map capped (map out_length (written true bot body (outs_of ws)))
lengths_with bot body [] all = refl
lengths_with bot body (w ∷ ws) all = go (lengths_with bot body ws all.1) (bytes_eq w.bot bot)
  where
    go : map (λ w. w.length) (with_line (Some (bot, length body)) ws) ≡ map capped (map out_length (written true bot body (outs_of ws))) → (b : Bool) → map (λ w. w.length) (cond b (record w { length = min (w.length + (length body + 1)) last_u64 } ∷ ws) (w ∷ with_line (Some (bot, length body)) ws))
        ≡ map capped (map out_length (cond b (record (out_of w) { lines = w.lines.items ++ body ∷ [] } ∷ outs_of ws) (out_of w ∷ written true bot body (outs_of ws))))
    go later true = λ i. longer w body all.0 i ∷ lengths_are ws all.1 i
    go later false = λ i. all.0 i ∷ later i

length_changed : {A : Type 0} (is : A → Bool) (change : A → A) (xs : List A) → length (changed is change xs) ≡ length xs
length_changed is change [] = refl
length_changed is change (x ∷ xs) = go (length_changed is change xs) (is x)
  where
    go : length (changed is change xs) ≡ length xs → (b : Bool) → length (cond b (change x ∷ xs) (x ∷ changed is change xs)) ≡ length (x ∷ xs)
    go later true = refl
    go later false = ap suc later

-- the numbers, by what the step brings
abbrev numbers_by : Meaning → Base → Moment → StepKind → List ℕ
numbers_by m s now what =
    (s.steps + 1) ∷ up_to_spent ((s.next_message + messages_by m s now what) - 1) ∷ up_to_spent ((s.next_dump + dumps_by what) - 1) ∷ (s.bundle_no + bundles_by what)
    ∷ ((length s.outs + length (new_writers (bots_coming m what) s.outs)) - 1) ∷ map out_length (outs_by (bots_coming m what) (line_of s what) s.outs)

-- a state with these numbers brings those
brought_by : (t : Base) (steps messages dumps bundle outs : ℕ) (list : List Output) → t.steps ≡ steps → t.next_message - 1 ≡ messages - 1 → t.next_dump - 1 ≡ dumps - 1 → t.bundle_no ≡ bundle → t.outs ≡ list → length list - 1 ≡ outs
    → numbers_brought t ≡ steps ∷ up_to_spent (messages - 1) ∷ up_to_spent (dumps - 1) ∷ bundle ∷ outs ∷ map out_length list
brought_by t steps messages dumps bundle outs list s m d b o n =
    ap (λ l. t.steps ∷ up_to_spent (t.next_message - 1) ∷ up_to_spent (t.next_dump - 1) ∷ t.bundle_no ∷ (length l - 1) ∷ map out_length l) o
    ∙ (λ i. s i ∷ up_to_spent (m i) ∷ up_to_spent (d i) ∷ b i ∷ n i ∷ map out_length list)

none_new : (outs : List Output) → outs ≡ outs ++ []
none_new outs = sym (append-nil outs)

same_count : (n : ℕ) → n - 1 ≡ (n + 0) - 1
same_count n = omega arith

-- a step that changes neither messages nor outputs
plain : (t s : Base) → t.steps ≡ s.steps + 1 → t.next_message ≡ s.next_message → t.next_dump ≡ s.next_dump → t.bundle_no ≡ s.bundle_no → t.outs ≡ s.outs
    → numbers_brought t ≡ (s.steps + 1) ∷ up_to_spent ((s.next_message + 0) - 1) ∷ up_to_spent ((s.next_dump + 0) - 1) ∷ (s.bundle_no + 0) ∷ ((length s.outs + 0) - 1) ∷ map out_length (s.outs ++ [])
plain t s steps messages dumps bundle outs =
    brought_by t (s.steps + 1) (s.next_message + 0) (s.next_dump + 0) (s.bundle_no + 0) ((length s.outs + 0) - 1) (s.outs ++ []) steps (omega (arith, messages)) (omega (arith, dumps)) (omega (arith, bundle))
    (outs ∙ none_new s.outs) (ap (λ (l : List Output). length l - 1) (append-nil s.outs) ∙ same_count (length s.outs))

brought_is : (m : Meaning) (s : Base) (now : Moment) (what : StepKind) → numbers_brought (after m s (record { moment = now; what = what })) ≡ numbers_by m s now what
brought_is m s now kind.Start = plain (after m s (record { moment = now; what = kind.Start })) s refl refl refl refl refl
brought_is m s now (kind.Collect bot from upto piece) =
    brought_by (after m s (record { moment = now; what = kind.Collect bot from upto piece })) (s.steps + 1) (s.next_message + length (reports m s bot piece now)) (s.next_dump + 0) (s.bundle_no + 0) ((length s.outs + 0) - 1)
    (s.outs ++ []) refl refl (omega arith) (omega arith) (none_new s.outs) (ap (λ (l : List Output). length l - 1) (append-nil s.outs) ∙ same_count (length s.outs))
brought_is m s now (kind.FeedEnd bot position) = plain (after m s (record { moment = now; what = kind.FeedEnd bot position })) s refl refl refl refl refl
brought_is m s now (kind.Take bot instance message) = go (waiting (queue_name bot) s)
  where
    go : (messages : List Msg) → numbers_brought (taken_first bot instance now messages (record s { steps = s.steps + 1; latest = now })) ≡ numbers_by m s now (kind.Take bot instance message)
    go [] = plain (record s { steps = s.steps + 1; latest = now }) s refl refl refl refl refl
    go (x ∷ xs) = plain (taken_first bot instance now (x ∷ xs) (record s { steps = s.steps + 1; latest = now })) s refl refl refl refl refl
brought_is m s now (kind.Done bot instance message bundle sends dumps key true) =
    brought_by (after m s (record { moment = now; what = kind.Done bot instance message bundle sends dumps key true })) (s.steps + 1) (s.next_message + (length sends + length dumps)) (s.next_dump + length dumps) (s.bundle_no + 0)
    ((length s.outs + 0) - 1) (written true bot (body_in_hand bot instance s) s.outs) refl (omega arith) refl (omega arith) refl
    (ap (λ n. n - 1) (length_changed (is_out bot) (λ o. record o { lines = o.lines ++ body_in_hand bot instance s ∷ [] }) s.outs) ∙ same_count (length s.outs))
brought_is m s now (kind.Done bot instance message bundle sends dumps key false) =
    brought_by (after m s (record { moment = now; what = kind.Done bot instance message bundle sends dumps key false })) (s.steps + 1) (s.next_message + (length sends + length dumps)) (s.next_dump + length dumps) (s.bundle_no + 0)
    ((length s.outs + 0) - 1) (s.outs ++ []) refl (omega arith) refl (omega arith) (none_new s.outs) (ap (λ (l : List Output). length l - 1) (append-nil s.outs) ∙ same_count (length s.outs))
brought_is m s now (kind.Retry bot instance message bundle fault) = plain (after m s (record { moment = now; what = kind.Retry bot instance message bundle fault })) s refl refl refl refl refl
brought_is m s now (kind.Fail bot instance message bundle fault queues halts) =
    brought_by (after m s (record { moment = now; what = kind.Fail bot instance message bundle fault queues halts })) (s.steps + 1) (s.next_message + length queues) (s.next_dump + 1) (s.bundle_no + 0) ((length s.outs + 0) - 1)
    (s.outs ++ []) refl (omega (arith, length-map {B = List ℕ × List ℕ} queues (λ (queue : List ℕ). (queue, body_in_hand bot instance s)))) refl (omega arith) (none_new s.outs)
    (ap (λ (l : List Output). length l - 1) (append-nil s.outs) ∙ same_count (length s.outs))
brought_is m s now (kind.Reload bundle) =
    let new = bots_of m bundle in
    kept-all_given_back numbers_brought (λ t queues hands. refl) new (instances_of (bots_in_force m s)) _
    ∙ brought_by (record s { steps = s.steps + 1; latest = now; bundle = bundle; bundle_no = s.bundle_no + 1; halted = []; feeds = with_feeds new (map (renewed (bots_in_force m s) new) s.feeds); outs = with_outs new s.outs })
    (s.steps + 1) (s.next_message + 0) (s.next_dump + 0) (s.bundle_no + 1) ((length s.outs + length (new_writers new s.outs)) - 1) (with_outs new s.outs) refl (omega arith) (omega arith) refl refl
    (omega (arith, length-append s.outs (map new_out (new_writers new s.outs)), length-map (new_writers new s.outs) new_out))
brought_is m s now (kind.Redo dump) = go (find (is_dump dump) s.dumps)
  where
    go : (found : Option Dump) → numbers_brought (redone dump found (record s { steps = s.steps + 1; latest = now })) ≡ numbers_by m s now (kind.Redo dump)
    go None = plain (record s { steps = s.steps + 1; latest = now }) s refl refl refl refl refl
    go (Some d) = plain (redone dump (Some d) (record s { steps = s.steps + 1; latest = now })) s refl refl refl refl refl
brought_is m s now (kind.Round bot) = plain (after m s (record { moment = now; what = kind.Round bot })) s refl refl refl refl refl

-- outputs that begin are short
new_short : (bots : List Facts) → find is_past (map capped (map out_length (map new_out bots))) ≡ None
new_short [] = refl
new_short (f ∷ bots) = new_short bots

none_after : {A : Type 0} (o : Option A) → option_or o None ≡ o
none_after None = refl
none_after (Some x) = refl

-- the first length past the last one, behind the step
lengths_by : (coming : List Facts) (line : Option (List ℕ × List ℕ)) (ws : List Written) → HaveLengths ws
    → find is_past (map capped (map out_length (outs_by coming line (outs_of ws)))) ≡ find is_past (map (λ w. w.length) (with_line (option_map (λ l. (l.0, length l.1)) line) ws))
lengths_by coming None ws all =
    let new = map new_out (new_writers coming (outs_of ws)) in
    ap (λ l. find is_past (map capped l)) (map-append out_length (outs_of ws) new)
    ∙ ap (find is_past) (map-append capped (map out_length (outs_of ws)) (map out_length new))
    ∙ find-append is_past (map capped (map out_length (outs_of ws))) (map capped (map out_length new))
    ∙ ap (option_or (find is_past (map capped (map out_length (outs_of ws))))) (new_short (new_writers coming (outs_of ws)))
    ∙ none_after (find is_past (map capped (map out_length (outs_of ws))))
    ∙ sym (ap (find is_past) (lengths_are ws all))
lengths_by coming (Some line) ws all = sym (ap (find is_past) (lengths_with line.0 line.1 ws all))

-- the numbers that were computed for a step
pub record AreBrought (m : Meaning) (s : Base) (now : Moment) (what : StepKind) (steps messages dumps bundle outs : ℕ) : Type 0 where
  pub step : steps ≡ capped (s.steps + 1)
  pub message : messages ≡ up_to_spent ((s.next_message + min (messages_by m s now what) last_u64) - 1)
  pub dump : dumps ≡ up_to_spent ((s.next_dump + dumps_by what) - 1)
  pub bundles : bundle ≡ capped (s.bundle_no + bundles_by what)
  pub out : outs ≡ capped ((length s.outs + length (new_writers (bots_coming m what) s.outs)) - 1)

module _ (m : Meaning) (s : Base) (now : Moment) (what : StepKind) (ws : List Written) (is : s.outs ≡ outs_of ws) (all : HaveLengths ws) (steps messages dumps bundle outs : ℕ) (b : AreBrought m s now what steps messages dumps bundle outs) where
  whole : spent m s (record { moment = now; what = what }) ≡ option_or (find is_past (steps ∷ messages ∷ dumps ∷ bundle ∷ outs ∷ [])) (find is_past (map (λ w. w.length) (with_line (line_by s what) ws)))
  whole =
      let message : capped (up_to_spent ((s.next_message + messages_by m s now what) - 1)) ≡ messages = omega (arith, b.message) in
      let dump : capped (up_to_spent ((s.next_dump + dumps_by what) - 1)) ≡ dumps = omega (arith, b.dump) in
      let rest = map capped (map out_length (outs_by (bots_coming m what) (line_of s what) s.outs)) in
      ap (λ l. find is_past (map capped l)) (brought_is m s now what)
      ∙ (λ i. find is_past (sym b.step i ∷ message i ∷ dump i ∷ sym b.bundles i ∷ sym b.out i ∷ rest))
      ∙ find-append is_past (steps ∷ messages ∷ dumps ∷ bundle ∷ outs ∷ []) rest
      ∙ ap (option_or (find is_past (steps ∷ messages ∷ dumps ∷ bundle ∷ outs ∷ [])))
      (ap (λ l. find is_past (map capped (map out_length (outs_by (bots_coming m what) (line_of s what) l)))) is ∙ lengths_by (bots_coming m what) (line_of s what) ws all)

  pub by_numbers : (n : ℕ) → find is_past (steps ∷ messages ∷ dumps ∷ bundle ∷ outs ∷ []) ≡ Some n → Some n ≡ spent m s (record { moment = now; what = what })
  by_numbers n found = sym (whole ∙ ap (λ o. option_or o (find is_past (map (λ w. w.length) (with_line (line_by s what) ws)))) found)

  pub by_lengths : (r : Option ℕ) → find is_past (steps ∷ messages ∷ dumps ∷ bundle ∷ outs ∷ []) ≡ None → r ≡ find is_past (map (λ w. w.length) (with_line (line_by s what) ws)) → r ≡ spent m s (record { moment = now; what = what })
  by_lengths r none long = long ∙ sym (whole ∙ ap (λ o. option_or o (find is_past (map (λ w. w.length) (with_line (line_by s what) ws)))) none)

-- the first length past the last one, by the place of the bot's output
pub by_place : (line : Option (List ℕ × ℕ)) (bot : List ℕ) (bytes : ℕ) (ws : List Written) (i : ℕ) (r : Option ℕ) → line ≡ Some (bot, bytes) → position (is_written_by bot) ws ≡ Some i
    → ((d : Written) → r ≡ option_or (find is_past (map (λ w. w.length) (take i ws))) (option_or (find is_past (min ((get_or ws i d).length + (bytes + 1)) last_u64 ∷ [])) (find is_past (map (λ w. w.length) (drop (i + 1) ws)))))
    → r ≡ find is_past (map (λ w. w.length) (with_line line ws))
by_place line bot bytes [] i r is place answer = absurd (cc)
by_place line bot bytes (w ∷ ws) i r is place answer =
    answer w ∙ sym (ap (λ l. find is_past (map (λ w. w.length) (with_line l (w ∷ ws)))) is
    ∙ first_changed (is_written_by bot) (λ w. record w { length = min (w.length + (bytes + 1)) last_u64 }) (λ w. w.length) (w ∷ ws) i w (first_at (is_written_by bot) (w ∷ ws) i place))

pub by_no_place : (line : Option (List ℕ × ℕ)) (bot : List ℕ) (bytes : ℕ) (ws : List Written) (r : Option ℕ) → line ≡ Some (bot, bytes) → position (is_written_by bot) ws ≡ None
    → r ≡ find is_past (map (λ w. w.length) ws) → r ≡ find is_past (map (λ w. w.length) (with_line line ws))
by_no_place line bot bytes ws r is none answer =
    answer ∙ sym (ap (λ l. find is_past (map (λ w. w.length) (with_line l ws))) is
    ∙ ap (λ l. find is_past (map (λ w. w.length) l)) (changed_missing (is_written_by bot) (λ w. record w { length = min (w.length + (bytes + 1)) last_u64 }) ws none))
