-- What makes a state sound, as tests that compute.
use Rattle.std.specs.Prelude.{◌&&◌, ◌||◌, ℕ, Bool, true, not, eqb, nat_le, nat_lt, List, [], ◌∷◌, length, map}
use Rattle.std.specs.List.{list_all, list_any}
use Rattle.std.specs.Str.{bytes_eq}
use Rattle.stored_types.specs.declared.message.Dump.{Dump}
use Rattle.step_code.specs.declared.base.Base.{Base}
use Rattle.step_code.specs.declared.cache.BotCache.{BotCache}
use Rattle.step_code.specs.declared.feed.Feed.{Feed}
use Rattle.stored_types.specs.declared.hand.Hand.{Hand}
use Rattle.step_code.specs.declared.output.Output.{Output}
use Rattle.stored_types.specs.declared.queue.Queue.{Queue}
use Rattle.step_code.specs.declared.rules.Facts.{Facts}
use Rattle.step_code.specs.Places.{standing}
use Rattle.step_code.specs.Rules.{collects, writes, last_moment}
use Rattle.step_code.specs.Sound.{is_same_hand, last_number, longest_base, most_tries}
use Rattle.step_code.specs.State.{is_instance, is_feed, is_out}
use Rattle.stored_types.specs.Queue.{is_queue}
use Rattle.base_types.specs.Name.{queue_name}
use Rattle.step_code.specs.Code.{code_of_base, first_format}

-- no item is the same as one after it
abbrev pub are_distinct : {A : Type 0} → (A → A → Bool) → List A → Bool
are_distinct same [] = true
are_distinct same (x ∷ xs) = not (list_any (same x) xs) && are_distinct same xs

-- from n on, no number is below the one before it
abbrev pub do_not_fall : ℕ → List ℕ → Bool
do_not_fall n [] = true
do_not_fall n (m ∷ ms) = nat_le n m && do_not_fall m ms

-- from n on, each number is above the one before it
abbrev pub rise : ℕ → List ℕ → Bool
rise n [] = true
rise n (m ∷ ms) = nat_lt n m && rise m ms

abbrev pub names_differ : Base → Bool
names_differ b =
    are_distinct bytes_eq (map (λ q. q.name) b.queues) && are_distinct bytes_eq (map (λ c. c.bot) b.caches) && are_distinct bytes_eq (map (λ o. o.bot) b.outs)
    && are_distinct bytes_eq (map (λ f. f.bot) b.feeds) && are_distinct bytes_eq b.halted

-- the bytes that tell an instance's hand from another's
abbrev pub hand_key : Hand → List ℕ
hand_key h = h.instance ∷ h.bot

abbrev pub is_sound_hand : List Facts → List Queue → Hand → Bool
is_sound_hand bots queues h = is_instance bots h.bot h.instance && list_any (is_queue (queue_name h.bot)) queues && nat_le h.tries most_tries

abbrev pub hands_are_sound : List Facts → Base → Bool
hands_are_sound bots b = are_distinct is_same_hand b.hands && list_all (is_sound_hand bots b.queues) b.hands

abbrev pub is_sound_cache : ℕ → BotCache → Bool
is_sound_cache latest c = are_distinct bytes_eq (map (λ mark. mark.key) c.marks) && do_not_fall 0 (map (λ mark. mark.moment.0) c.marks) && list_all (λ mark. nat_le mark.moment.0 latest) c.marks

-- numbers from 1 on and below the next one, none of them twice
abbrev pub are_apart_below : ℕ → List ℕ → Bool
are_apart_below next numbers = list_all (λ n. nat_lt n next) numbers && list_all (λ n. nat_lt 0 n) numbers && are_distinct eqb numbers

abbrev pub dumps_are_sound : ℕ → List Dump → Bool
dumps_are_sound next dumps = rise 0 (map (λ d. d.no) dumps) && list_all (λ d. nat_lt d.no next) dumps

-- each collector has its feed, and each bot that writes its output
abbrev pub has_feed : List Feed → Facts → Bool
has_feed feeds f = not (collects f) || list_any (is_feed f.bot) feeds

abbrev pub has_output : List Output → Facts → Bool
has_output outs f = not (writes f) || list_any (is_out f.bot) outs

abbrev pub bots_have_places : List Facts → Base → Bool
bots_have_places bots b = list_all (has_feed b.feeds) bots && list_all (has_output b.outs) bots

abbrev pub is_within : ℕ → Bool
is_within n = nat_le n last_number

abbrev pub counts_are_within : Base → Bool
counts_are_within b = nat_le 1 b.next_message && nat_le 1 b.next_dump && nat_le b.latest.0 last_moment && is_within b.steps && is_within b.next_message && is_within b.next_dump && is_within b.discarded && is_within b.bundle_no

-- the numbers that no other test bounds
abbrev pub parts_are_within : Base → Bool
parts_are_within b =
    list_all (λ h. is_within h.since.0) b.hands && list_all (λ d. is_within d.moment.0) b.dumps && list_all (λ o. is_within o.sealed_bytes && is_within o.sealed_lines) b.outs
    && list_all (λ f. is_within f.round && is_within f.position) b.feeds

-- the state is sound under these bots, whatever the length of its code
abbrev pub is_sound_but_length : List Facts → Base → Bool
is_sound_but_length bots b =
    counts_are_within b && parts_are_within b && names_differ b && hands_are_sound bots b && list_all (is_sound_cache b.latest.0) b.caches
    && are_apart_below b.next_message (standing b) && dumps_are_sound b.next_dump b.dumps && bots_have_places bots b

abbrev pub is_short : Base → Bool
is_short b = nat_le (length (code_of_base first_format b)) longest_base

abbrev pub is_sound_under : List Facts → Base → Bool
is_sound_under bots b = is_sound_but_length bots b && is_short b
