-- Outputs and feeds stay sound.
use Rattle.std.proofs.Common.{◌≡◌, ◌≤◌, ◌&&◌, ℕ, ◌+◌, Bool, true, false, not, List, [], ◌∷◌, ◌++◌, map, filter, refl, sym, ◌∙◌, ap, subst, arith, if◌then◌else◌}
use Rattle.std.specs.List.{AllByRecursion, list_any}
use Rattle.std.specs.Str.{bytes_eq}
use Rattle.base_types.specs.Lists.{IsIn, changed}
use Rattle.base_types.proofs.Everywhere.{all-append, all_changed, all_found, all_wider}
use Rattle.step_code.specs.declared.feed.Feed.{Feed}
use Rattle.step_code.specs.declared.output.Output.{Output}
use Rattle.step_code.specs.declared.rules.Facts.{Facts}
use Rattle.step_code.specs.After.{keeps_file, next_round, renewed, with_feeds, with_outs, written}
use Rattle.step_code.specs.Content.{longest_feed}
use Rattle.step_code.specs.Rules.{AreSound, collects, is_collector, writes}
use Rattle.step_code.specs.State.{is_feed, is_out, new_feed, new_out}
use Rattle.history_laws.proofs.Counts.{map-changed}
use Rattle.history_laws.proofs.Pairs.{all-map, all_changed_found, pairs-changed, pairs-map}
use Rattle.history_laws.proofs.SoundNames.{entries_apart, entries_there, first_apart, first_there}
use Rattle.history_laws.proofs.SoundParts.{AreFeeds, AreOuts}

-- outputs

abbrev bot_of_out : Output → List ℕ
bot_of_out o = o.bot

abbrev IsUnsealed : Output → Type 0
IsUnsealed o = (o.sealed_bytes ≡ 0) × (o.sealed_lines ≡ 0)

new_unsealed : (bots : List Facts) → AllByRecursion IsUnsealed (map new_out bots)
new_unsealed [] = tt
new_unsealed (f ∷ bots) = ((refl, refl), new_unsealed bots)

pub first_outs : (bots : List Facts) → AreSound bots → AreOuts bots (map new_out (filter writes bots))
first_outs bots sound = record {
  apart = first_apart bot_of_out new_out (λ f. refl) writes bots sound;
  unsealed = new_unsealed (filter writes bots);
  there = first_there bot_of_out new_out (λ f. refl) writes bots;
}

pub outs_written : (bots : List Facts) (outs : List Output) (line : Bool) (bot body : List ℕ) → AreOuts bots outs → AreOuts bots (written line bot body outs)
outs_written bots outs true bot body sound =
    let change : Output → Output = λ o. record o { lines = o.lines ++ body ∷ [] } in
    record {
      apart = pairs-changed (λ (a b : Output). bytes_eq a.bot b.bot ≡ false) (is_out bot) change (λ a b other. other) (λ a b other. other) outs sound.apart;
      unsealed = all_changed IsUnsealed (is_out bot) change outs (λ o was. was) sound.unsealed;
      there = subst (λ names. AllByRecursion (λ (f : Facts). IsIn f.bot names) (filter writes bots)) (sym (map-changed bot_of_out (is_out bot) change outs (λ o. refl))) sound.there;
    }
outs_written bots outs false bot body sound = sound

pub outs_reloaded : (old new : List Facts) (outs : List Output) → AreSound new → AreOuts old outs → AreOuts new (with_outs new outs)
outs_reloaded old new outs plan sound = record {
  apart = entries_apart bot_of_out new_out (λ f. refl) writes new outs plan sound.apart;
  unsealed = all-append IsUnsealed outs (map new_out (filter (λ f. writes f && not (list_any (is_out f.bot) outs)) new)) sound.unsealed
      (new_unsealed (filter (λ f. writes f && not (list_any (is_out f.bot) outs)) new));
  there = entries_there bot_of_out new_out (λ f. refl) writes new outs;
}

-- feeds

abbrev bot_of_feed : Feed → List ℕ
bot_of_feed f = f.bot

abbrev IsSmall : ℕ → Feed → Type 0
IsSmall last f = (f.round ≤ last) × (f.position ≤ longest_feed)

new_small : (last : ℕ) (bots : List Facts) → 1 ≤ last → AllByRecursion (IsSmall last) (map new_feed bots)
new_small last [] some = tt
new_small last (f ∷ bots) some = let nothing : 0 ≤ longest_feed = omega arith in ((some, nothing), new_small last bots some)

pub first_feeds : (last : ℕ) (bots : List Facts) → 1 ≤ last → AreSound bots → AreFeeds bots last (map new_feed (filter collects bots))
first_feeds last bots some sound = record {
  apart = first_apart bot_of_feed new_feed (λ f. refl) collects bots sound;
  small = new_small last (filter collects bots) some;
  there = first_there bot_of_feed new_feed (λ f. refl) collects bots;
}

pub small_later : (last : ℕ) (f : Feed) → IsSmall last f → IsSmall (last + 1) f
small_later last f small = let round : f.round ≤ last + 1 = omega (arith, small.0) in (round, small.1)

pub feeds_later : (bots : List Facts) (last : ℕ) (feeds : List Feed) → AreFeeds bots last feeds → AreFeeds bots (last + 1) feeds
feeds_later bots last feeds sound = record { apart = sound.apart; small = all_wider (IsSmall last) (IsSmall (last + 1)) feeds (small_later last) sound.small; there = sound.there }

pub feeds_changed : (bots : List Facts) (last : ℕ) (feeds : List Feed) (bot : List ℕ) (change : Feed → Feed) → ((f : Feed) → (change f).bot ≡ f.bot) → ((f : Feed) → IsSmall last f → IsSmall (last + 1) (change f))
    → AreFeeds bots last feeds → AreFeeds bots (last + 1) (changed (is_feed bot) change feeds)
feeds_changed bots last feeds bot change same keeps sound = record {
  apart = pairs-changed (λ (a b : Feed). bytes_eq a.bot b.bot ≡ false) (is_feed bot) change
      (λ a b other. ap (λ name. bytes_eq name b.bot) (same a) ∙ other) (λ a b other. ap (bytes_eq a.bot) (same b) ∙ other) feeds sound.apart;
  small = all_changed_found (IsSmall (last + 1)) (is_feed bot) change feeds (all_wider (IsSmall last) (IsSmall (last + 1)) feeds (small_later last) sound.small)
      (λ f found. keeps f (all_found (IsSmall last) (is_feed bot) feeds f sound.small found));
  there = subst (λ names. AllByRecursion (λ (f : Facts). IsIn f.bot names) (filter collects bots)) (sym (map-changed bot_of_feed (is_feed bot) change feeds same)) sound.there;
}

pub round_small : (last : ℕ) (f : Feed) → IsSmall last f → IsSmall (last + 1) (next_round f)
round_small last f small = let round : f.round + 1 ≤ last + 1 = omega (arith, small.0) in let nothing : 0 ≤ longest_feed = omega arith in (round, nothing)

renewed_small : (again : Bool) (last : ℕ) (f : Feed) → IsSmall last f → IsSmall (last + 1) (if again then next_round f else f)
renewed_small true last f small = round_small last f small
renewed_small false last f small = small_later last f small

module _ (old new : List Facts) (last : ℕ) where
  same_bot : (f : Feed) → (renewed old new f).bot ≡ f.bot
  same_bot f = either (is_collector new f.bot && not (keeps_file old new f.bot))
    where
      either : (b : Bool) → (if b then next_round f else f).bot ≡ f.bot
      either true = refl
      either false = refl

  pub feeds_reloaded : (feeds : List Feed) → 1 ≤ last → AreSound new → AreFeeds old last feeds → AreFeeds new (last + 1) (with_feeds new (map (renewed old new) feeds))
  feeds_reloaded feeds some plan sound =
      let begun = map (renewed old new) feeds in
      let later : 1 ≤ last + 1 = omega arith in
      record {
        apart = entries_apart bot_of_feed new_feed (λ f. refl) collects new begun plan
            (pairs-map (λ (a b : Feed). bytes_eq a.bot b.bot ≡ false) (λ (a b : Feed). bytes_eq a.bot b.bot ≡ false) (renewed old new) feeds
            (λ a b other. (λ k. bytes_eq (same_bot a k) (same_bot b k)) ∙ other) sound.apart);
        small = all-append (IsSmall (last + 1)) begun (map new_feed (filter (λ f. collects f && not (list_any (is_feed f.bot) begun)) new))
            (all-map (IsSmall (last + 1)) (renewed old new) feeds
            (all_wider (IsSmall last) (λ f. IsSmall (last + 1) (renewed old new f)) feeds (λ f. renewed_small (is_collector new f.bot && not (keeps_file old new f.bot)) last f) sound.small))
            (new_small (last + 1) (filter (λ f. collects f && not (list_any (is_feed f.bot) begun)) new) later);
        there = entries_there bot_of_feed new_feed (λ f. refl) collects new begun;
      }
