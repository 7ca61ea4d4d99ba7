-- What the core asks of the parts of a state, in the forms that steps keep.
use Rattle.std.proofs.Common.{◌≡◌, ◌≤◌, ◌<◌, ℕ, false, List, map, filter}
use Rattle.std.specs.List.{AllByRecursion}
use Rattle.std.specs.Str.{bytes_eq}
use Rattle.base_types.specs.Lists.{IsIn}
use Rattle.stored_types.specs.declared.hand.Hand.{Hand}
use Rattle.stored_types.specs.declared.mark.Mark.{Mark}
use Rattle.stored_types.specs.declared.message.Dump.{Dump}
use Rattle.stored_types.specs.declared.queue.Queue.{Queue}
use Rattle.step_code.specs.declared.cache.BotCache.{BotCache}
use Rattle.step_code.specs.declared.feed.Feed.{Feed}
use Rattle.step_code.specs.declared.output.Output.{Output}
use Rattle.step_code.specs.declared.rules.Facts.{Facts}
use Rattle.step_code.specs.Content.{longest_feed}
use Rattle.step_code.specs.Rules.{collects, last_moment, writes}
use Rattle.step_code.specs.Sound.{IsSoundHand, is_same_hand}
use Rattle.history_laws.proofs.Pairs.{Pairwise}

-- no two have one name
abbrev pub AreNamed : {A : Type 0} → (A → List ℕ) → List A → Type 0
AreNamed name xs = Pairwise (λ x y. bytes_eq (name x) (name y) ≡ false) xs

abbrev pub names_of : List Queue → List (List ℕ)
names_of queues = map (λ q. q.name) queues

pub record AreHands (bots : List Facts) (queues : List (List ℕ)) (hands : List Hand) : Type 0 where
  pub apart : Pairwise (λ a b. is_same_hand a b ≡ false) hands
  pub each : AllByRecursion (IsSoundHand bots queues) hands
  pub past : AllByRecursion (λ h. h.since.0 ≤ last_moment) hands

-- another key, and no later moment
abbrev pub IsBefore : Mark → Mark → Type 0
IsBefore a b = (bytes_eq a.key b.key ≡ false) × (a.moment.0 ≤ b.moment.0)

pub record AreMarks (latest : ℕ) (marks : List Mark) : Type 0 where
  pub order : Pairwise IsBefore marks
  pub past : AllByRecursion (λ mark. mark.moment.0 ≤ latest) marks

pub record AreCaches (latest : ℕ) (caches : List BotCache) : Type 0 where
  pub apart : AreNamed (λ (c : BotCache). c.bot) caches
  pub each : AllByRecursion (λ c. AreMarks latest c.marks) caches

-- no step seals a line
pub record AreOuts (bots : List Facts) (outs : List Output) : Type 0 where
  pub apart : AreNamed (λ (o : Output). o.bot) outs
  pub unsealed : AllByRecursion (λ o. (o.sealed_bytes ≡ 0) × (o.sealed_lines ≡ 0)) outs
  pub there : AllByRecursion (λ f. IsIn f.bot (map (λ o. o.bot) outs)) (filter writes bots)

-- no round is past this one
pub record AreFeeds (bots : List Facts) (last : ℕ) (feeds : List Feed) : Type 0 where
  pub apart : AreNamed (λ (f : Feed). f.bot) feeds
  pub small : AllByRecursion (λ f. (f.round ≤ last) × (f.position ≤ longest_feed)) feeds
  pub there : AllByRecursion (λ f. IsIn f.bot (map (λ feed. feed.bot) feeds)) (filter collects bots)

pub record AreDumps (next : ℕ) (dumps : List Dump) : Type 0 where
  pub some : 1 ≤ next
  pub order : Pairwise (λ (a : Dump) (b : Dump). a.no < b.no) dumps
  pub each : AllByRecursion (λ d. (1 ≤ d.no) × (d.no < next) × (d.moment.0 ≤ last_moment)) dumps
