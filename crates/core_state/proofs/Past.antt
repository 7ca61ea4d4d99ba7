-- What a message of a bot does to a cache leaves none of its marks later than the moment.
use Rattle.std.proofs.Common.{◌≤◌, ◌-◌, ℕ, suc, nat_lt, List, [], ◌∷◌, ◌++◌, length, Option, Some, None, arith}
use Rattle.std.specs.List.{AllByRecursion}
use Rattle.std.proofs.lemmas.List.Elements.{All-drop, All-filter, All-push}
use Rattle.base_types.specs.declared.message.Moment.{Moment}
use Rattle.base_types.proofs.Everywhere.{all_changed, all_changed_or_added}
use Rattle.stored_types.specs.declared.mark.Mark.{Mark}
use Rattle.stored_types.specs.Mark.{fresh, trimmed}
use Rattle.step_code.specs.declared.cache.BotCache.{BotCache}
use Rattle.step_code.specs.declared.rules.CacheRule.{CacheRule}
use Rattle.step_code.specs.After.{cached, marked}
use Rattle.step_code.specs.State.{is_cache}
use Rattle.dedup_cache.specs.Cache.{ArePast}

module _ (now : Moment) where
  pub past_fresh : (ttl : ℕ) (marks : List Mark) → ArePast now.0 marks → ArePast now.0 (fresh ttl now.0 marks)
  past_fresh ttl marks past = All-filter (λ (m : Mark). nat_lt (now.0 - m.moment.0) ttl) (λ m. m.moment.0 ≤ now.0) marks past

  pub past_trimmed : (below : ℕ) (marks : List Mark) → ArePast now.0 marks → ArePast now.0 (trimmed below marks)
  past_trimmed below marks past = All-drop (λ (m : Mark). m.moment.0 ≤ now.0) (suc (length marks) - below) marks past

  past_added : (key : List ℕ) (marks : List Mark) → ArePast now.0 marks → ArePast now.0 (marks ++ record { key = key; moment = now } ∷ [])
  past_added key marks past =
      let last : now.0 ≤ now.0 = omega arith in
      All-push (λ (m : Mark). m.moment.0 ≤ now.0) marks (record { key = key; moment = now }) past last

  past_marked : (rule : CacheRule) (key : List ℕ) (marks : List Mark) → ArePast now.0 marks → ArePast now.0 (marked rule now key marks)
  past_marked rule key marks past = past_added key (trimmed rule.cache_max (fresh rule.ttl now.0 marks)) (past_trimmed rule.cache_max (fresh rule.ttl now.0 marks) (past_fresh rule.ttl marks past))

  pub past_cached : (rule : Option CacheRule) (bot : List ℕ) (key : Option (List ℕ)) (caches : List BotCache) → AllByRecursion (λ c. ArePast now.0 c.marks) caches
      → AllByRecursion (λ c. ArePast now.0 c.marks) (cached rule bot now key caches)
  past_cached None bot key caches past = past
  past_cached (Some rule) bot None caches past =
      all_changed (λ (c : BotCache). ArePast now.0 c.marks) (is_cache bot) (λ c. record c { marks = fresh rule.ttl now.0 c.marks }) caches (λ c. past_fresh rule.ttl c.marks) past
  past_cached (Some rule) bot (Some key) caches past =
      all_changed_or_added (λ (c : BotCache). ArePast now.0 c.marks) (is_cache bot) (λ c. record c { marks = marked rule now key c.marks }) (record { bot = bot; marks = record { key = key; moment = now } ∷ [] }) caches
      (past_added key [] (λ k d inside. absurd (omega (arith, inside)))) (λ c. past_marked rule key c.marks) past
