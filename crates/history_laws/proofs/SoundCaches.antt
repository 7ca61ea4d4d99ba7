-- Caches stay sound: a key is marked only where no mark of it counts, and moments don't fall.
use Rattle.std.proofs.Common.{◌≡◌, ◌≤◌, ℕ, suc, ◌-◌, false, nat_lt, List, [], ◌∷◌, ◌++◌, length, option_map, unwrap_or, Option, Some, None, sym, ◌∙◌, ap, arith}
use Rattle.std.specs.List.{AllByRecursion}
use Rattle.std.specs.Str.{bytes_eq}
use Rattle.base_types.specs.declared.message.Moment.{Moment}
use Rattle.base_types.proofs.Everywhere.{all-append, all_found, all_wider}
use Rattle.stored_types.specs.declared.mark.Mark.{Mark}
use Rattle.stored_types.specs.Mark.{fresh, is_marked, trimmed}
use Rattle.step_code.specs.declared.base.Base.{Base}
use Rattle.step_code.specs.declared.cache.BotCache.{BotCache}
use Rattle.step_code.specs.declared.rules.CacheRule.{CacheRule}
use Rattle.step_code.specs.After.{cached, marked}
use Rattle.step_code.specs.Content.{live_marks}
use Rattle.step_code.specs.Rules.{passes}
use Rattle.step_code.specs.State.{is_cache}
use Rattle.history_laws.proofs.Pairs.{all-drop, all-filter, all_added_found, all_both, all_changed_found, all_fail_any, pairs-added, pairs-append, pairs-changed, pairs-drop, pairs-filter}
use Rattle.history_laws.proofs.SoundParts.{AreCaches, AreMarks, IsBefore}

none_marked : (key : List ℕ) (marks : List Mark) → is_marked key marks ≡ false → AllByRecursion (λ mark. bytes_eq mark.key key ≡ false) marks
none_marked key marks none = all_fail_any (λ (mark : Mark). bytes_eq mark.key key) marks none

module _ (latest : ℕ) where
  marks_fresh : (ttl now : ℕ) (marks : List Mark) → AreMarks latest marks → AreMarks latest (fresh ttl now marks)
  marks_fresh ttl now marks sound = record {
    order = pairs-filter IsBefore (λ mark. nat_lt (now - mark.moment.0) ttl) marks sound.order;
    past = all-filter (λ mark. mark.moment.0 ≤ latest) (λ mark. nat_lt (now - mark.moment.0) ttl) marks sound.past;
  }

  marks_trimmed : (below : ℕ) (marks : List Mark) → AreMarks latest marks → AreMarks latest (trimmed below marks)
  marks_trimmed below marks sound = record {
    order = pairs-drop IsBefore (suc (length marks) - below) marks sound.order;
    past = all-drop (λ mark. mark.moment.0 ≤ latest) (suc (length marks) - below) marks sound.past;
  }

module _ (now : Moment) (key : List ℕ) where
  abbrev new : Mark
  new = record { key = key; moment = now }

  marks_added : (marks : List Mark) → AreMarks now.0 marks → AllByRecursion (λ mark. bytes_eq mark.key key ≡ false) marks → AreMarks now.0 (marks ++ new ∷ [])
  marks_added marks sound others =
      let now_last : now.0 ≤ now.0 = omega arith in
      record {
        order = pairs-append IsBefore marks (new ∷ []) sound.order (tt, tt)
            (all_both (λ mark. bytes_eq mark.key key ≡ false) (λ mark. mark.moment.0 ≤ now.0) (λ mark. AllByRecursion (IsBefore mark) (new ∷ [])) marks (λ mark other past. ((other, past), tt)) others sound.past);
        past = all-append (λ mark. mark.moment.0 ≤ now.0) marks (new ∷ []) sound.past (now_last, tt);
      }

  marks_marked : (rule : CacheRule) (marks : List Mark) → AreMarks now.0 marks → is_marked key (fresh rule.ttl now.0 marks) ≡ false → AreMarks now.0 (marked rule now key marks)
  marks_marked rule marks sound none =
      let live = fresh rule.ttl now.0 marks in
      marks_added (trimmed rule.cache_max live) (marks_trimmed now.0 rule.cache_max live (marks_fresh now.0 rule.ttl now.0 marks sound))
      (all-drop (λ mark. bytes_eq mark.key key ≡ false) (suc (length live) - rule.cache_max) live (none_marked key live none))

-- later than a latest moment is later than one before it
pub caches_later : (latest now : ℕ) (caches : List BotCache) → latest ≤ now → AreCaches latest caches → AreCaches now caches
caches_later latest now caches later sound = record {
  apart = sound.apart;
  each = all_wider (λ (c : BotCache). AreMarks latest c.marks) (λ (c : BotCache). AreMarks now c.marks) caches (λ c marks. record {
    order = marks.order;
    past = all_wider (λ (mark : Mark). mark.moment.0 ≤ latest) (λ (mark : Mark). mark.moment.0 ≤ now) c.marks (λ mark past. omega (arith, past, later)) marks.past;
  }) sound.each;
}

abbrev differ : BotCache → BotCache → Type 0
differ a b = bytes_eq a.bot b.bot ≡ false

-- after a message of a bot whose key is no duplicate
pub caches_after : (rule : Option CacheRule) (bot : List ℕ) (now : Moment) (key : Option (List ℕ)) (s : Base) → AreCaches now.0 s.caches
    → passes (λ k. is_marked k (live_marks rule bot now.0 s)) key ≡ false → AreCaches now.0 (cached rule bot now key s.caches)
caches_after None bot now key s sound none = sound
caches_after (Some rule) bot now None s sound none =
    let change : BotCache → BotCache = λ c. record c { marks = fresh rule.ttl now.0 c.marks } in
    record {
      apart = pairs-changed differ (is_cache bot) change (λ a b other. other) (λ a b other. other) s.caches sound.apart;
      each = all_changed_found (λ (c : BotCache). AreMarks now.0 c.marks) (is_cache bot) change s.caches sound.each (λ c found.
          marks_fresh now.0 rule.ttl now.0 c.marks (all_found (λ (c : BotCache). AreMarks now.0 c.marks) (is_cache bot) s.caches c sound.each found));
    }
caches_after (Some rule) bot now (Some key) s sound none =
    let change : BotCache → BotCache = λ c. record c { marks = marked rule now key c.marks } in
    let made : BotCache = record { bot = bot; marks = record { key = key; moment = now } ∷ [] } in
    record {
      apart = pairs-added differ (is_cache bot) change (λ a b other. other) (λ a b other. other) made (λ c other. other) s.caches sound.apart;
      each = all_added_found (λ (c : BotCache). AreMarks now.0 c.marks) (is_cache bot) change made s.caches (marks_added now key [] (record { order = tt; past = tt }) tt) sound.each (λ c found.
          marks_marked now key rule c.marks (all_found (λ (c : BotCache). AreMarks now.0 c.marks) (is_cache bot) s.caches c sound.each found)
          (ap (λ o. is_marked key (fresh rule.ttl now.0 (unwrap_or (option_map (λ (c : BotCache). c.marks) o) []))) (sym found) ∙ none));
    }
