-- What a cache keeps, where the oldest mark leaves and where one comes.
use Rattle.std.proofs.Common.{◌≡◌, ◌-◌, ℕ, false, cond, List, [], ◌∷◌, ◌++◌, length, Some, None, sym, ◌∙◌, ap, subst, arith}
use Rattle.std.specs.Str.{bytes_eq}
use Rattle.std.proofs.lemmas.List.Sorted.{IsNonDecreasingBy-drop, IsNonDecreasingBy-push, IsNonDecreasingBy-short}
use Rattle.std.proofs.lemmas.Map.Keys.{IsDistinct-tail}
use Rattle.base_types.specs.declared.message.Moment.{Moment}
use Rattle.stored_types.specs.declared.mark.Mark.{Mark}
use Rattle.stored_types.specs.Mark.{is_marked}
use Rattle.dedup_cache.specs.declared.moments.Moments.{Moments}
use Rattle.dedup_cache.specs.Cache.{ArePast, DoNotFall, HaveOwnKeys}
use Rattle.dedup_cache.specs.Kept.{found, moment_of, Changes, KeepMarks}
use Rattle.dedup_cache.proofs.Keys.{moment_popped, moment_pushed, no_keys, own_keys_pushed}

module _ (old new : Moments) where
  -- the oldest mark leaves, and its key has no moment any more
  pub kept_popped : (m : Mark) (marks : List Mark) → KeepMarks (m ∷ marks) old → Changes m.key None old new → KeepMarks marks new
  kept_popped m marks kept changes = record {
    order = IsNonDecreasingBy-drop (λ (x : Mark). x.moment.0) 1 (m ∷ marks) kept.order;
    keys = IsDistinct-tail bytes_eq m.key _ kept.keys;
    same = λ key. changes key ∙ ap (cond (bytes_eq m.key key) None) (kept.same key) ∙ sym (moment_popped key m marks kept.keys);
  }

  -- a new key is marked, and has the moment
  pub kept_pushed : (key : List ℕ) (now : Moment) (marks : List Mark) → KeepMarks marks old → is_marked key marks ≡ false → ArePast now.0 marks → Changes key (Some now) old new
      → KeepMarks (marks ++ record { key = key; moment = now } ∷ []) new
  kept_pushed key now marks kept none past changes =
      let mark : Mark = record { key = key; moment = now } in
      record {
        order = IsNonDecreasingBy-push (λ (x : Mark). x.moment.0) marks mark kept.order (λ d some. past (length marks - 1) d (omega (arith, some)));
        keys = own_keys_pushed key now marks kept.keys none;
        same = λ k. changes k ∙ ap (cond (bytes_eq key k) (Some now)) (kept.same k) ∙ sym (moment_pushed k key now marks none);
      }

  -- all keys have the moments that they had
  pub kept_same : (marks : List Mark) → KeepMarks marks old → ((key : List ℕ) → found key new ≡ found key old) → KeepMarks marks new
  kept_same marks kept same = record { order = kept.order; keys = kept.keys; same = λ key. same key ∙ kept.same key }

-- no marks, and no moments
pub kept_none : (marks : List Mark) (moments : Moments) → marks ≡ [] → ((key : List ℕ) → found key moments ≡ None) → KeepMarks marks moments
kept_none marks moments none empty = record {
  order = subst DoNotFall (sym none) (IsNonDecreasingBy-short (λ (x : Mark). x.moment.0) [] (omega arith));
  keys = subst HaveOwnKeys (sym none) no_keys;
  same = λ key. empty key ∙ sym (ap (moment_of key) none);
}
