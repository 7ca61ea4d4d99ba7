-- Keys of marks: which are marked, and when.
use Rattle.std.proofs.Common.{◌≡◌, ◌<◌, ◌-◌, ◌||◌, ℕ, zero, suc, Bool, true, false, true≢false, cond, nat_lt, is_some, List, [], ◌∷◌, ◌++◌, length, get_or, map, take, drop, filter, Option, Some, None, refl, sym, ◌∙◌, ap, subst, arith}
use Rattle.std.specs.Cmp.Lexicographic.{bytes_decides, nat_list_eq_equiv}
use Rattle.std.specs.List.{AllByRecursion, IsDistinct, list_any}
use Rattle.std.specs.Str.{bytes_eq}
use Rattle.std.proofs.lemmas.List.{map-append}
use Rattle.std.proofs.lemmas.Map.Keys.{IsDistinct-head, IsDistinct-push, IsDistinct-tail}
use Rattle.base_types.specs.declared.message.Moment.{Moment}
use Rattle.stored_types.specs.declared.mark.Mark.{Mark}
use Rattle.stored_types.specs.Mark.{fresh, is_marked}
use Rattle.dedup_cache.specs.Cache.{HaveOwnKeys}
use Rattle.dedup_cache.specs.Kept.{moment_of}

-- neither of two tests passes where one of them does not
either_fails : (a b : Bool) → (a || b) ≡ false → (a ≡ false) × (b ≡ false)
either_fails true b fails = absurd (cc)
either_fails false b fails = (refl, fails)

module _ (key : List ℕ) where
  abbrev AreOthers : List Mark → Type 0
  AreOthers marks = AllByRecursion (λ (m : Mark). bytes_eq key m.key ≡ false) marks

  -- the key is not marked where each mark has another
  others_unmarked : (marks : List Mark) → AreOthers marks → is_marked key marks ≡ false
  others_unmarked [] others = refl
  others_unmarked (m ∷ marks) others = rw (nat_list_eq_equiv.symm m.key key ∙ others.0) (others_unmarked marks others.1)

  -- nor among fewer marks
  unmarked_filter : (p : Mark → Bool) (marks : List Mark) → is_marked key marks ≡ false → is_marked key (filter p marks) ≡ false
  unmarked_filter p [] none = refl
  unmarked_filter p (m ∷ marks) none =
      let both = either_fails (bytes_eq m.key key) (is_marked key marks) none in
      go (p m) both.0 (unmarked_filter p marks both.1)
    where
      go : (b : Bool) → bytes_eq m.key key ≡ false → is_marked key (filter p marks) ≡ false → is_marked key (cond b (m ∷ filter p marks) (filter p marks)) ≡ false
      go true other rest = rw other rest
      go false other rest = rest

  pub unmarked_drop : (n : ℕ) (marks : List Mark) → is_marked key marks ≡ false → is_marked key (drop n marks) ≡ false
  unmarked_drop zero marks none = none
  unmarked_drop (suc n) [] none = refl
  unmarked_drop (suc n) (m ∷ marks) none = unmarked_drop n marks (either_fails (bytes_eq m.key key) (is_marked key marks) none).1

  -- a key has a moment where it is marked
  pub has_moment : (marks : List Mark) → is_some (moment_of key marks) ≡ is_marked key marks
  has_moment [] = refl
  has_moment (m ∷ marks) = go (bytes_eq m.key key) (has_moment marks)
    where
      go : (b : Bool) → is_some (moment_of key marks) ≡ is_marked key marks → is_some (cond b (Some m.moment) (moment_of key marks)) ≡ (b || is_marked key marks)
      go true rest = refl
      go false rest = rest

  no_moment : (marks : List Mark) → AreOthers marks → moment_of key marks ≡ None
  no_moment [] others = refl
  no_moment (m ∷ marks) others = rw (nat_list_eq_equiv.symm m.key key ∙ others.0) (no_moment marks others.1)

-- keys of the marks behind a mark
behind : (m : Mark) (marks : List Mark) → HaveOwnKeys (m ∷ marks) → AreOthers m.key marks
behind m marks own = keys_of marks (IsDistinct-head bytes_eq m.key _ own)
  where
    keys_of : (ms : List Mark) → AllByRecursion (λ k. bytes_eq m.key k ≡ false) (map (λ (x : Mark). x.key) ms) → AreOthers m.key ms
    keys_of [] all = tt
    keys_of (x ∷ ms) all = (all.0, keys_of ms all.1)

-- where the oldest mark leaves, its key has no moment any more, and other keys have theirs
pub moment_popped : (key : List ℕ) (m : Mark) (marks : List Mark) → HaveOwnKeys (m ∷ marks) → moment_of key marks ≡ cond (bytes_eq m.key key) None (moment_of key (m ∷ marks))
moment_popped key m marks own = go (bytes_eq m.key key) refl
  where
    go : (b : Bool) → bytes_eq m.key key ≡ b → moment_of key marks ≡ cond b None (cond b (Some m.moment) (moment_of key marks))
    go true is = subst (λ k. moment_of k marks ≡ None) ((bytes_decides m.key key).0 is) (no_moment m.key marks (behind m marks own))
    go false is = refl

-- where a new key is marked, it has that moment
pub moment_pushed : (key new : List ℕ) (now : Moment) (marks : List Mark) → is_marked new marks ≡ false
    → moment_of key (marks ++ record { key = new; moment = now } ∷ []) ≡ cond (bytes_eq new key) (Some now) (moment_of key marks)
moment_pushed key new now [] none = refl
moment_pushed key new now (m ∷ marks) none =
    let both = either_fails (bytes_eq m.key new) (is_marked new marks) none in
    rw (moment_pushed key new now marks both.1) (go (bytes_eq m.key key) (bytes_eq new key) both.0 refl refl)
  where
    go : (here there : Bool) → bytes_eq m.key new ≡ false → bytes_eq m.key key ≡ here → bytes_eq new key ≡ there
        → cond here (Some m.moment) (cond there (Some now) (moment_of key marks)) ≡ cond there (Some now) (cond here (Some m.moment) (moment_of key marks))
    go true true apart is also = absurd (true≢false (sym (nat_list_eq_equiv.congr m.key key new is ∙ nat_list_eq_equiv.symm key new ∙ also) ∙ apart))
    go true false apart is also = refl
    go false there apart is also = refl

-- whether a key counts at a moment, by that of its mark
abbrev pub still_counts : ℕ → ℕ → Option Moment → Bool
still_counts ttl now None = false
still_counts ttl now (Some moment) = nat_lt (now - moment.0) ttl

pub counts_by_moment : (ttl now : ℕ) (key : List ℕ) (marks : List Mark) → HaveOwnKeys marks → still_counts ttl now (moment_of key marks) ≡ is_marked key (fresh ttl now marks)
counts_by_moment ttl now key [] own = refl
counts_by_moment ttl now key (m ∷ marks) own =
    go (bytes_eq m.key key) (nat_lt (now - m.moment.0) ttl) refl refl (counts_by_moment ttl now key marks (IsDistinct-tail bytes_eq m.key _ own))
  where
    later : List Mark
    later = fresh ttl now marks

    gone : bytes_eq m.key key ≡ true → is_marked key later ≡ false
    gone is = subst (λ k. is_marked k later ≡ false) ((bytes_decides m.key key).0 is) (unmarked_filter m.key (λ (x : Mark). nat_lt (now - x.moment.0) ttl) marks (others_unmarked m.key marks (behind m marks own)))

    go : (here live : Bool) → bytes_eq m.key key ≡ here → nat_lt (now - m.moment.0) ttl ≡ live → still_counts ttl now (moment_of key marks) ≡ is_marked key later
        → still_counts ttl now (cond here (Some m.moment) (moment_of key marks)) ≡ is_marked key (cond live (m ∷ later) later)
    go true true is counts rest = counts ∙ sym (ap (λ b. b || is_marked key later) is)
    go true false is counts rest = counts ∙ sym (gone is)
    go false true is counts rest = rest ∙ sym (ap (λ b. b || is_marked key later) is)
    go false false is counts rest = rest

unmarked_keys : (key : List ℕ) (marks : List Mark) → is_marked key marks ≡ false → list_any (bytes_eq key) (map (λ (m : Mark). m.key) marks) ≡ false
unmarked_keys key [] none = refl
unmarked_keys key (m ∷ marks) none =
    let both = either_fails (bytes_eq m.key key) (is_marked key marks) none in
    rw (nat_list_eq_equiv.symm key m.key ∙ both.0) (unmarked_keys key marks both.1)

-- keys stay apart where a new one comes
pub own_keys_pushed : (key : List ℕ) (now : Moment) (marks : List Mark) → HaveOwnKeys marks → is_marked key marks ≡ false → HaveOwnKeys (marks ++ record { key = key; moment = now } ∷ [])
own_keys_pushed key now marks own none =
    subst (IsDistinct bytes_eq) (sym (map-append (λ (m : Mark). m.key) marks (record { key = key; moment = now } ∷ [])))
    (IsDistinct-push nat_list_eq_equiv (map (λ (m : Mark). m.key) marks) key own (unmarked_keys key marks none))

other_at : (key : List ℕ) (marks : List Mark) (i : ℕ) (d : Mark) → AreOthers key marks → i < length marks → bytes_eq key (get_or marks i d).key ≡ false
other_at key [] i d others inside = absurd (omega (arith, inside))
other_at key (m ∷ marks) zero d others inside = others.0
other_at key (m ∷ marks) (suc i) d others inside = other_at key marks i d others.1 (omega (arith, inside))

-- none of the marks before one has its key
pub unmarked_before : (marks : List Mark) (i : ℕ) (d : Mark) → HaveOwnKeys marks → i < length marks → is_marked (get_or marks i d).key (take i marks) ≡ false
unmarked_before [] i d own inside = absurd (omega (arith, inside))
unmarked_before (m ∷ marks) zero d own inside = refl
unmarked_before (m ∷ marks) (suc i) d own inside =
    rw (other_at m.key marks i d (behind m marks own) (omega (arith, inside))) (unmarked_before marks i d (IsDistinct-tail bytes_eq m.key _ own) (omega (arith, inside)))

pub no_keys : HaveOwnKeys []
unfolding IsDistinct
no_keys = tt
