-- What a crash may leave after a call, by what it might have left before.
use Rattle.std.specs.Prelude.{⊤}
use Rattle.std.proofs.Common.{◌≡◌, ◌≤◌, ◌<◌, ◌+◌, ◌&&◌, ◌||◌, if◌then◌else◌, nat_le, nat_lt, refl, ◌⊎◌, inl, inr, ◌==◌, ℕ, Bool, true, false, Some, None, Result, Ok, Err, OnOk, OnErr, List, [], ◌∷◌, ◌++◌, reverse, sym, ap, ◌∙◌, subst, MatchBool}
use Rattle.std.proofs.lemmas.List.{reverse-append}
use Rattle.std.proofs.lemmas.Bool.{le-leb, lt-ltb}
use Rattle.std.proofs.lemmas.Bool.Decides.{Decides-eqb}
use Rattle.edge_traits.specs.declared.source.Failed.{Failed}
use Rattle.edge_memory.specs.declared.change.Change.{Change}
use Rattle.edge_memory.specs.declared.change.Change.TheVariants as did
use Rattle.edge_memory.specs.declared.change.Entry.{Entry}
use Rattle.edge_memory.specs.Entries.{content, left, left_by, made}
use Rattle.edge_memory.specs.Crashed.{is_pending}
use Rattle.edge_memory.specs.Moments.{numbered_to, made_all, content_left}

-- the files after one more entry
after : (file : ℕ) (old new : List Entry) (e : Entry) (c : List ℕ) → new ≡ old ++ e ∷ [] → left file (reverse new) c → left file (e ∷ reverse old) c
after file old new e c noted left_now = subst (λ (es : List Entry). left file es c) (ap reverse noted ∙ reverse-append old (e ∷ [])) left_now

synced : (here : Bool) (file : ℕ) (earlier : List Entry) (c : List ℕ) → MatchBool here (c ≡ content file earlier) (left file earlier c) → left file earlier c
synced true file earlier c is = subst (left file earlier) (sym is) (content_left file earlier)
synced false file earlier c is = is

-- a sync that changed this or that adds no outcome
synced_by : (done : Change) → done ≡ did.Sync → (here : Bool) (file : ℕ) (earlier : List Entry) (c : List ℕ) → MatchBool here (left_by done (content file earlier) (left file earlier) c) (left file earlier c) → left file earlier c
synced_by done is here file earlier c now = synced here file earlier c (subst (λ (d : Change). MatchBool here (left_by d (content file earlier) (left file earlier) c) (left file earlier c)) is now)

pub sync_adds : (r : Result (Unit {0}) Failed) (file number : ℕ) (old new : List Entry) → OnOk r ((done : Change) × (Some did.Sync ≡ Some done) × (new ≡ old ++ record { number = number; file = file; change = done } ∷ [])) → OnErr r ((new ≡ old) ⊎ ((done : Change) × (None ≡ Some done) × (new ≡ old ++ record { number = number; file = file; change = done } ∷ []))) → (other : ℕ) → ⊤ → (c : List ℕ) → left other (reverse new) c → left other (reverse old) c
sync_adds (Ok u) file number old new (done, is, noted) err = λ other _ c now.
    synced_by done (cc) (file == other) other (reverse old) c (after other old new (record { number = number; file = file; change = done }) c noted now)
sync_adds (Err e) file number old new ok (inl none) = λ other _ c now. subst (λ (es : List Entry). left other (reverse es) c) none now
sync_adds (Err e) file number old new ok (inr (done, is, noted)) = absurd (cc)

eq_itself : (n : ℕ) → (n == n) ≡ true
eq_itself n = (Decides-eqb n n).1 refl

-- a crash may leave what a noted part makes of what it might have left before
pub part_left : (file number : ℕ) (old new : List Entry) (part : Change) (c : List ℕ) → new ≡ old ++ record { number = number; file = file; change = part } ∷ []
    → left_by part (content file (reverse old)) (left file (reverse old)) c → left file (reverse new) c
part_left file number old new part c noted is =
    let e : Entry = record { number = number; file = file; change = part } in
    let now : left file (e ∷ reverse old) c = subst (λ (b : Bool). MatchBool b (left_by part (content file (reverse old)) (left file (reverse old)) c) (left file (reverse old) c)) (sym (eq_itself file)) is in
    subst (λ (es : List Entry). left file es c) (sym (ap reverse noted ∙ reverse-append old (e ∷ []))) now

-- the range of a failed write is pending
pub part_pending : (file number at n k : ℕ) (old new : List Entry) → numbered_to number new ≡ true → new ≡ old ++ record { number = number; file = file; change = did.FailedWrite at n } ∷ []
    → at ≤ k → k < at + n → is_pending file (made number new) k ≡ true
part_pending file number at n k old new all noted from upto =
    let e : Entry = record { number = number; file = file; change = did.FailedWrite at n } in
    let whole : made number new ≡ e ∷ reverse old = made_all number new all ∙ ap reverse noted ∙ reverse-append old (e ∷ []) in
    let below : nat_le at k ≡ true = le-leb at k from in
    let above : nat_lt k (at + n) ≡ true = lt-ltb k (at + n) upto in
    ap (λ es. is_pending file es k) whole
    ∙ ap (λ b. if b then (nat_le at k && nat_lt k (at + n)) || is_pending file (reverse old) k else is_pending file (reverse old) k) (eq_itself file)
    ∙ ap (λ b. (b && nat_lt k (at + n)) || is_pending file (reverse old) k) below
    ∙ ap (λ b. b || is_pending file (reverse old) k) above
