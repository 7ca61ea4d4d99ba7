-- The moments of a disk: one for each call.
use Rattle.std.specs.Prelude.{◌≡◌, ◌≤◌, ◌<◌, ◌&&◌, ◌==◌, ℕ, Bool, true, false, nat_le, if◌then◌else◌, List, [], ◌∷◌, reverse, refl}
use Rattle.std.proofs.Common.{sym, ap, ◌∙◌, subst, arith, cond}
use Rattle.std.specs.Bool.{MatchBool}
use Rattle.std.specs.List.{list_all, take_while}
use Rattle.std.proofs.lemmas.List.Sums.{take_while-cons}
use Rattle.edge_traits.specs.Disk.{Image, IsImage}
use Rattle.edge_memory.specs.declared.change.Change.{Change}
use Rattle.edge_memory.specs.declared.change.Change.TheVariants as did
use Rattle.edge_memory.specs.declared.change.Entry.{Entry}
use Rattle.edge_memory.specs.Entries.{changed, content, left_by, left, made}
use Rattle.edge_traits.proofs.Outcomes.{torn_itself, cut_itself}
use Rattle.edge_memory.specs.Torn.{torn_overwritten, cut_take}

-- what a crash might have left since a moment: what one may leave after some number of calls from that one on
abbrev pub left_since : List Entry → ℕ → ℕ → Image → Type 0
left_since entries calls t image = (k : ℕ) × (t ≤ k) × (k ≤ calls) × IsImage (λ file. left file (made k entries)) image

-- no entry has a number above that of the calls
abbrev pub numbered_to : ℕ → List Entry → Bool
numbered_to calls entries = list_all (λ e. nat_le e.number calls) entries

changed_left : (change : Change) (seen : List ℕ) (before : List ℕ → Type 0) → before seen → left_by change seen before (changed change seen)
changed_left (did.Write at bytes) seen before was = (seen, was, torn_overwritten at bytes.items seen)
changed_left (did.FailedWrite at len) seen before was = (seen, was, torn_itself at len seen)
changed_left (did.Cut len) seen before was = (seen, was, cut_take len seen)
changed_left (did.FailedCut len) seen before was = (seen, was, cut_itself len seen)
changed_left did.Sync seen before was = refl
changed_left (did.Found bytes) seen before was = refl

step_left : (same : Bool) (change : Change) (seen : List ℕ) (before : List ℕ → Type 0) → before seen → let now : List ℕ = (if same then changed change seen else seen) in MatchBool same (left_by change seen before now) (before now)
step_left true change seen before was = changed_left change seen before was
step_left false change seen before was = was

-- what a read gives is one of the outcomes of a crash
pub content_left : (file : ℕ) (entries : List Entry) → left file entries (content file entries)
content_left file [] = refl
content_left file (e ∷ earlier) = step_left (e.file == file) e.change (content file earlier) (left file earlier) (content_left file earlier)

pub second_of_both : (a b : Bool) → (a && b) ≡ true → b ≡ true
second_of_both true b e = e
second_of_both false b e = absurd (cc)

pub first_of_both : (a b : Bool) → (a && b) ≡ true → a ≡ true
first_of_both true b e = refl
first_of_both false b e = e

-- all calls made all changes
pub take_all : (calls : ℕ) (entries : List Entry) → numbered_to calls entries ≡ true → take_while (λ e. nat_le e.number calls) entries ≡ entries
take_all calls [] all = refl
take_all calls (e ∷ entries) all =
    take_while-cons (λ e. nat_le e.number calls) e entries ∙ ap (λ b. cond b (e ∷ take_while (λ e. nat_le e.number calls) entries) []) (first_of_both _ _ all) ∙ ap (λ es. e ∷ es) (take_all calls entries (second_of_both _ _ all))

pub made_all : (calls : ℕ) (entries : List Entry) → numbered_to calls entries ≡ true → made calls entries ≡ reverse entries
made_all calls entries all = ap reverse (take_all calls entries all)

-- the last moment is among those since any
pub since_now : (calls : ℕ) (entries : List Entry) → numbered_to calls entries ≡ true → (t : ℕ) (image : Image) → t ≤ calls → IsImage (λ file. left file (reverse entries)) image → left_since entries calls t image
since_now calls entries all t image le is =
    (calls, le, omega arith, λ file. subst (λ (es : List Entry). left file es (image file)) (sym (made_all calls entries all)) (is file))

-- since the last moment there is no other
pub now_only : (calls : ℕ) (entries : List Entry) → numbered_to calls entries ≡ true → (image : Image) → left_since entries calls calls image → IsImage (λ file. left file (reverse entries)) image
now_only calls entries all image (k, from, upto, is) = λ file.
    let same : k ≡ calls = omega arith in
    subst (λ (es : List Entry). left file es (image file)) (ap (λ n. made n entries) same ∙ made_all calls entries all) (is file)

pub since_earlier : (entries : List Entry) (calls s t : ℕ) (image : Image) → s ≤ t → left_since entries calls t image → left_since entries calls s image
since_earlier entries calls s t image le (k, from, upto, is) = (k, omega arith, upto, is)

-- a call was counted, if there was a number left, and what it changed was noted under its number
pub record IsStep (old : List Entry) (before : ℕ) (new : List Entry) (now : ℕ) : Type 0 where
  pub later : before ≤ now
  pub same : (k : ℕ) → k ≤ before → made k new ≡ made k old
  pub last : (k : ℕ) → before < k → k ≤ now → made k new ≡ reverse new
