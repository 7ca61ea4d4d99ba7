-- A file that is read, and cut behind the first gate that isn't open.
use Rattle.std.proofs.Common.{◌≡◌, ◌≤◌, ◌+◌, ◌-◌, ◌⊎◌, ⊎_elim, inl, inr, ℕ, suc, zero, List, [], ◌∷◌, ◌++◌, length, take, drop, refl, sym, ◌∙◌, ap, subst, arith, append_assoc, length-append}
use Rattle.std.specs.Prelude.{⊤}
use Rattle.std.proofs.lemmas.List.{take_at, take_all}
use Rattle.edge_traits.specs.Disk.{DiskView, Image, Cut, MayFollow, Adds, Only, IsImage, Elapses, Leaves, LeavesOthers}
use Rattle.edge_traits.proofs.Moments.{started, goes_on, run_on, widened}
use Rattle.disk_journal.specs.declared.header.Heading.{Heading}
use Rattle.disk_journal.specs.GateFile.{header, open_records, gate_file, HasBodies, HaveSameBodies, IsHeadless}
use Rattle.disk_journal.specs.Reads.{OnlyReads, IsReadTo, IsClosed}

pub ends_with_header : (heading : Heading) (end : ℕ) (file : List ℕ) → end ≡ length file → end ≤ 16 → take 16 file ≡ header heading → IsHeadless heading file 16
ends_with_header heading end file is short front = inr (refl, sym (take_all 16 file (omega (arith, is, short))) ∙ front)

take_past : (xs ys : List ℕ) (n : ℕ) → length xs ≤ n → take n (xs ++ ys) ≡ xs ++ take (n - length xs) ys
take_past [] ys n le = let same : n ≡ n - 0 = omega arith in ap (λ (k : ℕ). take k ys) same
take_past (x ∷ xs) ys zero le = absurd (omega (arith, le))
take_past (x ∷ xs) ys (suc n) le =
    let less : suc n - length (x ∷ xs) ≡ n - length xs = omega arith in ap (λ l. x ∷ l) (take_past xs ys n (omega (arith, le))) ∙ ap (λ k. x ∷ xs ++ take k ys) (sym less)

module _ (heading : Heading) (bodies : List (List ℕ)) (at : ℕ) (file : List ℕ) (to : IsReadTo heading bodies at (drop at file) file) (end : IsClosed (drop at file)) where
  split : file ≡ gate_file heading bodies end.gate ++ end.behind
  split = to.content ∙ ap (λ l. header heading ++ open_records bodies ++ l) end.content ∙ sym (append_assoc (header heading ++ open_records bodies) (end.gate ∷ []) end.behind)

  size : length (gate_file heading bodies end.gate) ≡ at + 1
  size = omega (arith, to.place, length-append (header heading ++ open_records bodies) (end.gate ∷ []))

  pub read_bodies_of : HasBodies heading bodies file
  read_bodies_of = record { gate = end.gate; behind = end.behind; closed = end.closed; lengths = to.lengths; content = split }

  pub gate_stands : at + 1 ≤ length file
  gate_stands = omega (arith, ap length split, length-append (gate_file heading bodies end.gate) end.behind, size)

  pub front_is : take (at + 1) file ≡ gate_file heading bodies end.gate
  front_is = ap (take (at + 1)) split ∙ take_at (gate_file heading bodies end.gate) end.behind (at + 1) size

  -- a cut behind that gate keeps the bodies
  cut_keeps : (c : List ℕ) → Cut (at + 1) file c → HasBodies heading bodies c
  cut_keeps c cut = record {
    gate = end.gate;
    behind = take (length c - length (gate_file heading bodies end.gate)) end.behind;
    closed = end.closed;
    lengths = to.lengths;
    content =
        sym cut.front ∙ ap (take (length c)) split ∙ take_past (gate_file heading bodies end.gate) end.behind (length c) (omega (arith, cut.no_shorter, size, gate_stands));
  }

  pub same_bodies : (may_leave : List ℕ → Type 0) → Only file may_leave → (c : List ℕ) → MayFollow (Cut (at + 1)) may_leave c → HaveSameBodies heading file c
  same_bodies may_leave only c left =
      record { bodies = bodies; first = read_bodies_of; second = cut_keeps c (subst (λ d. Cut (at + 1) d c) (only left.0 left.1) left.2) }

-- up to the cut nothing but what might have been left before
pub before_cut : {old synced read : DiskView} (file : ℕ) (same : List ℕ → Type 0)
    → Elapses old synced → OnlyReads synced read → ((image : Image) → old.left_since old.moment image → IsImage old.may_leave image)
    → ((image : Image) → synced.left_since synced.moment image → IsImage synced.may_leave image)
    → Adds old synced (λ _. ⊤) → Leaves old read (λ image. (old.may_leave file (image file) ⊎ same (image file)) × LeavesOthers old file image)
before_cut {old = old} {synced = synced} file same time reads only_now synced_now adds =
    let P : Image → Type 0 = λ image. (old.may_leave file (image file) ⊎ same (image file)) × LeavesOthers old file image in
    let still : (image : Image) → IsImage synced.may_leave image → P image = λ image left. (inl (adds file tt (image file) (left file)), λ other ne. adds other tt (image other) (left other)) in
    run_on (goes_on (started (λ image left. (inl (only_now image left file), λ other ne. only_now image left other))) time still)
    (widened still (read_leaves reads synced_now))
  where
    read_leaves : {old new : DiskView} → OnlyReads old new → ((image : Image) → old.left_since old.moment image → IsImage old.may_leave image)
        → Leaves old new (IsImage old.may_leave)
    read_leaves reads only_now = record {
      later = reads.later;
      each = λ image left. ⊎_elim (only_now image) (λ now. now) (reads.nothing_else _ image (omega arith) left);
      earlier = reads.nothing_else;
    }
