-- A call of a disk, as a step from one moment to the next.
use Rattle.std.proofs.Common.{◌≡◌, ◌≤◌, ◌<◌, ◌+◌, ◌⊎◌, ⊎_elim, inl, inr, ℕ, Bool, true, false, nat_le, Option, Some, Result, Ok, Err, OnOk, OnErr, List, [], ◌∷◌, ◌++◌, reverse, refl, sym, ap, ◌∙◌, subst, cond, arith}
use Rattle.std.specs.List.{take_while}
use Rattle.std.proofs.lemmas.Bool.{leb-true, le-leb, cases_lt}
use Rattle.std.proofs.lemmas.List.Sums.{take_while-cons}
use Rattle.std.proofs.lemmas.List.Folds.{list_all-append}
use Rattle.edge_traits.specs.Disk.{Elapses}
use Rattle.edge_memory.specs.declared.change.Change.{Change}
use Rattle.edge_memory.specs.declared.change.Entry.{Entry}
use Rattle.edge_memory.specs.declared.disk.MemDisk.{MemDisk}
use Rattle.edge_memory.specs.Disk.{disk_view, KeepsPast}
use Rattle.edge_memory.specs.Crashed.{durable, is_pending}
use Rattle.edge_memory.specs.Entries.{content, left, made}
use Rattle.edge_memory.specs.Moments.{numbered_to, made_all, IsStep}
use Rattle.edge_memory.proofs.Numbers.{both, numbered_up}

-- a crash in the time of a step leaves what one before it might have left, or what one may leave now
pub elapses : (old new : MemDisk) → IsStep old.log.entries.items old.log.calls new.log.entries.items new.log.calls → Elapses (disk_view old) (disk_view new)
elapses old new step = record {
  later = step.later;
  nothing_else = λ t image le since. ⊎_elim (λ late. inr (λ file. subst (λ (es : List Entry). left file es (image file)) (step.last since.0 late since.2) (since.3 file))) (λ early. inl (since.0, since.1, early, λ file. subst (λ (es : List Entry). left file es (image file)) (step.same since.0 early) (since.3 file))) (cases_lt old.log.calls since.0);
  keeps = λ t image le past. (past.0, past.1, omega (arith, step.later, past.2), λ file. subst (λ (es : List Entry). left file es (image file)) (sym (step.same past.0 past.2)) (past.3 file));
}

-- what earlier calls left stays as it was
pub keeps_past : (old new : MemDisk) → IsStep old.log.entries.items old.log.calls new.log.entries.items new.log.calls → KeepsPast old new
keeps_past old new step = record {
  files = λ call le file. ap (content file) (step.same call le);
  durable = λ call le file. ap (durable file) (step.same call le);
  left = λ call le file c. (λ was. subst (λ (es : List Entry). left file es c) (step.same call le) was, λ was. subst (λ (es : List Entry). left file es c) (sym (step.same call le)) was);
  pending = λ call le file k. ap (λ es. is_pending file es k) (step.same call le);
}

not_le : (a b : ℕ) → b < a → nat_le a b ≡ false
not_le a b lt = by_test (nat_le a b) refl
  where
    by_test : (t : Bool) → t ≡ nat_le a b → t ≡ false
    by_test true e = let le : a ≤ b = leb-true a b (sym e) in absurd (omega arith)
    by_test false e = refl

-- what was noted later isn't among the first calls
made_before : (k : ℕ) (old : List Entry) (e : Entry) → k < e.number → take_while (λ x. nat_le x.number k) (old ++ e ∷ []) ≡ take_while (λ x. nat_le x.number k) old
made_before k [] e lt =
    let later : nat_le e.number k ≡ false = not_le e.number k lt in
    take_while-cons (λ x. nat_le x.number k) e [] ∙ ap (λ b. cond b (e ∷ take_while (λ x. nat_le x.number k) []) []) later
made_before k (x ∷ old) e lt =
    take_while-cons (λ y. nat_le y.number k) x (old ++ e ∷ []) ∙ ap (λ es. cond (nat_le x.number k) (x ∷ es) []) (made_before k old e lt) ∙ sym (take_while-cons (λ y. nat_le y.number k) x old)

-- a call that changed nothing
pub step_idle : (old new : List Entry) (before now : ℕ) → numbered_to before old ≡ true → new ≡ old → now ≡ before + 1 → IsStep old before new now
step_idle old new before now all same counted = record {
  later = omega arith;
  same = λ k le. ap (made k) same;
  last = λ k lt le. rw same (made_all k old (numbered_up before k old (omega arith) all));
}

-- a call that changed a file
pub step_noted : (old new : List Entry) (before now : ℕ) (e : Entry) → numbered_to before old ≡ true → e.number ≡ now → new ≡ old ++ e ∷ [] → now ≡ before + 1 → IsStep old before new now
step_noted old new before now e all number noted counted = record {
  later = omega arith;
  same = λ k le. rw noted (ap reverse (made_before k old e (omega arith)));
  last = λ k lt le.
      let here : nat_le e.number k ≡ true = le-leb _ _ (omega arith) in
      let both : numbered_to k (old ++ e ∷ []) ≡ true = list_all-append (λ x. nat_le x.number k) old (e ∷ []) ∙ both _ _ (numbered_up before k old (omega arith) all) (both _ _ here refl) in
      rw noted (made_all k (old ++ e ∷ []) both);
}

-- the call was counted, and it noted what it changed, or failed at that
pub step_of_note : {E : Type 0} (r : Result (Unit {0}) E) (old mid new : List Entry) (before counted now file : ℕ) (change : Option Change) → numbered_to before old ≡ true → mid ≡ old → counted ≡ before + 1 → now ≡ counted → OnOk r ((done : Change) × (change ≡ Some done) × (new ≡ mid ++ record { number = counted; file = file; change = done } ∷ [])) → OnErr r (new ≡ mid) → IsStep old before new now
step_of_note (Ok u) old mid new before counted now file change all same more still ok err =
    step_noted old new before now (record { number = counted; file = file; change = ok.0 }) all (sym still) (ok.2 ∙ ap (λ es. es ++ record { number = counted; file = file; change = ok.0 } ∷ []) same) (still ∙ more)
step_of_note (Err e) old mid new before counted now file change all same more still ok err = step_idle old new before now all (err ∙ same) (still ∙ more)

-- the call was counted and failed, and noted a part or nothing
pub step_of_part : (old mid new : List Entry) (before counted now file : ℕ) (part : Option Change) → numbered_to before old ≡ true → mid ≡ old → counted ≡ before + 1 → now ≡ counted → ((new ≡ mid) ⊎ ((done : Change) × (part ≡ Some done) × (new ≡ mid ++ record { number = counted; file = file; change = done } ∷ []))) → IsStep old before new now
step_of_part old mid new before counted now file part all same more still (inl none) = step_idle old new before now all (none ∙ same) (still ∙ more)
step_of_part old mid new before counted now file part all same more still (inr (done, is, noted)) =
    step_noted old new before now (record { number = counted; file = file; change = done }) all (sym still) (noted ∙ ap (λ es. es ++ record { number = counted; file = file; change = done } ∷ []) same) (still ∙ more)
