-- What a move of a slot comes to, in slots and in lists.
use Rattle.std.proofs.Common.{◌≡◌, ◌≢◌, ◌<◌, ◌+◌, ◌∙◌, ℕ, zero, suc, true, List, [], ◌∷◌, ◌++◌, length, get_or, set, Option, Some, None, IsSome, IfNone, IfSome, option_map, ap, sym, subst, refl, arith, get_or-set_same, get_or-set_other}
use Rattle.std.proofs.lemmas.List.{length-map}
use Rattle.link_store.specs.declared.slots.Held.{Held}
use Rattle.link_store.specs.declared.slots.Slot.{Slot}
use Rattle.link_store.specs.Rings.{IsShifted, at, ring_of}
use Rattle.link_store.specs.Slots.{nexts, prevs, rings, cells}
use Rattle.link_store.specs.Links.{Item}
use Rattle.link_store.specs.Kept.{AreLinked, IsPassed, IsPassedBack, IsTaken, held_item, items_of, lists_in, with_item}
use Rattle.link_store.proofs.Added.{IsWith}
use Rattle.link_store.proofs.Moved.{as_long, inside, linked, lists, one_less, one_more, to_same}
use Rattle.link_store.proofs.Views.{set_same}

module _ {T : Type 0} where
  -- a slot went from one ring to another, and holds this now
  pub record IsDone (slots : List (Slot T)) (heads lens : List ℕ) (from to x : ℕ) (ps qs ys : List ℕ) (after : List (Slot T)) (lens' : List ℕ) : Type 0 where
    pub inside : x < length (cells slots)
    pub linked : AreLinked after heads lens'
    pub left : ring_of (nexts after) heads lens' from ≡ ps ++ qs
    pub come : ring_of (nexts after) heads lens' to ≡ ys
    pub lists : lists_in after heads lens' ≡ set (set (lists_in slots heads lens) from (items_of (cells slots) (ps ++ qs))) to (items_of (cells after) ys)
    pub to_same : items_of (cells after) (ring_of (nexts slots) heads lens to) ≡ items_of (cells slots) (ring_of (nexts slots) heads lens to)
    pub one_less : at lens' from + 1 ≡ at lens from
    pub one_more : at lens' to ≡ at lens to + 1
    pub as_long : (i : ℕ) → i < length heads → i ≢ from → i ≢ to → at lens' i ≡ at lens i

  pub done : (slots : List (Slot T)) (heads lens : List ℕ) (from to x : ℕ) (ps qs ys : List ℕ) (moved after : List (Slot T)) (lens' : List ℕ) (cell : Option (Held T))
      → AreLinked slots heads lens → from ≢ to → from < length heads → to < length heads
      → ring_of (nexts slots) heads lens from ≡ ps ++ x ∷ qs → IsWith x (ring_of (nexts slots) heads lens to) ys
      → IsShifted (nexts slots) heads lens from to (ps ++ qs) ys (nexts moved) (prevs moved) (rings moved) lens' → length moved ≡ length slots
      → nexts after ≡ nexts moved → prevs after ≡ prevs moved → rings after ≡ rings moved → cells after ≡ set (cells slots) x cell
      → (to ≡ 0 → cell ≡ None) → (0 < to → IsSome cell) → IsDone slots heads lens from to x ps qs ys after lens'
  done slots heads lens from to x ps qs ys moved after lens' cell old differ there there_to stands with_x shifted as_many ns np nr nc empty filled =
      let as_many' : length (nexts moved) ≡ length (nexts slots) = length-map moved (λ s. s.next) ∙ as_many ∙ sym (length-map slots (λ s. s.next)) in
      record {
        inside = inside (nexts slots) (prevs slots) (rings slots) heads lens (cells slots) from to x ps qs ys (nexts moved) (prevs moved) (rings moved) lens' cell old differ there there_to stands with_x shifted as_many' empty filled;
        linked = rw (ns, np, nr, nc) (linked (nexts slots) (prevs slots) (rings slots) heads lens (cells slots) from to x ps qs ys (nexts moved) (prevs moved) (rings moved) lens' cell old differ there there_to stands with_x shifted as_many' empty filled);
        left = rw ns shifted.left;
        come = rw ns shifted.come;
        lists = rw (ns, nc) (lists (nexts slots) (prevs slots) (rings slots) heads lens (cells slots) from to x ps qs ys (nexts moved) (prevs moved) (rings moved) lens' cell old differ there there_to stands with_x shifted as_many' empty filled);
        to_same = rw nc (to_same (nexts slots) (prevs slots) (rings slots) heads lens (cells slots) from to x ps qs ys (nexts moved) (prevs moved) (rings moved) lens' cell old differ there there_to stands with_x shifted as_many' empty filled);
        one_less = one_less (nexts slots) (prevs slots) (rings slots) heads lens (cells slots) from to x ps qs ys (nexts moved) (prevs moved) (rings moved) lens' cell old differ there there_to stands with_x shifted as_many' empty filled;
        one_more = one_more (nexts slots) (prevs slots) (rings slots) heads lens (cells slots) from to x ps qs ys (nexts moved) (prevs moved) (rings moved) lens' cell old differ there there_to stands with_x shifted as_many' empty filled;
        as_long = as_long (nexts slots) (prevs slots) (rings slots) heads lens (cells slots) from to x ps qs ys (nexts moved) (prevs moved) (rings moved) lens' cell old differ there there_to stands with_x shifted as_many' empty filled;
      }

  pub not_none : (cell : Option (Held T)) (answer : Option T) (P : Type 0) → IsSome cell → answer ≡ option_map (λ held. held.value) cell → IfNone answer P
  not_none None answer P is e = absurd (cc)
  not_none (Some held) None P is e = absurd (cc)
  not_none (Some held) (Some v) P is e = tt

  pub if_some : (answer : Option T) (P : Type 0) → P → IfSome answer (λ _. P)
  if_some None P p = tt
  if_some (Some v) P p = p

  -- the first item of a ring is taken
  pub taken : (from x : ℕ) (cell : Option (Held T)) (rest : List (Item T)) (all after : List (List (Item T))) (answer : Option T) → IsSome cell → answer ≡ option_map (λ held. held.value) cell
      → get_or all from [] ≡ with_item x cell rest → get_or all 0 [] ≡ [] → 0 < from → after ≡ set (set all from rest) 0 [] → IsTaken from (get_or all from []) all after answer
  taken from x None rest all after answer is e first free some done = absurd (cc)
  taken from x (Some held) rest all after answer is e first free some done = subst (λ xs. IsTaken from xs all after answer) (sym first)
      (e, done ∙ set_same (set all from rest) 0 [] [] (get_or-set_other all from 0 rest [] (λ same. absurd (omega (arith, same, some))) ∙ free))

  -- the first item of a ring is the last of another
  pub passed : (from to x : ℕ) (cell : Option (Held T)) (rest theirs : List (Item T)) (all after : List (List (Item T))) → IsSome cell
      → get_or all from [] ≡ with_item x cell rest → get_or all to [] ≡ theirs → from ≢ to → after ≡ set (set all from rest) to (theirs ++ with_item x cell []) → IsPassed from to (get_or all from []) all after true
  passed from to x None rest theirs all after is first others differ done = absurd (cc)
  passed from to x (Some held) rest theirs all after is first others differ done = subst (λ xs. IsPassed from to xs all after true) (sym first)
      (refl, done ∙ ap (λ xs. set (set all from rest) to (xs ++ held_item x held ∷ [])) (sym (get_or-set_other all from to rest [] (λ e. differ (sym e)) ∙ others)))

  -- the first item of a ring is the first of another
  pub passed_back : (from to x : ℕ) (cell : Option (Held T)) (rest theirs : List (Item T)) (all after : List (List (Item T))) → IsSome cell
      → get_or all from [] ≡ with_item x cell rest → get_or all to [] ≡ theirs → from ≢ to → after ≡ set (set all from rest) to (with_item x cell theirs) → IsPassedBack from to (get_or all from []) all after true
  passed_back from to x None rest theirs all after is first others differ done = absurd (cc)
  passed_back from to x (Some held) rest theirs all after is first others differ done = subst (λ xs. IsPassedBack from to xs all after true) (sym first)
      (refl, done ∙ ap (λ xs. set (set all from rest) to (held_item x held ∷ xs)) (sym (get_or-set_other all from to rest [] (λ e. differ (sym e)) ∙ others)))

  set_twice : (ls : List (List (Item T))) (k : ℕ) (a b : List (Item T)) → set (set ls k a) k b ≡ set ls k b
  set_twice [] k a b = refl
  set_twice (l ∷ ls) zero a b = refl
  set_twice (l ∷ ls) (suc k) a b = ap (λ ms. l ∷ ms) (set_twice ls k a b)

  -- the first item of a ring stays there
  pub put_same : (from x : ℕ) (cell : Option (Held T)) (rest : List (Item T)) (all : List (List (Item T))) → IsSome cell → from < length all → get_or all from [] ≡ with_item x cell rest → IsPassedBack from from (get_or all from []) all all true
  put_same from x None rest all is within first = absurd (cc)
  put_same from x (Some held) rest all is within first = subst (λ xs. IsPassedBack from from xs all all true) (sym first)
      (refl, sym (ap (λ xs. set (set all from rest) from (held_item x held ∷ xs)) (get_or-set_same all from rest [] within) ∙ set_twice all from rest (held_item x held ∷ rest) ∙ set_same all from (held_item x held ∷ rest) [] first))
