-- What one more slot comes to, in slots.
use Rattle.std.proofs.Common.{◌≡◌, ◌<◌, ◌+◌, ◌^◌, ◌∙◌, ℕ, List, [], ◌∷◌, ◌++◌, length, None, ap, sym, subst, arith}
use Rattle.std.proofs.lemmas.List.{get_or_append_left, length-map, length_push, map-append}
use Rattle.link_store.specs.declared.slots.Slot.{Slot}
use Rattle.link_store.specs.Rings.{AreRings, IsAdded, at, ring_of}
use Rattle.link_store.specs.Slots.{nexts, prevs, rings, cells}
use Rattle.link_store.specs.Kept.{AreLinked, AreNumbered, lists_in}
use Rattle.link_store.proofs.Grown.{linked_free, lists_free, numbered_behind, one_more_free, walked, widened}
use Rattle.link_store.proofs.Headed.{linked_head, lists_head}

module _ {T : Type 0} where
  pub wider : (slots : List (Slot T)) (heads lens : List ℕ) (slot : Slot T) (pushed : List (Slot T)) (x : ℕ) → AreLinked slots heads lens → pushed ≡ slots ++ slot ∷ [] → x ≡ length slots
      → AreRings (nexts pushed) (prevs pushed) (rings pushed) heads lens x
  wider slots heads lens slot pushed x old e here =
      let count : x ≡ length (nexts slots) = here ∙ sym (length-map slots (λ s. s.next)) in
      rw (e, count, map-append (λ s. s.next) slots (slot ∷ []), map-append (λ s. s.prev) slots (slot ∷ []), map-append (λ s. s.ring) slots (slot ∷ []))
      (widened (nexts slots) (prevs slots) (rings slots) heads lens slot.next slot.prev slot.ring old.joined)

  -- a free slot came
  pub record IsFreed (slots : List (Slot T)) (heads lens : List ℕ) (after : List (Slot T)) (lens' : List ℕ) : Type 0 where
    pub linked : AreLinked after heads lens'
    pub lists : lists_in after heads lens' ≡ lists_in slots heads lens
    pub one_more : at lens' 0 ≡ at lens 0 + 1
    pub numbered : (n : ℕ) → AreNumbered (cells slots) n → AreNumbered (cells after) n

  pub freed : (slots : List (Slot T)) (heads lens : List ℕ) (slot : Slot T) (pushed after : List (Slot T)) (lens' : List ℕ) (x : ℕ) → AreLinked slots heads lens → pushed ≡ slots ++ slot ∷ [] → x ≡ length slots → slot.held ≡ None
      → IsAdded (nexts pushed) (prevs pushed) (rings pushed) heads lens 0 (ring_of (nexts pushed) heads lens 0 ++ x ∷ []) (nexts after) (prevs after) (rings after) lens'
      → cells after ≡ cells pushed → length after ≡ length pushed → x + 1 < 2 ^ 62 → IsFreed slots heads lens after lens'
  freed slots heads lens slot pushed after lens' x old e here none added same as_many few =
      let count : x ≡ length (nexts slots) = here ∙ sym (length-map slots (λ s. s.next)) in
      let added' = subst (λ y. IsAdded (nexts pushed) (prevs pushed) (rings pushed) heads lens 0 (ring_of (nexts pushed) heads lens 0 ++ y ∷ []) (nexts after) (prevs after) (rings after) lens') count added in
      let nexts_are : nexts pushed ≡ nexts slots ++ slot.next ∷ [] = ap nexts e ∙ map-append (λ s. s.next) slots (slot ∷ []) in
      let cells_are : cells after ≡ cells slots ++ None ∷ [] = same ∙ ap cells e ∙ map-append (λ s. s.held) slots (slot ∷ []) ∙ ap (λ o. cells slots ++ o ∷ []) none in
      let walks : (j : ℕ) → j < length heads → ring_of (nexts pushed) heads lens j ≡ ring_of (nexts slots) heads lens j =
      λ j within. ap (λ n. ring_of n heads lens j) nexts_are ∙ walked (nexts slots) (prevs slots) (rings slots) heads lens slot.next slot.prev slot.ring old.joined j within in
      let longer : length (nexts after) ≡ length (nexts slots) + 1 = length-map after (λ s. s.next) ∙ as_many ∙ ap length e ∙ length_push slots slot ∙ ap (λ m. m + 1) (sym (length-map slots (λ s. s.next))) in
      let few' : length (nexts slots) + 1 < 2 ^ 62 = omega (arith, few, count) in
      record {
        linked = rw cells_are (linked_free (nexts slots) (prevs slots) (rings slots) heads lens (cells slots) old (nexts pushed) (prevs pushed) (rings pushed) (nexts after) (prevs after) (rings after) lens' added' walks longer few');
        lists = rw cells_are (lists_free (nexts slots) (prevs slots) (rings slots) heads lens (cells slots) old (nexts pushed) (prevs pushed) (rings pushed) (nexts after) (prevs after) (rings after) lens' added' walks longer few');
        one_more = one_more_free (nexts slots) (prevs slots) (rings slots) heads lens (cells slots) old (nexts pushed) (prevs pushed) (rings pushed) (nexts after) (prevs after) (rings after) lens' added' walks longer few';
        numbered = λ n numbered. rw cells_are (numbered_behind (cells slots) n numbered);
      }

  -- a ring came
  pub record IsRinged (slots : List (Slot T)) (heads lens : List ℕ) (after : List (Slot T)) (heads' lens' : List ℕ) : Type 0 where
    pub linked : AreLinked after heads' lens'
    pub lists : lists_in after heads' lens' ≡ lists_in slots heads lens ++ [] ∷ []
    pub free : at lens' 0 ≡ at lens 0
    pub numbered : (n : ℕ) → AreNumbered (cells slots) n → AreNumbered (cells after) n

  pub ringed : (slots : List (Slot T)) (heads lens : List ℕ) (slot : Slot T) (after : List (Slot T)) (heads' lens' : List ℕ) (x : ℕ) → AreLinked slots heads lens → after ≡ slots ++ slot ∷ [] → x ≡ length slots
      → slot.next ≡ x → slot.prev ≡ x → slot.ring ≡ length heads → slot.held ≡ None → heads' ≡ heads ++ x ∷ [] → lens' ≡ lens ++ 0 ∷ [] → x + 1 < 2 ^ 62 → IsRinged slots heads lens after heads' lens'
  ringed slots heads lens slot after heads' lens' x old e here next prev ring none heads_are lens_are few =
      let count : x ≡ length (nexts slots) = here ∙ sym (length-map slots (λ s. s.next)) in
      let nexts_are : nexts after ≡ nexts slots ++ length (nexts slots) ∷ [] = ap nexts e ∙ map-append (λ s. s.next) slots (slot ∷ []) ∙ ap (λ y. nexts slots ++ y ∷ []) (next ∙ count) in
      let prevs_are : prevs after ≡ prevs slots ++ length (nexts slots) ∷ [] = ap prevs e ∙ map-append (λ s. s.prev) slots (slot ∷ []) ∙ ap (λ y. prevs slots ++ y ∷ []) (prev ∙ count) in
      let rings_are : rings after ≡ rings slots ++ length heads ∷ [] = ap rings e ∙ map-append (λ s. s.ring) slots (slot ∷ []) ∙ ap (λ y. rings slots ++ y ∷ []) ring in
      let cells_are : cells after ≡ cells slots ++ None ∷ [] = ap cells e ∙ map-append (λ s. s.held) slots (slot ∷ []) ∙ ap (λ o. cells slots ++ o ∷ []) none in
      let heads_is : heads' ≡ heads ++ length (nexts slots) ∷ [] = heads_are ∙ ap (λ y. heads ++ y ∷ []) count in
      let few' : length (nexts slots) + 1 < 2 ^ 62 = omega (arith, few, count) in
      record {
        linked = rw (nexts_are, prevs_are, rings_are, cells_are, heads_is, lens_are) (linked_head (nexts slots) (prevs slots) (rings slots) heads lens (cells slots) old few');
        lists = rw (nexts_are, cells_are, heads_is, lens_are) (lists_head (nexts slots) (prevs slots) (rings slots) heads lens (cells slots) old few');
        free = ap (λ ls. at ls 0) lens_are ∙ get_or_append_left lens (0 ∷ []) 0 0 (subst (λ n. 0 < n) (sym old.joined.lens_len) old.some);
        numbered = λ n numbered. rw cells_are (numbered_behind (cells slots) n numbered);
      }
