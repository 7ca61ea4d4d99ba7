use Rattle.std.proofs.Common.{◌≡◌, ◌∙◌, [], ◌∷◌, ◌++◌, ap}
use Rattle.link_store.proofs.Seen.{sound_start}
use Rattle.link_store.proofs.links.Links.without_lists.Goals as goal

pub invariant_of-result : goal.invariant_of-result
invariant_of-result g c =
    let slot = c.lone_slot.result in
    let slots_are : c.push.new.self.items ≡ slot ∷ [] = c.in_ok-push.ensures.items ∙ ap (λ xs. xs ++ slot ∷ []) c.new-slots.ensures.items in
    let heads_are : c.push-2.new.self.items ≡ 0 ∷ [] = c.in_ok-push-2.ensures.items ∙ ap (λ xs. xs ++ 0 ∷ []) c.new-heads.ensures.items in
    let lens_are : c.push-3.new.self.items ≡ 0 ∷ [] = c.in_ok-push-3.ensures.items ∙ ap (λ xs. xs ++ 0 ∷ []) c.new-lens.ensures.items in
    let is = c.lone_slot.ensures in
    rw (slots_are, heads_are, lens_are) (sound_start slot (ap (λ s. s.next) is) (ap (λ s. s.prev) is) (ap (λ s. s.ring) is) (ap (λ s. s.held) is))
