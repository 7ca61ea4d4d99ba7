use Rattle.std.proofs.Common.{◌≡◌, ◌+◌, ℕ, [], ◌∷◌, ◌++◌, sym, ◌∙◌, ap, arith, length, take}
use Rattle.std.proofs.lemmas.List.{take_more, length-take-le}
use Rattle.stored_types.specs.declared.message.Dump.{Dump}
use Rattle.step_code.specs.After.{numbered}
use Rattle.core_state.proofs.Numbered.{dump_of, numbered-push}
use Rattle.core_state.proofs.copies.new_dumps.Goals as goal

pub items-preserved : goal.items-preserved
items-preserved c =
    let items = c.args.items.now in
    let before = take c.items.item-index items in
    let inside = c.items-test.true in
    let more : take (c.items.item-index + 1) items ≡ before ++ c.item-item.result ∷ [] =
    take_more items c.items.item-index c.item-item.result (omega (arith, inside)) ∙ ap (λ x. before ++ x ∷ []) (sym c.item-item.is) in
    let count : length before ≡ c.items.place = length-take-le c.items.item-index items (omega (arith, inside)) ∙ sym c.items.invariant.0 in
    let made : ℕ → ℕ → Dump = λ n d. dump_of n d c.args.bot.now c.args.now c.item-item.result in (
      omega (arith, c.items.invariant.0),
      c.in_ok-push.ensures.items
          ∙ (λ i. c.items.invariant.1 i ++ c.in_ok-new_dump.ensures i ∷ [])
          ∙ ap (λ n. numbered c.args.no c.args.dump c.args.bot.now c.args.now before ++ made (c.args.no + n) (c.args.dump + n) ∷ []) (sym count)
          ∙ sym (numbered-push c.args.no c.args.dump c.args.bot.now c.args.now before c.item-item.result)
          ∙ ap (numbered c.args.no c.args.dump c.args.bot.now c.args.now) (sym more),
    )
