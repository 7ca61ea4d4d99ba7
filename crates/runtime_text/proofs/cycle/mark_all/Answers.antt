use Rattle.std.proofs.Common.{◌<◌, ◌+◌, ◌∷◌, length, drop, get_or, refl, sym, ap, subst, ◌∙◌, add-one, drop-cons}
use Rattle.runtime_text.proofs.Marks.{item_at, marks_one}
use Rattle.runtime_text.specs.Wires.{is_found, marked_all, state_of, State}
use Rattle.runtime_text.proofs.cycle.mark_all.Goals as goal

pub mark-requires : goal.mark-requires
mark-requires c = c.wires.invariant.below (get_or c.args.wires.now c.wires.i-index 0) (item_at c.args.wires.now c.wires.i-index c.wires-test.true)

pub wires-preserved : goal.wires-preserved
wires-preserved c =
    let i = c.wires.i-index in
    let wires = c.args.wires.now in
    let old = state_of c.wires.search in
    let x = get_or wires i 0 in
    let within : x < length c.wires.search.found.items = c.wires.invariant.below x (item_at wires i c.wires-test.true) in
    record {
      same = ap (marked_all (drop (i + 1) wires)) c.in_ok-mark.ensures
          ∙ ap (λ n. marked_all (x ∷ drop n wires) old) (add-one i)
          ∙ ap (λ ws. marked_all ws old) (sym (drop-cons wires i 0 c.wires-test.true))
          ∙ c.wires.invariant.same;
      below = λ j h. subst (λ n. j < n) (sym (ap (λ (s : State). length s.0) c.in_ok-mark.ensures ∙ (marks_one (is_found old.0 x) x old within refl).size)) (c.wires.invariant.below j h);
    }
