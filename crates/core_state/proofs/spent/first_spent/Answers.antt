use Rattle.std.proofs.Common.{◌≡◌, sym, ◌∙◌, ◌+◌, ◌-◌, arith, refl, find, length, map, min}
use Rattle.std.proofs.lemmas.List.{length-map}
use Rattle.base_types.specs.Number.{last_u64}
use Rattle.step_code.specs.Spent.{is_past, up_to_spent}
use Rattle.core_state.specs.Outputs.{out_of, outs_of}
use Rattle.core_state.specs.Spent.{bots_coming, new_writers, with_line}
use Rattle.core_state.specs.State.{state_of}
use Rattle.core_state.proofs.Brought.{by_lengths, by_numbers}
use Rattle.core_state.proofs.spent.first_spent.Goals as goal

pub returns-in-Some : goal.returns-in-Some
returns-in-Some c m now plan coming lengths =
    let state = c.args.state.now in
    let outs = state.outs.items in
    let made : c.new_outs.result ≡ length (new_writers (bots_coming m c.args.what.now) (outs_of outs)) = c.new_outs.ensures ∙ (λ i. length (new_writers (coming i) (outs_of (c.deref.ensures.value i)))) in
    by_numbers m (state_of state) now c.args.what.now outs refl lengths c.saturating_add.result c.last_of.result c.last_of-2.result c.saturating_add-2.result c.last_place.result
    (record {
      step = c.saturating_add.ensures;
      message = c.last_of.ensures ∙ (λ i. up_to_spent ((state.next_message + c.messages_by.ensures m state now plan i) - 1));
      dump = c.last_of-2.ensures ∙ (λ i. up_to_spent ((state.next_dump + c.dumps_by.ensures i) - 1));
      bundles = c.saturating_add-2.ensures ∙ (λ i. min (c.bundle_no.ensures i + c.bundles_by.ensures i) last_u64);
      out = omega (arith, c.last_place.ensures, made, c.len.ensures, state.outs.ok.0, length-map outs out_of);
    }) c.in-Some.number (sym c.first_past.ensures ∙ c.in-Some.is)

pub returns : goal.returns
returns c m now plan coming lengths =
    let state = c.args.state.now in
    let outs = state.outs.items in
    let made : c.new_outs.result ≡ length (new_writers (bots_coming m c.args.what.now) (outs_of outs)) = c.new_outs.ensures ∙ (λ i. length (new_writers (coming i) (outs_of (c.deref.ensures.value i)))) in
    by_lengths m (state_of state) now c.args.what.now outs refl lengths c.saturating_add.result c.last_of.result c.last_of-2.result c.saturating_add-2.result c.last_place.result
    (record {
      step = c.saturating_add.ensures;
      message = c.last_of.ensures ∙ (λ i. up_to_spent ((state.next_message + c.messages_by.ensures m state now plan i) - 1));
      dump = c.last_of-2.ensures ∙ (λ i. up_to_spent ((state.next_dump + c.dumps_by.ensures i) - 1));
      bundles = c.saturating_add-2.ensures ∙ (λ i. min (c.bundle_no.ensures i + c.bundles_by.ensures i) last_u64);
      out = omega (arith, c.last_place.ensures, made, c.len.ensures, state.outs.ok.0, length-map outs out_of);
    }) c.first_long_with.result (sym c.first_past.ensures ∙ c.in_default.is)
    (c.first_long_with.ensures ∙ (λ i. find is_past (map (λ w. w.length) (with_line (c.line_by.ensures i) (c.deref-2.ensures.value i)))))
