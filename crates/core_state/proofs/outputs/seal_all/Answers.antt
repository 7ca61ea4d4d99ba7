use Rattle.std.proofs.Common.{◌≡◌, ◌+◌, ◌<◌, ℕ, suc, List, length, get_or, set, sym, ◌∙◌, ap, subst, arith}
use Rattle.std.proofs.lemmas.List.{get_or-map, length-map, map-set}
use Rattle.step_code.specs.declared.output.Output.{Output}
use Rattle.core_state.specs.declared.outputs.Written.{Written}
use Rattle.core_state.specs.Outputs.{HasLength, HaveLengths, out_of, outs_of}
use Rattle.core_state.specs.Sealing.{HasSmallOutput, sealed_out}
use Rattle.core_state.proofs.Halves.{all_at, half, half_all, half_at, half_set, whole_back}
use Rattle.core_state.proofs.Seen.{all_set}
use Rattle.core_state.proofs.outputs.seal_all.Goals as goal

-- the next item stands for the output that was there
next_same : (items : List Written) (outs : List Output) (i : ℕ) (d : Written) → outs_of items ≡ half sealed_out i outs → i < length items → i < length outs
    → out_of (get_or items i d) ≡ get_or outs i (out_of d)
next_same items outs i d is inside among = sym (get_or-map out_of items i d (out_of d) inside) ∙ ap (λ l. get_or l i (out_of d)) is ∙ half_at sealed_out outs i (out_of d) among

pub outs-init : goal.outs-init
outs-init c = record {
  sealed = ap outs_of c.deref_mut-written-items.ensures.value;
  lengths = subst HaveLengths (sym c.deref_mut-written-items.ensures.value) c.requires.lengths;
}

pub seal-requires : goal.seal-requires
seal-requires c =
    let outs = outs_of c.args.outs.now.items in
    let items = c.outs.written-items in
    let i = c.outs.written-index in
    let d = c.written-item.result in
    let inside : i < length items = omega (arith, c.outs-test.true, c.outs.auto.written-items) in
    let among : i < length outs = omega (arith, c.outs-test.true, ap length c.deref_mut-written-items.ensures.value, length-map c.args.outs.now.items out_of) in record {
      length = all_at HasLength items i d c.outs.invariant.lengths inside;
      small = subst HasSmallOutput (sym (next_same items outs i d c.outs.invariant.sealed inside among)) (all_at HasSmallOutput outs i (out_of d) c.requires.small among);
    }

pub outs-preserved : goal.outs-preserved
outs-preserved c =
    let outs = outs_of c.args.outs.now.items in
    let items = c.outs.written-items in
    let i = c.outs.written-index in
    let d = c.written-item.result in
    let new = c.seal.new.written in
    let inside : i < length items = omega (arith, c.outs-test.true, c.outs.auto.written-items) in
    let among : i < length outs = omega (arith, c.outs-test.true, ap length c.deref_mut-written-items.ensures.value, length-map c.args.outs.now.items out_of) in
    let one : suc i ≡ i + 1 = omega arith in
    let here = c.seal.ensures.sealed ∙ ap sealed_out (next_same items outs i d c.outs.invariant.sealed inside among) in record {
      sealed = map-set out_of items i new ∙ ap (λ l. set l i (out_of new)) c.outs.invariant.sealed ∙ ap (set (half sealed_out i outs) i) here
          ∙ half_set sealed_out outs i (out_of d) among ∙ ap (λ n. half sealed_out n outs) one;
      lengths = all_set HasLength items i d new c.written-item.is (λ _. c.seal.ensures.length) c.outs.invariant.lengths;
    }

pub returns : goal.returns
returns c =
    let xs = c.args.outs.now.items in
    let items = c.outs.written-items in
    let same = ap length c.deref_mut-written-items.ensures.value in
    let back = whole_back xs items c.args.outs.now.len (c.outs.auto.written-items ∙ same) c.args.outs.now.ok.0 in
    let all = half_all sealed_out (outs_of xs) c.outs.written-index (omega (arith, c.outs-test.false, same, length-map xs out_of)) in record {
      sealed = ap outs_of back ∙ c.outs.invariant.sealed ∙ all;
      lengths = subst HaveLengths (sym back) c.outs.invariant.lengths;
    }
