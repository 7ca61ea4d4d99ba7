use Rattle.std.proofs.Common.{◌≡◌, ◌≤◌, Result, Ok, Err, OnErr, ap, arith}
use Rattle.std.proofs.lemmas.List.{with_items_is}
use Rattle.std.specs.Vec.{with_items}
use Rattle.link_store.specs.Rings.{at}
use Rattle.link_store.proofs.Seen.{seen}
use Rattle.link_store.proofs.links.Links.reserve.Goals as goal

on_err : {A E : Type 0} (answer : Result A E) (P : Type 0) → P → OnErr answer P
on_err (Ok a) P p = tt
on_err (Err e) P p = p

pub invariant_of-self : goal.invariant_of-self
invariant_of-self g c =
    let links = c.self.inside in
    let new = c.grow.new in
    let lens_is : (with_items links.lens new.lens).items ≡ new.lens = with_items_is links.lens new.lens (omega (arith, c.grow.auto.lens, c.deref_mut.ensures.len)) in
    let more : at links.lens.items 0 ≤ at new.lens 0 = rw c.deref_mut.ensures.value at c.grow.ensures.more in
    rw lens_is (record {
      linked = rw c.deref.ensures.value at c.grow.ensures.linked;
      numbered = c.grow.ensures.numbered links.pushed c.self.invariant.numbered;
      enough = omega (arith, more, c.self.invariant.enough);
    })

pub invariant_of-self-2 : goal.invariant_of-self-2
invariant_of-self-2 g c =
    let links = c.self.inside in
    let new = c.grow.new in
    let lens_is : (with_items links.lens new.lens).items ≡ new.lens = with_items_is links.lens new.lens (omega (arith, c.grow.auto.lens, c.deref_mut.ensures.len)) in
    let more : at links.lens.items 0 ≤ at new.lens 0 = rw c.deref_mut.ensures.value at c.grow.ensures.more in
    rw lens_is (record {
      linked = rw c.deref.ensures.value at c.grow.ensures.linked;
      numbered = c.grow.ensures.numbered links.pushed c.self.invariant.numbered;
      enough = omega (arith, more, c.in_ok-grow.ensures.ok, c.self.invariant.enough, c.max-self-inside.ensures);
    })

pub returns-in_err-grow-clause-err : goal.returns-in_err-grow-clause-err
returns-in_err-grow-clause-err g c =
    let links = c.self.inside in
    let new = c.grow.new in
    let lens_is : (with_items links.lens new.lens).items ≡ new.lens = with_items_is links.lens new.lens (omega (arith, c.grow.auto.lens, c.deref_mut.ensures.len)) in
    on_err c.from_residual.result _ (rw (← c.self.view_is, lens_is) (ap (λ ls. seen ls links.room links.pushed) (rw (c.deref.ensures.value, c.deref_mut.ensures.value) at c.grow.ensures.lists)))
