use Rattle.std.proofs.Common.{◌∙◌, ap, refl, set}
use Rattle.link_store.proofs.Parts.{part_written, part_kept}
use Rattle.link_store.specs.Slots.{cells}
use Rattle.link_store.proofs.slots.take_value.Goals as goal

pub returns-in-Some-clause-nexts : goal.returns-in-Some-clause-nexts
returns-in-Some-clause-nexts g c = part_kept (λ s. s.next) c.args.slots.now c.args.k _ c.index-slots-k.result c.requires refl

pub returns-in-Some-clause-prevs : goal.returns-in-Some-clause-prevs
returns-in-Some-clause-prevs g c = part_kept (λ s. s.prev) c.args.slots.now c.args.k _ c.index-slots-k.result c.requires refl

pub returns-in-Some-clause-rings : goal.returns-in-Some-clause-rings
returns-in-Some-clause-rings g c = part_kept (λ s. s.ring) c.args.slots.now c.args.k _ c.index-slots-k.result c.requires refl

pub returns-in-Some-clause-cells : goal.returns-in-Some-clause-cells
returns-in-Some-clause-cells g c = part_written (λ s. s.held) c.args.slots.now c.args.k _ ∙ ap (set (cells c.args.slots.now) c.args.k) c.take.ensures.after

pub returns-in-None-clause-cells : goal.returns-in-None-clause-cells
returns-in-None-clause-cells g c = part_written (λ s. s.held) c.args.slots.now c.args.k _ ∙ ap (set (cells c.args.slots.now) c.args.k) c.take.ensures.after
