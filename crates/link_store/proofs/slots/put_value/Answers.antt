use Rattle.std.proofs.Common.{refl}
use Rattle.link_store.proofs.Parts.{part_written, part_kept}
use Rattle.link_store.proofs.slots.put_value.Goals as goal

pub returns-clause-cells : goal.returns-clause-cells
returns-clause-cells g c = part_written (λ s. s.held) c.args.slots.now c.args.k _

pub returns-clause-nexts : goal.returns-clause-nexts
returns-clause-nexts g c = part_kept (λ s. s.next) c.args.slots.now c.args.k _ c.index-slots-k.result c.requires refl

pub returns-clause-prevs : goal.returns-clause-prevs
returns-clause-prevs g c = part_kept (λ s. s.prev) c.args.slots.now c.args.k _ c.index-slots-k.result c.requires refl

pub returns-clause-rings : goal.returns-clause-rings
returns-clause-rings g c = part_kept (λ s. s.ring) c.args.slots.now c.args.k _ c.index-slots-k.result c.requires refl
