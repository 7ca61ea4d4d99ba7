use Rattle.std.proofs.Common.{ap, ◌∙◌, arith}
use Rattle.std.specs.FinMap.{get}
use Rattle.event_model.specs.Fields.{FieldMap}
use Rattle.event_model.proofs.Pairs.{stands_in, stands_inside, found_value}
use Rattle.event_model.proofs.fields.Fields.get_near.Goals as goal

pub returns-in-Ok : goal.returns-in-Ok
returns-in-Ok c =
    found_value c.args.key.now c.self.inside.pairs.items c.in-Ok.i c.index.result.now
    (stands_in c.args.key.now c.self.inside.pairs.items c.args.self.now c.in-Ok.i c.self.invariant c.self.view_is c.in-Ok.ensures.place) c.index.ensures
    ∙ ap (λ (m : FieldMap). get m c.args.key.now) c.self.view_is

pub index-requires : goal.index-requires
index-requires c =
    let within = stands_inside c.args.key.now c.self.inside.pairs.items c.in-Ok.i
    (stands_in c.args.key.now c.self.inside.pairs.items c.args.self.now c.in-Ok.i c.self.invariant c.self.view_is c.in-Ok.ensures.place) in
    let size = c.self.inside.pairs.ok.0 in
    omega (arith, within, size)
