use Rattle.base_types.proofs.name.joined.Goals as goal
use Rattle.base_types.proofs.Padding.{is_padded-joined}

pub invariant_of-result : goal.invariant_of-result
invariant_of-result c = is_padded-joined c.args.front.now c.args.end.now _ _ c.requires c.write_at.ensures c.write_at-2.ensures
