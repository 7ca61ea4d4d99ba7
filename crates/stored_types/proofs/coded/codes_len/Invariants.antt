use Rattle.std.proofs.Common.{◌≡◌, length, min, sum_by, take}
use Rattle.base_types.specs.Number.{last_u64}
use Rattle.stored_types.proofs.coded.codes_len.Given as goal

abbrev pub invariant-items : goal.invariant-items
invariant-items g l = l.length ≡ min (sum_by (λ item. length (g.T.Coded.code item)) (take l.item-index l.items)) last_u64
