use Rattle.std.proofs.Common.{◌≡◌, ◌++◌, take}
use Rattle.std.specs.List.{flat_map, AllByRecursion}
use Rattle.stored_types.specs.Coded.{Begins}
use Rattle.stored_types.proofs.coded.put_all.Given as goal

abbrev pub invariant-items : goal.invariant-items
invariant-items g l = record {
  code : l.to ≡ l.fn.to ++ flat_map g.T.Coded.code (take l.item-index l.items);
  writable : AllByRecursion g.T.Coded.has_code (take l.item-index l.items);
  kept : Begins l.fn.to l.to;
}
