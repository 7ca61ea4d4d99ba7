use Rattle.std.proofs.Common.{◌≡◌, map, take, drop}
use Rattle.runtime_config.specs.Faults.{fault_of, first_fault, first_some, places_from}
use Rattle.runtime_config.specs.Load.{planned}
use Rattle.runtime_text.specs.Read.{entries_of, members_of}
use Rattle.runtime_config.specs.Whole.{runtime_as, AreSumsOver}
use Rattle.runtime_config.proofs.loading.load_bots.Given as goal

-- the bots so far are planned, and none of them has a fault
abbrev pub invariant-bots : goal.invariant-bots
invariant-bots l = record {
  done : l.bots ≡ map (planned l.whole.bundle.now (members_of l.whole.global.now)) (take l.at (entries_of l.whole.bots.now));
  faults : first_some (map fault_of (places_from l.whole.bundle.now (runtime_as l.whole) (take l.at (entries_of l.whole.bots.now)) (drop l.at (entries_of l.whole.bots.now))))
      ≡ first_fault l.whole.bundle.now (runtime_as l.whole);
  sums : AreSumsOver l.whole (take l.at (entries_of l.whole.bots.now)) l.sums;
}
