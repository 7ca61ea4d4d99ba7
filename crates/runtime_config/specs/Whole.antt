-- What loading looks at.
use Rattle.std.specs.Prelude.{◌≡◌, List, [], ◌∷◌, ◌++◌, ◌||◌, Bool, true, length, map, Some, Result}
use Rattle.std.specs.List.{slice_get}
use Rattle.std.specs.FinMap.{is_sorted}
use Rattle.std.specs.Ordering.{nat_cmp}
use Rattle.std.specs.Cmp.Lexicographic.{slice_cmp}
use Rattle.runtime_config.specs.Faults.{bot_sieve, fault_of, pass_together, passes_own, passes_patterns, Place}
use Rattle.runtime_config.specs.Found.{IsPlannedAs}
use Rattle.runtime_config.specs.Load.{planned}
use Rattle.runtime_config.specs.Sums.{AreSmall, AreSums}
use Rattle.runtime_config.specs.declared.fault.LoadFault.{LoadFault}
use Rattle.runtime_config.specs.declared.limits.Sums.{Sums}
use Rattle.runtime_config.specs.declared.plan.Planned.{Planned}
use Rattle.runtime_text.specs.Read.{entries_of, entry_of, members_of}
use Rattle.runtime_text.specs.Runtime.{Entry, Runtime}
use Rattle.runtime_text.specs.Wires.{graph_of}
use Rattle.runtime_config.specs.declared.whole.PlacedBot.{PlacedBot}
use Rattle.runtime_config.specs.declared.whole.Whole.{Whole}
use Rattle.sieve_tree.specs.SieveView.{SieveView}

-- the names of the bots rise, and the graph is theirs
pub record IsWhole (w : Whole) : Type 0 where
  pub sorted : is_sorted (slice_cmp nat_cmp) (entries_of w.bots.now) ≡ true
  pub wired : map (λ wires. wires.items) w.graph.now ≡ graph_of (entries_of w.bots.now)

abbrev pub runtime_as : Whole → Runtime
runtime_as w = record { global = members_of w.global.now; bots = entries_of w.bots.now }

-- a bot behind these
abbrev pub place_at : Whole → List Entry → Entry → Place
place_at w before bot = record { bundle = w.bundle.now; runtime = runtime_as w; before = before; bot = bot }

abbrev pub place_of : PlacedBot → Place
place_of b = place_at b.whole.now (entries_of b.before.now) (entry_of b.bot.now)

-- the bot stands there among those of the whole
pub record IsPlaced (b : PlacedBot) : Type 0 where
  pub whole : IsWhole b.whole.now
  pub place : slice_get (entries_of b.whole.now.bots.now) (length b.before.now) ≡ Some (entry_of b.bot.now)

-- the sieve of the bot at a place, and its plan
abbrev pub sieve_at : Place → SieveView
sieve_at p = bot_sieve p.bundle p.runtime.global p.bot

abbrev pub planned_at : Place → Planned
planned_at p = planned p.bundle p.runtime.global p.bot

-- one of the bot's numbers is above its limit, or one over it and those before it
abbrev pub is_past : Place → Bool
is_past p =
    passes_patterns p.bundle p.runtime.global p.bot
    || (passes_own p.bundle p.runtime.global p.bot || pass_together p.bundle p.runtime.global (p.before ++ p.bot ∷ []))

-- a bot behind these was planned and has no fault, or has that fault
abbrev pub IsPlannedThere : Whole → List Entry → Entry → Result Planned LoadFault → Type 0
IsPlannedThere w before bot result = IsPlannedAs (fault_of (place_at w before bot)) (planned_at (place_at w before bot)) result

-- the sums over these bots of a whole, of which none is above its limit
pub record AreSumsOver (w : Whole) (bots : List Entry) (s : Sums) : Type 0 where
  pub sums : AreSums w.bundle.now (members_of w.global.now) bots s
  pub small : AreSmall s

-- those over the bots before this one; and over it too
abbrev pub AreSumsBefore : PlacedBot → Sums → Type 0
AreSumsBefore b s = AreSumsOver b.whole.now (entries_of b.before.now) s

abbrev pub AreSumsWith : PlacedBot → Sums → Type 0
AreSumsWith b s = AreSumsOver b.whole.now (entries_of b.before.now ++ entry_of b.bot.now ∷ []) s
