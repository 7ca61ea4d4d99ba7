use Rattle.std.proofs.Common.{map, sym, ap, ◌∙◌}
use Rattle.runtime_config.proofs.Faulty.{absent, last_two, later_planned, paths_known, paths_unknown, there}
use Rattle.runtime_config.proofs.KnownPaths.{paths_are}
use Rattle.runtime_config.specs.Faults.{is_known}
use Rattle.runtime_config.specs.Load.{route_of}
use Rattle.runtime_text.specs.Read.{entries_of, entry_of}
use Rattle.runtime_text.specs.Reaches.{targets}
use Rattle.runtime_text.specs.Runtime.{routes}
use Rattle.std.specs.List.{list_all}
use Rattle.runtime_config.specs.declared.fault.LoadFault.TheVariants as fault
use Rattle.runtime_config.proofs.loading.routed.Goals as goal

pub known_paths-requires : goal.known_paths-requires
known_paths-requires c = c.requires.placed.whole.sorted

pub planned-requires-clause-paths : goal.planned-requires-clause-paths
planned-requires-clause-paths c =
    let bots = entries_of c.args.at.now.whole.now.bots.now in
    let bot = entry_of c.args.at.now.bot.now in
    (paths_known (list_all (is_known bots) (targets bot)) c.in-Some.paths (map route_of (routes bot)) (sym c.in-Some.is ∙ c.in_ok-paths.ensures ∙ paths_are bots (routes bot))).1

pub returns-in-Some : goal.returns-in-Some
returns-in-Some c =
    let bots = entries_of c.args.at.now.whole.now.bots.now in
    let bot = entry_of c.args.at.now.bot.now in
    let known = (paths_known (list_all (is_known bots) (targets bot)) c.in-Some.paths (map route_of (routes bot)) (sym c.in-Some.is ∙ c.in_ok-paths.ensures ∙ paths_are bots (routes bot))).0 in
    later_planned _ _ _ c.planned.result (absent _ (fault.Queue bot.0) known) (last_two _ _ _ c.planned.result c.planned.ensures)

pub returns-in-None : goal.returns-in-None
returns-in-None c =
    let bots = entries_of c.args.at.now.whole.now.bots.now in
    let bot = entry_of c.args.at.now.bot.now in
    there _ (fault.Queue bot.0) (fault.Queue c.name.result) _ (paths_unknown (list_all (is_known bots) (targets bot)) (map route_of (routes bot)) (sym c.in-None.is ∙ c.in_ok-paths.ensures ∙ paths_are bots (routes bot)))
    (ap fault.Queue c.name.ensures)
