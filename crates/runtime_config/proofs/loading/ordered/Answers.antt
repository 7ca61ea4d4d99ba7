use Rattle.std.proofs.Common.{◌<◌, length, subst, sym, ap, ◌∙◌}
use Rattle.std.proofs.lemmas.List.{length-map}
use Rattle.runtime_config.proofs.Faulty.{absent, later_planned, there}
use Rattle.runtime_text.proofs.Ways.{get_inside}
use Rattle.runtime_text.specs.Read.{entries_of, entry_of}
use Rattle.runtime_config.specs.declared.fault.LoadFault.TheVariants as fault
use Rattle.runtime_config.proofs.loading.ordered.Goals as goal

pub is_on_cycle-requires : goal.is_on_cycle-requires
is_on_cycle-requires c =
    let at = c.args.at.now in
    record {
      whole = c.requires.placed.whole;
      place = subst (λ n. length at.before.now < n) (length-map at.whole.now.bots.now entry_of) (get_inside (entries_of at.whole.now.bots.now) (length at.before.now) (entry_of at.bot.now) c.requires.placed.place);
    }

pub returns-then-branch-clause-found : goal.returns-then-branch-clause-found
returns-then-branch-clause-found c =
    let bot = entry_of c.args.at.now.bot.now in
    there _ (fault.Cycle bot.0) (fault.Cycle c.name.result) _ (sym (c.in_ok-is_on_cycle.ensures bot c.requires.placed.place) ∙ c.if-branch.true) (ap fault.Cycle c.name.ensures)

pub returns-clause-found : goal.returns-clause-found
returns-clause-found c =
    let bot = entry_of c.args.at.now.bot.now in
    later_planned _ _ _ c.limited.result (absent _ (fault.Cycle bot.0) (sym (c.in_ok-is_on_cycle.ensures bot c.requires.placed.place) ∙ c.if-branch.false)) c.limited.ensures.found
