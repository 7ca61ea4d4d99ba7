use Rattle.std.proofs.Common.{◌≡◌, map, take}
use Rattle.bot_rules.specs.Facts.{facts_of}
use Rattle.bot_rules.proofs.facts.all_facts.Given as goal

abbrev pub invariant-bots : goal.invariant-bots
invariant-bots l = l.facts.items ≡ map facts_of (take l.bot-index l.bots)
