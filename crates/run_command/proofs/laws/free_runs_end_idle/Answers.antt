use Rattle.std.proofs.Common.{◌≡◌, ℕ, List, Some, sym, subst}
use Rattle.step_code.specs.declared.rules.Facts.{Facts}
use Rattle.step_code.specs.Rules.{AreSound, Meaning}
use Rattle.journal_book.specs.Laws.{WhatStandsOpens}
use Rattle.run_command.proofs.Freely.{runs_end_idle}
use Rattle.run_command.proofs.laws.free_runs_end_idle.Goals as goal

pub returns : goal.returns
returns g c = λ steps by o feeds files asked old new now e before after same fine free call.
    runs_end_idle g.D.Disk.disk (g.D.Disk.disk old) (g.D.Disk.disk new) (g.met.D.Disk.honest old) steps by o fine
    (subst (λ (m : Meaning). (bundle : List ℕ) (bots : List Facts) → m.facts bundle ≡ Some bots → AreSound bots) (sym same) g.met.R.Rules.bots_are_sound)
    (subst WhatStandsOpens (sym same) c.what_stands_opens.ensures) feeds files asked free now e before after call
