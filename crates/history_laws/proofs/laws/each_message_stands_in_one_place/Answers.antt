use Rattle.std.proofs.Common.{refl, filter}
use Rattle.step_code.specs.Rules.{writes}
use Rattle.step_code.specs.History.{first}
use Rattle.history_laws.proofs.Histories.{dumps_are_made, in_no_place, in_one_place, no_zero}
use Rattle.history_laws.proofs.Lawful.{no_lines, stay_lawful}
use Rattle.history_laws.proofs.laws.each_message_stands_in_one_place.Goals as goal

pub returns : goal.returns
returns g c bots bundle steps plan legal =
    let start = first bots bundle in
    let m = g.R.Rules.meaning in
    record {
      one_place = λ number low high. in_one_place m start refl refl number steps legal low high;
      no_other = λ number low high. in_no_place m start refl refl number steps legal high;
      no_zero = no_zero m start refl refl steps legal;
      dumps = dumps_are_made m start steps refl;
      bodies = stay_lawful m g.met.R.Rules.reports_are_lawful g.met.R.Rules.given_fits start steps (bots, plan) legal
          (record { queues = tt; hands = tt; dumps = tt; outs = no_lines m (filter writes bots) });
    }
