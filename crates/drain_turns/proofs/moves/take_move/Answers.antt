use Rattle.std.proofs.Common.{refl, sym, ◌∙◌}
use Rattle.base_types.specs.Name.{queue_name}
use Rattle.step_code.specs.State.{waiting}
use Rattle.turn_order.proofs.Actors.{takes_fit}
use Rattle.drain_turns.proofs.Moving.{is_front, never_empty, no_front}
use Rattle.drain_turns.proofs.moves.take_move.Goals as goal

pub unreachable-requires : goal.unreachable-requires
unreachable-requires g c =
    let s = c.args.core.now.state in
    never_empty g.R.Rules.meaning s c.args.bot c.args.instance c.requires.free (no_front (waiting (queue_name c.args.bot) s) (sym c.front_no.ensures ∙ c.in-None.is))

pub returns : goal.returns
returns g c =
    let s = c.args.core.now.state in
    record {
      is = record {
        is = (c.in-Some.message, refl);
        fits = takes_fit g.R.Rules.meaning s c.args.bot c.args.instance c.in-Some.message c.requires.free;
        carries = λ format now. is_front (waiting (queue_name c.args.bot) s) c.in-Some.message (sym c.front_no.ensures ∙ c.in-Some.is);
      };
    }
