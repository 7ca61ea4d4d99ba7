use Rattle.std.proofs.Common.{sym, ◌∙◌, arith}
use Rattle.command_words.specs.Asked.{is_one_of}
use Rattle.command_words.proofs.Ahead.{no_pair, pair_behind}
use Rattle.command_words.proofs.pairs.are_pairs.Goals as goal

pub returns-then-not-is_new : goal.returns-then-not-is_new
returns-then-not-is_new c =
    sym (c.pairs.invariant ∙ no_pair (is_one_of c.args.names.now) c.pairs.rest.now c.name-item.result (omega (arith, c.in-len2-up.len_at_least)) c.name-item.is (sym c.if-not-is_new.ensures))

pub pairs-preserved : goal.pairs-preserved
pairs-preserved c =
    c.pairs.invariant ∙ pair_behind (is_one_of c.args.names.now) c.pairs.rest.now c.name-item.result (omega (arith, c.in-len2-up.len_at_least)) c.name-item.is (sym c.if-not-is_new.ensures)
