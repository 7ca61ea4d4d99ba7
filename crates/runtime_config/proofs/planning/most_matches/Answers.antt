use Rattle.std.proofs.Common.{arith}
use Rattle.runtime_config.proofs.Bounds.{few_matches}
use Rattle.runtime_text.specs.Read.{entry_of, members_of}
use Rattle.runtime_config.proofs.planning.most_matches.Goals as goal

pub small-requires : goal.small-requires
small-requires c =
    let most = few_matches (members_of c.args.global.now) (entry_of c.args.bot.now) in
    let same = c.in_ok-matches.ensures in
    omega (arith, most, same)
