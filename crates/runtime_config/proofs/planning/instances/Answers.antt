use Rattle.std.proofs.Common.{arith}
use Rattle.runtime_config.proofs.Bounds.{few_instances}
use Rattle.runtime_text.specs.Read.{entry_of, members_of}
use Rattle.runtime_config.proofs.planning.instances.Goals as goal

pub byte-requires : goal.byte-requires
byte-requires c =
    let most = few_instances (members_of c.args.global.now) (entry_of c.args.bot.now) in
    let same = c.in_ok-threads.ensures in
    omega (arith, most, same)
