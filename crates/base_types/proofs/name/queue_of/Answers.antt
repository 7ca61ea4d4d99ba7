use Rattle.std.proofs.Common.{arith, length, ap}
use Rattle.base_types.proofs.Names.{length-bot_name}
use Rattle.base_types.proofs.name.queue_of.Goals as goal

pub joined-requires : goal.joined-requires
joined-requires c = omega (arith, length-bot_name c.args.bot.now c.bytes.ensures.name, ap length c.bytes.ensures.bytes)
