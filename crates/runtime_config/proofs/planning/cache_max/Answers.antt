use Rattle.std.proofs.Common.{arith}
use Rattle.runtime_config.proofs.Bounds.{small_cache}
use Rattle.runtime_text.specs.Read.{entry_of, members_of}
use Rattle.runtime_config.proofs.planning.cache_max.Goals as goal

pub small-requires : goal.small-requires
small-requires c =
    let most = small_cache (members_of c.args.global.now) (entry_of c.args.bot.now) in
    let same = c.in_ok-marks.ensures in
    omega (arith, most, same)
