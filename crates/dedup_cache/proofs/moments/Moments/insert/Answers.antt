use Rattle.std.proofs.Common.{Some, cond, sym, ap}
use Rattle.std.specs.Str.{bytes_eq}
use Rattle.dedup_cache.specs.Kept.{last_or, mapped}
use Rattle.dedup_cache.proofs.moments.Moments.insert.Goals as goal

pub returns : goal.returns
returns c = λ other.
    ap (λ l. cond (bytes_eq c.args.key.items other) (Some c.args.moment) (last_or other l (mapped other c.args.self.now.map))) (sym c.requires)
