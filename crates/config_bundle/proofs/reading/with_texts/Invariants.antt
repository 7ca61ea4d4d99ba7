use Rattle.std.proofs.Common.{◌≡◌}
use Rattle.config_bundle.proofs.reading.with_texts.Given as goal

abbrev pub invariant-files : goal.invariant-files
invariant-files l = l.named.items ≡ l.yielded
