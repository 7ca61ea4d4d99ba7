use Rattle.runtime_config.proofs.planning.dedup.Goals as goal

pub returns : goal.returns
returns c = λ bundle. cc (c.in_ok-lines.ensures, c.in_ok-filter.ensures, c.is_allowing.ensures, c.in_ok-whole.ensures, c.in_ok-cache_max.ensures)
