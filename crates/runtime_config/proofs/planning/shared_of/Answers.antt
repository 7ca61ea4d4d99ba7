use Rattle.runtime_config.proofs.planning.shared_of.Goals as goal

pub returns : goal.returns
returns c = record {
  instances_are = c.in_ok-instances.ensures;
  retries_are = c.in_ok-retries.ensures;
  delay_is = c.in_ok-whole.ensures;
  stop_is = c.in_ok-stops.ensures;
}
