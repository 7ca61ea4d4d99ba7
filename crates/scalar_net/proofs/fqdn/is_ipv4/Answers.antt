use Rattle.std.proofs.Common.{◌∙◌}
use Rattle.scalar_net.proofs.WholeTexts.{is_ok-parses}
use Rattle.scalar_net.proofs.fqdn.is_ipv4.Goals as goal

pub returns : goal.returns
returns c = c.is_ok.ensures.value ∙ is_ok-parses c.args.name.now _ c.parse_ascii.ensures
