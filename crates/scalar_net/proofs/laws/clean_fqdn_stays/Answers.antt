use Rattle.scalar_net.proofs.FqdnLaws.{fqdn_again}
use Rattle.scalar_net.proofs.laws.clean_fqdn_stays.Goals as goal

pub returns : goal.returns
returns c = fqdn_again c.args.text.now
