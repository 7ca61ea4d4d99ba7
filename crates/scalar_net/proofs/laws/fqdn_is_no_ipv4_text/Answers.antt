use Rattle.scalar_net.proofs.FqdnLaws.{fqdn-no_ipv4}
use Rattle.scalar_net.proofs.laws.fqdn_is_no_ipv4_text.Goals as goal

pub returns : goal.returns
returns c = λ name a is. fqdn-no_ipv4 c.args.text.now name is a
