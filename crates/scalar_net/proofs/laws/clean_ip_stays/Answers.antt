use Rattle.scalar_net.proofs.Texts.{ip_text_again}
use Rattle.scalar_net.proofs.laws.clean_ip_stays.Goals as goal

pub returns : goal.returns
returns c = ip_text_again c.args.ip.now
