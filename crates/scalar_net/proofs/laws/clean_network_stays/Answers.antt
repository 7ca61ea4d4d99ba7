use Rattle.scalar_net.proofs.NetworkTexts.{network_text_again}
use Rattle.scalar_net.proofs.laws.clean_network_stays.Goals as goal

pub returns : goal.returns
returns c = network_text_again c.args.net.now
