use Rattle.scalar_net.proofs.NetworkTexts.{IsNetworkText-network_text}
use Rattle.scalar_net.proofs.laws.printed_network_reads_back.Goals as goal

pub returns : goal.returns
returns c = IsNetworkText-network_text c.args.net.now
