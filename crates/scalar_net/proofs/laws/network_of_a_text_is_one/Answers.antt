use Rattle.scalar_net.proofs.Networks.{IsNetworkText_unique}
use Rattle.scalar_net.proofs.laws.network_of_a_text_is_one.Goals as goal

pub returns : goal.returns
returns c = IsNetworkText_unique c.args.text.now
