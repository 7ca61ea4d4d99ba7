use Rattle.scalar_net.proofs.NetworkTexts.{IsInside-IsNetworkOf}
use Rattle.scalar_net.proofs.laws.network_of_what_it_holds.Goals as goal

pub returns : goal.returns
returns c = IsInside-IsNetworkOf c.args.net.now c.args.ip.now
