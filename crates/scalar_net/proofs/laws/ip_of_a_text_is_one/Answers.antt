use Rattle.scalar_net.proofs.Addresses.{IsIpText_unique}
use Rattle.scalar_net.proofs.laws.ip_of_a_text_is_one.Goals as goal

pub returns : goal.returns
returns c = IsIpText_unique c.args.text.now
