use Rattle.scalar_net.proofs.Texts.{IsIpText-ip_text}
use Rattle.scalar_net.proofs.laws.printed_ip_reads_back.Goals as goal

pub returns : goal.returns
returns c = IsIpText-ip_text c.args.ip.now
