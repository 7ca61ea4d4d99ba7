use Rattle.scalar_net.proofs.Texts.{ip_text_one_to_one}
use Rattle.scalar_net.proofs.laws.ip_texts_differ.Goals as goal

pub returns : goal.returns
returns c = ip_text_one_to_one c.args.a.now c.args.b.now
