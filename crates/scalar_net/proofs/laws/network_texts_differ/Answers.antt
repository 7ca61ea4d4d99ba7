use Rattle.scalar_net.proofs.NetworkTexts.{network_text_one_to_one}
use Rattle.scalar_net.proofs.laws.network_texts_differ.Goals as goal

pub returns : goal.returns
returns c = network_text_one_to_one c.args.a.now c.args.b.now
