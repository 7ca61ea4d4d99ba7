use Rattle.scalar_net.proofs.WholeTexts.{is_ipv4-exact}
use Rattle.scalar_net.proofs.laws.ipv4_test_is_exact.Goals as goal

pub returns : goal.returns
returns c = is_ipv4-exact c.args.text.now
