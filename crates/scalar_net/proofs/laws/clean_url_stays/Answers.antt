use Rattle.scalar_net.proofs.Urls.{url_text_again}
use Rattle.scalar_net.proofs.laws.clean_url_stays.Goals as goal

pub returns : goal.returns
returns c = url_text_again c.args.text.now
