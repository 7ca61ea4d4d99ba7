use Rattle.std.proofs.Common.{Some, ap, sym, ◌∙◌}
use Rattle.scalar_net.specs.Url.{refanged}
use Rattle.scalar_net.proofs.Urls.{no_url-not_utf8, url_text_is}
use Rattle.scalar_net.proofs.web.read_url.Goals as goal

pub returns-in_default : goal.returns-in_default
returns-in_default c = no_url-not_utf8 c.args.text.now c.in_default.ensures.cases.0

pub returns-in-Ok-parse : goal.returns-in-Ok-parse
returns-in-Ok-parse c =
    let change = c.deref.ensures ∙ c.in_ok-changed.ensures ∙ ap refanged c.in-Ok.ensures.cases.0 in
    let text = url_text_is c.args.text.now c.deref.result.now c.in-Ok-parse.url c.in-Ok.ensures.cases.1 change c.in-Ok-parse.ensures (sym c.if-has_host.ensures) in
    text ∙ ap Some (c.deref.ensures ∙ sym c.from.ensures)
