use Rattle.std.proofs.Common.{◌∷◌, drop, sym, ap, ◌∙◌}
use Rattle.std.proofs.lemmas.List.{take_rest}
use Rattle.event_text.specs.Decode.{unescaped}
use Rattle.event_text.proofs.Unescaped.{control_read}
use Rattle.event_text.proofs.string.escaped_control.Goals as goal

pub returns-in-len4-up-clause-read : goal.returns-in-len4-up-clause-read
returns-in-len4-up-clause-read c =
    let bytes = c.args.bytes.now in
    control_read bytes c.in-len4-up.len_at_least
    ∙ ap (λ b. b ∷ unescaped (drop 4 bytes)) (sym c.control.ensures)
    ∙ ap (λ rest. c.control.result ∷ unescaped rest) (sym (take_rest bytes 4))
