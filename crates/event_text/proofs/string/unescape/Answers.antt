use Rattle.std.proofs.Common.{◌+◌, ◌-◌, length, take, drop, ap, sym, ◌∙◌, ◌++◌, ◌∷◌, []}
use Rattle.event_text.specs.Decode.{unescaped}
use Rattle.event_text.proofs.Unescaped.{to_escape, escape_more, no_escape}
use Rattle.event_text.proofs.string.unescape.Goals as goal

pub escapes-preserved : goal.escapes-preserved
escapes-preserved c =
    let rest = c.escapes.rest.now in let at = c.in-Some.at in
    escape_more c.args.content.now c.escapes.text.items rest (take (length rest - (at + 1)) (drop (at + 1) rest)) c.escaped_byte-byte.result.1.now (take at rest) c.escaped_byte-byte.result.0
    c.escapes.invariant (to_escape rest at c.in-Some.ensures) c.escaped_byte-byte.ensures.read
    ∙ ap (λ text. text ++ unescaped c.escaped_byte-byte.result.1.now) (ap (λ text. text ++ c.escaped_byte-byte.result.0 ∷ []) (sym c.in_ok-extend_from_slice.ensures.items) ∙ sym c.in_ok-push.ensures.items)

pub returns : goal.returns
returns c =
    c.in_ok-extend_from_slice-2.ensures.items
    ∙ ap (λ rest. c.escapes.text.items ++ rest) (sym (no_escape c.escapes.rest.now c.in_default.ensures))
    ∙ sym c.escapes.invariant
