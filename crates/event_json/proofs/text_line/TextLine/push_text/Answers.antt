use Rattle.std.proofs.Common.{ap, sym, ◌∙◌, ◌++◌}
use Rattle.std.proofs.lemmas.Str.{is_utf8-from_IsUtf8}
use Rattle.base_types.specs.JsonText.{quoted}
use Rattle.field_types.specs.declared.value.Value.TheVariants as as_value
use Rattle.event_json.specs.Direct.{last_name}
use Rattle.event_json.proofs.Lines.{pair_put, text_is_quoted}
use Rattle.event_json.proofs.text_line.TextLine.push_text.Goals as goal

pub returns : goal.returns
returns c = λ taken.
    pair_put c.args.name.now c.self.inside.text.items (last_name c.self.inside.known c.self.inside.last.items) c.push_quoted.new.out.items (as_value.Text c.args.text.now) c.args.self.now c.enter.new.self
    (c.in_ok-enter.ensures.name c.if-not-branch.false) (sym c.self.view_is) c.in_ok-enter.ensures.utf8 (is_utf8-from_IsUtf8 c.args.text.now c.utf8.text)
    (c.in_ok-push_quoted.ensures ∙ ap (λ t. c.self.inside.text.items ++ t) (ap quoted c.as_bytes.ensures.value ∙ text_is_quoted c.args.text.now))
