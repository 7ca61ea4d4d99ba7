use Rattle.std.proofs.Common.{ap, ◌∙◌, ◌++◌, arith}
use Rattle.std.specs.Str.{bytes_eq}
use Rattle.base_types.specs.JsonText.{quoted}
use Rattle.event_text.proofs.Unescaped.{quoted_inside}
use Rattle.event_text.proofs.string.is_content_of.Goals as goal

pub returns-in-len2-up : goal.returns-in-len2-up
returns-in-len2-up c =
    let whole = c.as_slice.ensures.value ∙ c.in_ok-push_quoted.ensures ∙ ap (λ front. front ++ quoted c.args.text.now) c.in_ok-written.ensures.items in
    c.eq.ensures ∙ ap (λ bytes. bytes_eq bytes c.args.content.now) (quoted_inside c.as_slice.result.now c.args.text.now whole).1

pub returns : goal.returns
returns c =
    let whole = c.as_slice.ensures.value ∙ c.in_ok-push_quoted.ensures ∙ ap (λ front. front ++ quoted c.args.text.now) c.in_ok-written.ensures.items in
    absurd (omega (arith, (quoted_inside c.as_slice.result.now c.args.text.now whole).0, c.in_default.len_below))
