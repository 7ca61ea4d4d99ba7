use Rattle.std.proofs.Common.{List, ℕ, sym, ap, ◌∙◌}
use Rattle.std.proofs.lemmas.Str.{is_utf8-from_IsUtf8}
use Rattle.feed_csv.specs.Columns.{attempt_text}
use Rattle.feed_csv.proofs.Canonical.{sets_field}
use Rattle.feed_csv.proofs.Cellwise.{attempt_is}
use Rattle.feed_csv.proofs.column.put_stripped.Goals as goal

pub put_named-requires : goal.put_named-requires
put_named-requires c =
    let column = c.args.column.now in
    let text = c.args.text.now in
    sets_field column.stamp text column.names c.in-Sets.name c.in-Sets.kept
    (attempt_is column.stamp text column.names (is_utf8-from_IsUtf8 text c.utf8.text)
    ∙ ap (λ (t : List ℕ). attempt_text column.stamp t column.names) c.requires ∙ sym c.in_ok-attempt.ensures ∙ c.in-Sets.is)
