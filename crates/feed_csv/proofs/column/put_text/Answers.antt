use Rattle.std.proofs.Common.{◌≡◌, ℕ, List, Result, Ok, MatchResult, sym, ap, subst, ◌∙◌}
use Rattle.std.proofs.lemmas.Str.{is_utf8-from_IsUtf8}
use Rattle.base_types.specs.declared.message.FaultNote.{FaultNote}
use Rattle.scalar_text.specs.Strip.{strip}
use Rattle.scalar_text.proofs.Stripped.{strip-strip}
use Rattle.event_model.specs.Fields.{FieldMap}
use Rattle.feed_rows.specs.Rows.{IsFaultOf}
use Rattle.feed_csv.specs.Columns.{put_stripped}
use Rattle.feed_csv.proofs.Cellwise.{put_is}
use Rattle.feed_csv.proofs.column.put_text.Goals as goal

pub put_stripped-requires : goal.put_stripped-requires
put_stripped-requires c = ap strip c.strip.ensures ∙ strip-strip c.args.cell.now ∙ sym c.strip.ensures

pub returns : goal.returns
returns c =
    let column = c.args.column.now in
    let event = c.args.event.now in
    subst (λ (r : Result FieldMap FaultNote). MatchResult c.put_stripped.result (λ x. r ≡ Ok c.put_stripped.new.event) (IsFaultOf r))
    (ap (λ (t : List ℕ). put_stripped c.args.number column t event) c.strip.ensures
    ∙ sym (put_is c.args.number column c.args.cell.now event (is_utf8-from_IsUtf8 c.args.cell.now c.utf8.cell))) c.put_stripped.ensures
