use Rattle.std.proofs.Common.{◌≡◌, ℕ, List, Some, Ok, sym, ap, subst, ◌∙◌}
use Rattle.event_model.specs.Fields.{FieldMap}
use Rattle.feed_rows.specs.Reports.{content_in, others}
use Rattle.feed_rows.specs.Rows.{parsed}
use Rattle.feed_rows.specs.declared.parsed.Parsed.{Parsed}
use Rattle.feed_csv.specs.Laws.{AreAll}
use Rattle.feed_csv.specs.Rows.{body_of, csv_parsed, csv_rows, header_of, of_content}
use Rattle.feed_csv.specs.declared.rule.CsvRule.{CsvRule}
use Rattle.feed_csv.proofs.Lines.{rows_are_all}
use Rattle.feed_csv.proofs.laws.none_is_lost.Goals as goal

lost : (rule : CsvRule) (report : FieldMap) (content : List ℕ) (all : Parsed) → content_in report ≡ Some content → csv_parsed rule report ≡ Ok all
    → AreAll rule (others report) (header_of rule content) (body_of rule content) all.events all.bad
unfolding csv_parsed
lost rule report content all has is =
    let rows = csv_rows rule (others report) (header_of rule content) (body_of rule content) in
    let given : of_content rule report (Some content) ≡ Ok all = sym (ap (of_content rule report) has) ∙ is in
    let same : parsed rows ≡ all = cc in
    subst (λ (p : Parsed). AreAll rule (others report) (header_of rule content) (body_of rule content) p.events p.bad)
    same
    (rows_are_all rule (others report) (header_of rule content) (body_of rule content))

pub returns : goal.returns
returns c = lost
