-- The fields by which an event is told from others.
use Rattle.event_model.specs.Fields.{FieldMap}
use Rattle.event_model.specs.Edits.{restricted}
use Rattle.expert_rules.specs.declared.chosen.DedupRule.{DedupRule}

-- the fields of these names alone are kept, or all others
abbrev pub chosen : DedupRule → FieldMap → FieldMap
chosen rule fields = restricted rule.keys rule.keep fields
