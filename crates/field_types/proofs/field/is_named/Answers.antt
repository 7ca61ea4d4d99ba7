use Rattle.std.proofs.Common.{is_some, option_map, option_and_then, sym, ap, subst, ◌∙◌}
use Rattle.std.specs.Prelude.{IsUtf8}
use Rattle.std.proofs.lemmas.Option.{slice_get-map, slice_get_past}
use Rattle.std.proofs.lemmas.Slice.Eq.{bytes_eq-Decides}
use Rattle.std.proofs.lemmas.Str.{is_utf8-from_IsUtf8}
use Rattle.field_types.specs.Hash.{if_named}
use Rattle.field_types.proofs.field.is_named.Goals as goal

pub returns-in-Some-clause-utf8 : goal.returns-in-Some-clause-utf8
returns-in-Some-clause-utf8 c = λ is.
    is_utf8-from_IsUtf8 c.args.name.now (subst IsUtf8 ((bytes_eq-Decides c.as_bytes.result.now c.args.name.now).0 (sym c.eq.ensures ∙ is)) c.as_bytes.ensures.utf8)

pub returns-in-None-clause-named : goal.returns-in-None-clause-named
returns-in-None-clause-named c =
    sym (ap (λ o. is_some (option_and_then (if_named c.args.name.now) o)) (slice_get-map (λ row. (row.0.now, row.1)) c.args.rows.now c.args.at ∙ ap (option_map (λ row. (row.0.now, row.1))) (slice_get_past c.args.rows.now c.args.at c.in-None.ensures.lookup.3)))
