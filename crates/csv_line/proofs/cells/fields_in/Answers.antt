use Rattle.std.proofs.Common.{Bor, List, ℕ, ◌++◌, [], ◌∷◌, take, map, sym, ap, ◌∙◌, arith, add-one}
use Rattle.std.proofs.lemmas.List.{map-append, take_all}
use Rattle.csv.specs.Records.{fields_of}
use Rattle.csv_line.proofs.Fields.{one_field_more, no_field_more}
use Rattle.csv_line.proofs.cells.fields_in.Goals as goal

pub fields-preserved : goal.fields-preserved
fields-preserved c =
    let (within, more) = one_field_more (fields_of c.args.row.now) c.fields.at c.in-Some.cell.now c.in-Some.ensures.value in
    record {
      cells = ap (map (λ (cell : Bor (List ℕ)). cell.now)) c.in_ok-push.ensures.items
          ∙ map-append (λ (cell : Bor (List ℕ)). cell.now) c.fields.cells.items (c.in-Some.cell ∷ [])
          ∙ ap (λ (t : List (List ℕ)). t ++ c.in-Some.cell.now ∷ []) c.fields.invariant.cells
          ∙ sym more ∙ ap (λ n. take n (fields_of c.args.row.now)) (sym (add-one c.fields.at));
      within = omega (arith, within);
    }

pub fields-smaller : goal.fields-smaller
fields-smaller c =
    let (within, more) = one_field_more (fields_of c.args.row.now) c.fields.at c.in-Some.cell.now c.in-Some.ensures.value in
    omega (arith, within)

pub returns : goal.returns
returns c = c.fields.invariant.cells ∙ take_all c.fields.at (fields_of c.args.row.now) (no_field_more (fields_of c.args.row.now) c.fields.at c.in_default.ensures.value)
