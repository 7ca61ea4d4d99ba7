use Rattle.std.proofs.Common.{◌≤◌, ◌∙◌, sym, subst, arith, slice_index_or}
use Rattle.std.proofs.lemmas.List.{take_all, take_more}
use Rattle.std.proofs.lemmas.Option.{slice_get_within}
use Rattle.prefix_table.specs.Growing.{ArePartsOf}
use Rattle.prefix_table.proofs.Parting.{above, parts_least, parts_none, parts_one, parts_zero, row_at, row_shown}
use Rattle.prefix_table.proofs.growing.parted.Goals.{then-row-len, else-row-len+then-bit_at+in_ok-push, else-row-len+else-bit_at+in_ok-push-2}
use Rattle.prefix_table.proofs.growing.parted.Goals as goal

pub places-init : goal.places-init
places-init c = rw (c.new-zeros.ensures.items, c.new-ones.ensures.items) (parts_none c.args.rows.now c.args.len)

pub bounds-rows-place : goal.bounds-rows-place
bounds-rows-place c =
    let here = row_at c.args.rows.now c.requires.0 c.args.len c.requires.1 c.args.places.now c.places.place-index c.requires.2 c.places-test.true in
    slice_get_within c.args.rows.now (slice_index_or c.args.places.now c.places.place-index 0) here.row here.stands

pub places-preserved : goal.places-preserved
places-preserved c =
    let rows = c.args.rows.now in
    let places = c.args.places.now in
    let k = c.places.place-index in
    let place = slice_index_or places k 0 in
    let row = c.index-rows-place.result in
    let here = row_at rows c.requires.0 c.args.len c.requires.1 places k c.requires.2 c.places-test.true in
    let within = slice_get_within rows place here.row here.stands in
    let shown = row_shown rows c.requires.0 c.args.len c.requires.1 place row c.index-rows-place.is within here in
    let long : c.args.len ≤ row.len = shown.1.long in
    rw (take_more places k 0 c.places-test.true)
    (elim c.if-row-len.branch [
      | then-row-len w ↦ rw (w.least-is, w.lesser.ensures, w.zeros-is, w.ones-is) (parts_least rows c.args.len place _ c.places.least c.places.zeros.items c.places.ones.items (record { row = row; stands = shown.0; as_long = w.if-row-len.true }) c.places.invariant)
      | else-row-len+then-bit_at+in_ok-push w ↦ rw (w.least-is, w.zeros-is, w.ones-is, w.in_ok-push.ensures.items) (parts_one rows c.args.len place _ c.places.least c.places.zeros.items c.places.ones.items
          (record { row = row; stands = shown.0; longer = above c.args.len row.len long w.if-row-len.false; goes_on = sym w.bit_at.ensures ∙ w.if-bit_at.true }) c.places.invariant)
      | else-row-len+else-bit_at+in_ok-push-2 w ↦ rw (w.least-is, w.zeros-is, w.ones-is, w.in_ok-push-2.ensures.items) (parts_zero rows c.args.len place _ c.places.least c.places.zeros.items c.places.ones.items
          (record { row = row; stands = shown.0; longer = above c.args.len row.len long w.if-row-len.false; goes_on = sym w.bit_at.ensures ∙ w.if-bit_at.false }) c.places.invariant)
    ])

pub returns : goal.returns
returns c =
    subst (λ l. ArePartsOf c.args.rows.now c.args.len l c.places.least c.places.zeros.items c.places.ones.items)
    (take_all c.places.place-index c.args.places.now (omega (arith, c.places-test.false, c.places.auto.place-index-end))) c.places.invariant
