use Rattle.std.proofs.Common.{◌≤◌, ◌+◌, ◌*◌, ◌∙◌, true, false, sym, ap, refl, subst}
use Rattle.std.specs.Prelude.{slice_get}
use Rattle.std.proofs.lemmas.Option.{slice_get_within}
use Rattle.scalar_net.specs.Family.{width}
use Rattle.prefix_table.specs.Growing.{AreRows, ArePartsOf, begins}
use Rattle.prefix_table.proofs.Grown.{falls_on, grown_node, grown_none, nothing_first, rows_on, within_width}
use Rattle.prefix_table.proofs.Parting.{front_place, row_shown, rows_lent, rows_plain}
use Rattle.prefix_table.proofs.growing.+grow.Goals as goal

pub returns-in_default : goal.returns-in_default
returns-in_default t c =
    grown_none c.args.rows.now c.args.six c.args.len c.args.places.items c.args.nodes.now
    (nothing_first c.args.places.items (ap (λ l. slice_get l 0) (sym c.deref.ensures.value) ∙ sym c.in_default.ensures.value))

pub bounds-rows-place : goal.bounds-rows-place
bounds-rows-place t c =
    let rows = c.args.rows.now in
    let places = c.args.places.items in
    let place = c.in-Some.place.now in
    let has = front_place places place (sym (c.in-Some.ensures.value ∙ ap (λ l. slice_get l 0) c.deref.ensures.value)) in
    let here = c.requires.1 place has in
    let within = slice_get_within rows place here.row here.stands in
    within

pub common_bits-len-requires : goal.common_bits-len-requires
common_bits-len-requires t c =
    let rows = c.args.rows.now in
    let places = c.args.places.items in
    let place = c.in-Some.place.now in
    let has = front_place places place (sym (c.in-Some.ensures.value ∙ ap (λ l. slice_get l 0) c.deref.ensures.value)) in
    let here = c.requires.1 place has in
    let within = slice_get_within rows place here.row here.stands in
    let first = c.index-rows-place.result in
    let shown = row_shown rows c.args.six c.args.len c.requires.0 place first c.index-rows-place.is within here in
    let family = shown.1.family in
    rows_lent rows first.ip.six c.args.six 0 0 c.deref-2.result.now places (sym c.deref-2.ensures.value) (sym family) (rows_plain rows c.args.six c.args.len c.requires.0 places c.requires.1)

pub parted-requires : goal.parted-requires
parted-requires t c =
    let rows = c.args.rows.now in
    let places = c.args.places.items in
    let place = c.in-Some.place.now in
    let has = front_place places place (sym (c.in-Some.ensures.value ∙ ap (λ l. slice_get l 0) c.deref.ensures.value)) in
    let here = c.requires.1 place has in
    let within = slice_get_within rows place here.row here.stands in
    let first = c.index-rows-place.result in
    let shown = row_shown rows c.args.six c.args.len c.requires.0 place first c.index-rows-place.is within here in
    let family = shown.1.family in
    let deep = c.common_bits-len.result in
    let all = rows_lent rows c.args.six first.ip.six deep (begins deep first) places c.deref-2.result.now c.deref-2.ensures.value family c.common_bits-len.ensures.rows in
    (c.args.six, begins deep first, rows_lent rows c.args.six c.args.six deep (begins deep first) c.deref-3.result.now places (sym c.deref-3.ensures.value) refl all)

pub grow-requires : goal.grow-requires
grow-requires t c =
    let rows = c.args.rows.now in
    let places = c.args.places.items in
    let place = c.in-Some.place.now in
    let has = front_place places place (sym (c.in-Some.ensures.value ∙ ap (λ l. slice_get l 0) c.deref.ensures.value)) in
    let here = c.requires.1 place has in
    let within = slice_get_within rows place here.row here.stands in
    let first = c.index-rows-place.result in
    let shown = row_shown rows c.args.six c.args.len c.requires.0 place first c.index-rows-place.is within here in
    let family = shown.1.family in
    let deep = c.common_bits-len.result in
    let all = rows_lent rows c.args.six first.ip.six deep (begins deep first) places c.deref-2.result.now c.deref-2.ensures.value family c.common_bits-len.ensures.rows in
    let le : c.args.len ≤ deep =
    c.common_bits-len.ensures.known c.args.len shown.1.long
    (rows_lent rows first.ip.six c.args.six c.args.len (begins c.args.len first) c.deref-2.result.now places (sym c.deref-2.ensures.value) (sym family)
    (subst (λ l. AreRows rows c.args.six c.args.len l places) (sym shown.1.begins_so) c.requires.1)) in
    let parts = subst (λ l. ArePartsOf rows deep l c.in_ok-row.field-0.row c.in_ok-row.field-0.zeros.items c.in_ok-row.field-0.ones.items) c.deref-3.ensures.value c.in_ok-row.ensures in
    let most : deep ≤ width c.args.six = within_width c.args.six first deep family c.common_bits-len.ensures.most in
    (falls_on (width c.args.six) c.args.len deep t le most c.decreases, (2 * begins deep first + 0, rows_on rows c.args.six deep (begins deep first) false places _ all parts.zeros_are))

pub grow-requires-2 : goal.grow-requires-2
grow-requires-2 t c =
    let rows = c.args.rows.now in
    let places = c.args.places.items in
    let place = c.in-Some.place.now in
    let has = front_place places place (sym (c.in-Some.ensures.value ∙ ap (λ l. slice_get l 0) c.deref.ensures.value)) in
    let here = c.requires.1 place has in
    let within = slice_get_within rows place here.row here.stands in
    let first = c.index-rows-place.result in
    let shown = row_shown rows c.args.six c.args.len c.requires.0 place first c.index-rows-place.is within here in
    let family = shown.1.family in
    let deep = c.common_bits-len.result in
    let all = rows_lent rows c.args.six first.ip.six deep (begins deep first) places c.deref-2.result.now c.deref-2.ensures.value family c.common_bits-len.ensures.rows in
    let le : c.args.len ≤ deep =
    c.common_bits-len.ensures.known c.args.len shown.1.long
    (rows_lent rows first.ip.six c.args.six c.args.len (begins c.args.len first) c.deref-2.result.now places (sym c.deref-2.ensures.value) (sym family)
    (subst (λ l. AreRows rows c.args.six c.args.len l places) (sym shown.1.begins_so) c.requires.1)) in
    let parts = subst (λ l. ArePartsOf rows deep l c.in_ok-row.field-0.row c.in_ok-row.field-0.zeros.items c.in_ok-row.field-0.ones.items) c.deref-3.ensures.value c.in_ok-row.ensures in
    let most : deep ≤ width c.args.six = within_width c.args.six first deep family c.common_bits-len.ensures.most in
    (falls_on (width c.args.six) c.args.len deep t le most c.decreases, (2 * begins deep first + 1, rows_on rows c.args.six deep (begins deep first) true places _ all parts.ones_are))

pub returns : goal.returns
returns t c =
    let rows = c.args.rows.now in
    let places = c.args.places.items in
    let place = c.in-Some.place.now in
    let has = front_place places place (sym (c.in-Some.ensures.value ∙ ap (λ l. slice_get l 0) c.deref.ensures.value)) in
    let here = c.requires.1 place has in
    let within = slice_get_within rows place here.row here.stands in
    let first = c.index-rows-place.result in
    let shown = row_shown rows c.args.six c.args.len c.requires.0 place first c.index-rows-place.is within here in
    let family = shown.1.family in
    let deep = c.common_bits-len.result in
    let all = rows_lent rows c.args.six first.ip.six deep (begins deep first) places c.deref-2.result.now c.deref-2.ensures.value family c.common_bits-len.ensures.rows in
    let le : c.args.len ≤ deep =
    c.common_bits-len.ensures.known c.args.len shown.1.long
    (rows_lent rows first.ip.six c.args.six c.args.len (begins c.args.len first) c.deref-2.result.now places (sym c.deref-2.ensures.value) (sym family)
    (subst (λ l. AreRows rows c.args.six c.args.len l places) (sym shown.1.begins_so) c.requires.1)) in
    let parts = subst (λ l. ArePartsOf rows deep l c.in_ok-row.field-0.row c.in_ok-row.field-0.zeros.items c.in_ok-row.field-0.ones.items) c.deref-3.ensures.value c.in_ok-row.ensures in
    rw (c.in_ok-at.ensures.pushed, c.in_ok-at.ensures.number)
    (grown_node rows c.args.six c.args.len deep place places _ _ first c.shortened-net.result c.in_ok-row.field-0.row c.in_ok-zero.zero c.in_ok-one.one c.args.nodes.now c.grow.new.nodes c.grow-2.new.nodes
    le has shown.0 all c.shortened-net.ensures parts c.in_ok-zero.ensures c.in_ok-one.ensures)
