use Rattle.std.proofs.Common.{◌≡◌, sym, refl, subst, arith, slice_index_or, length}
use Rattle.std.proofs.lemmas.List.{take_all, take_more}
use Rattle.std.proofs.lemmas.Option.{slice_get_within}
use Rattle.std.proofs.lemmas.List.Elements.{Contains-get_or}
use Rattle.prefix_table.specs.Growing.{AreRows, begins}
use Rattle.prefix_table.proofs.Parting.{none_in, row_at, row_fewer, row_shown, rows_more}
use Rattle.prefix_table.proofs.growing.common_bits.Goals as goal

pub places-init : goal.places-init
places-init c = (omega arith, λ i has. none_in i has, λ len le are. le)

pub bounds-rows-place : goal.bounds-rows-place
bounds-rows-place c =
    let here = row_at c.args.rows.now c.args.first.now.ip.six 0 0 c.args.places.now c.places.place-index c.requires c.places-test.true in
    slice_get_within c.args.rows.now (slice_index_or c.args.places.now c.places.place-index 0) here.row here.stands

pub shared_bits-len-requires-clause-family : goal.shared_bits-len-requires-clause-family
shared_bits-len-requires-clause-family c =
    let here = row_at c.args.rows.now c.args.first.now.ip.six 0 0 c.args.places.now c.places.place-index c.requires c.places-test.true in
    let within = slice_get_within c.args.rows.now (slice_index_or c.args.places.now c.places.place-index 0) here.row here.stands in
    (row_shown c.args.rows.now c.args.first.now.ip.six 0 0 (slice_index_or c.args.places.now c.places.place-index 0) c.index-rows-place.result c.index-rows-place.is within here).1.family

pub shared_bits-len-requires-clause-most : goal.shared_bits-len-requires-clause-most
shared_bits-len-requires-clause-most c = c.places.invariant.0

pub places-preserved : goal.places-preserved
places-preserved c =
    let rows = c.args.rows.now in
    let first = c.args.first.now in
    let places = c.args.places.now in
    let k = c.places.place-index in
    let place = slice_index_or places k 0 in
    let len = c.shared_bits-len.result in
    let here = row_at rows first.ip.six 0 0 places k c.requires c.places-test.true in
    let within = slice_get_within rows place here.row here.stands in
    let shown = row_shown rows first.ip.six 0 0 place c.index-rows-place.result c.index-rows-place.is within here in (
      omega (arith, c.shared_bits-len.ensures.most, c.places.invariant.0),
      subst (λ l. AreRows rows first.ip.six len (begins len first) l) (sym (take_more places k 0 c.places-test.true))
          (rows_more rows first.ip.six len (begins len first) place _ (λ i has. row_fewer rows first.ip.six first c.places.len len i refl c.shared_bits-len.ensures.most (c.places.invariant.1 i has))
          (record { row = c.index-rows-place.result; stands = shown.0; leads = c.shared_bits-len.ensures.leads })),
      λ n le are.
          let this = row_shown rows first.ip.six n (begins n first) place c.index-rows-place.result c.index-rows-place.is within (are place (Contains-get_or places k 0 c.places-test.true)) in
          c.shared_bits-len.ensures.known n (c.places.invariant.2 n le are) this.1,
    )

pub returns-clause-most : goal.returns-clause-most
returns-clause-most c = c.places.invariant.0

pub returns-clause-rows : goal.returns-clause-rows
returns-clause-rows c =
    let all : c.places.place-index ≡ length c.args.places.now = omega (arith, c.places-test.false, c.places.auto.place-index-end) in
    subst (λ l. AreRows c.args.rows.now c.args.first.now.ip.six c.places.len (begins c.places.len c.args.first.now) l) (take_all c.places.place-index c.args.places.now (omega arith)) c.places.invariant.1

pub returns-clause-known : goal.returns-clause-known
returns-clause-known c = c.places.invariant.2
