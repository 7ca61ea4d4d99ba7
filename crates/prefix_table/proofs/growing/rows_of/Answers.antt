use Rattle.std.proofs.Common.{refl, length}
use Rattle.std.proofs.lemmas.Option.{slice_get_read}
use Rattle.prefix_table.proofs.Parting.{family_all, family_more, family_none, family_other, of_family, of_other}
use Rattle.prefix_table.proofs.growing.rows_of.Goals.{then-row-six+in_ok-push, else-row-six}
use Rattle.prefix_table.proofs.growing.rows_of.Goals as goal

pub rows-init : goal.rows-init
rows-init c = rw c.new-places.ensures.items (family_none c.args.rows.now c.args.six)

pub rows-preserved : goal.rows-preserved
rows-preserved c =
    let rows = c.args.rows.now in
    let row = c.index-rows-i.result in
    let stands = slice_get_read rows (length rows) c.rows.i row refl c.rows-test.true c.index-rows-i.is in
    elim c.if-row-six.branch [
      | then-row-six+in_ok-push w ↦ rw (w.places-is, w.in_ok-push.ensures.items) (family_more rows c.args.six c.rows.i row c.rows.places.items stands (of_family row.ip.six c.args.six w.if-row-six.true) c.rows.invariant)
      | else-row-six w ↦ rw w.places-is (family_other rows c.args.six c.rows.i row c.rows.places.items stands (of_other row.ip.six c.args.six w.if-row-six.false) c.rows.invariant)
    ]

pub returns : goal.returns
returns c = family_all c.args.rows.now c.args.six c.rows.i c.rows.places.items c.rows-test.false c.rows.invariant
