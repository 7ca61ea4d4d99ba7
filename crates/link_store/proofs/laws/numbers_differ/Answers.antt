use Rattle.link_store.proofs.Seen.{number_below, number_once}
use Rattle.link_store.proofs.laws.numbers_differ.Goals as goal

pub returns : goal.returns
returns g c =
    let links = c.links.inside in
    rw (← c.links.view_is) (record {
      given = λ item place stands. number_below links.slots.items links.heads.items links.lens.items links.room links.pushed item place c.links.invariant.linked c.links.invariant.numbered stands;
      once = λ one two here there stands stands'. number_once links.slots.items links.heads.items links.lens.items links.room links.pushed one two here there c.links.invariant.linked c.links.invariant.numbered stands stands';
    })
