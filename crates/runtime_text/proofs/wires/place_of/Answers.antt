use Rattle.std.proofs.Common.{rules}
use Rattle.std.proofs.lemmas.Fn.{always_returns_same}
use Rattle.base_types.proofs.Places.{order, searched}
use Rattle.runtime_text.proofs.Searches.{range_mapped, searched_mapped}
use Rattle.runtime_text.specs.Read.{entries_of, entry_of}
use Rattle.runtime_text.specs.Runtime.{Entry}
use Rattle.runtime_text.proofs.wires.place_of.Goals as goal

pub returns : goal.returns
returns c =
    let facts = c.binary_search_by.ensures in
    let key = c.args.name.now in
    searched key (entries_of c.args.bots.now) c.binary_search_by.result c.requires
    (range_mapped entry_of (λ (e : Entry). order e.0 key) c.args.bots.now c.binary_search_by.result facts.bound)
    (searched_mapped entry_of (λ (e : Entry). order e.0 key) c.args.bots.now c.binary_search_by.result facts.bound
    (facts.position (λ bot. order (entry_of bot).0 key) (always_returns_same _ _ _ (λ a r g called. (search rules, search rules)))))
