use Rattle.std.proofs.Common.{ℕ, List, rules, map}
use Rattle.std.proofs.lemmas.Fn.{always_returns_same}
use Rattle.base_types.proofs.Places.{order, searched}
use Rattle.runtime_text.proofs.Naming.{paired, pairs_rise, placed_so}
use Rattle.runtime_text.proofs.Searches.{range_mapped, searched_mapped}
use Rattle.runtime_text.proofs.named.place_of.Goals as goal

pub returns : goal.returns
returns c =
    let facts = c.binary_search_by.ensures in
    let name = c.args.name.now in
    let names = c.args.names.now in
    let r = c.binary_search_by.result in
    let ord = λ (p : List ℕ × Unit {0}). order p.0 name in
    placed_so name names r
    (searched name (map paired names) r (pairs_rise names c.requires) (range_mapped paired ord names r facts.bound)
    (searched_mapped paired ord names r facts.bound (facts.position (λ text. order text name) (always_returns_same _ _ _ (λ a r g called. (search rules, search rules))))))
