-- The items of an array, counted.
use Rattle.std.proofs.Common.{◌≡◌, ℕ, ◌+◌, List, [], ◌∷◌, length, Option, Some, None, option_map, Result, Ok, Err, refl, sym, ap, ◌∙◌, subst, arith}
use Rattle.std.specs.List.{flat_map}
use Rattle.std.proofs.lemmas.Option.{none-some}
use Rattle.serde_json.specs.Data.{Data, Items, no_items, item}
use Rattle.base_types.specs.declared.message.FaultNote.{FaultNote}
use Rattle.event_model.specs.Fields.{FieldMap}
use Rattle.event_model.specs.Trees.{both, compact}
use Rattle.feed_rows.specs.Rows.{bad_in, event_in, parsed}
use Rattle.feed_rows.specs.declared.parsed.Parsed.{Parsed}
use Rattle.feed_rows.specs.declared.parsed.Row.{Row}
use Rattle.feed_json.specs.Laws.{item_count}
use Rattle.feed_json.specs.Objects.{event_of}
use Rattle.feed_json.specs.Rows.{alone, item_row, item_rows, items_in, of_items, of_rows, row_of, styled}
use Rattle.feed_json.specs.declared.rule.Style.TheVariants as style

-- how many events and bad parts these rows are
abbrev part_count : List Row → ℕ
part_count rows = length (flat_map event_in rows) + length (flat_map bad_in rows)

one_part : (defaults others : FieldMap) (part : List ℕ) (r : Result FieldMap FaultNote) (rows : List Row) → part_count (row_of defaults others part r ∷ rows) ≡ 1 + part_count rows
one_part defaults others part (Ok event) rows = omega arith
one_part defaults others part (Err note) rows = omega arith

item_part : (defaults others : FieldMap) (text : List ℕ) (tree : Data) (rows : List Row) → part_count (item_row defaults others text tree ∷ rows) ≡ 1 + part_count rows
unfolding item_row
item_part defaults others text tree rows = one_part defaults others (alone text) (event_of others text tree) rows

same_rows : (a b : List Row) → Some a ≡ Some b → a ≡ b
same_rows a b is = cc

more_counted : (defaults others : FieldMap) (tree : Data) (n : ℕ) (text : Option (List ℕ)) (later : Option (List Row)) (rows : List Row) → ((rest : List Row) → later ≡ Some rest → part_count rest ≡ n)
    → both (option_map (λ text. item_row defaults others text tree) text) later ≡ Some rows → part_count rows ≡ 1 + n
more_counted defaults others tree n None later rows counted is = absurd (none-some rows is)
more_counted defaults others tree n (Some text) None rows counted is = absurd (none-some rows is)
more_counted defaults others tree n (Some text) (Some rest) rows counted is =
    ap part_count (sym (same_rows (item_row defaults others text tree ∷ rest) rows is)) ∙ item_part defaults others text tree rest ∙ ap (λ k. 1 + k) (counted rest refl)

counted : (defaults others : FieldMap) (items : Items) (rows : List Row) → item_rows defaults others items ≡ Some rows → part_count rows ≡ item_count items
counted defaults others no_items rows is = ap part_count (sym (same_rows [] rows is))
counted defaults others (item tree trees) rows is =
    more_counted defaults others tree (item_count trees) (compact tree) (item_rows defaults others trees) rows (counted defaults others trees) is

all_counted : (defaults others : FieldMap) (items : Items) (all : Parsed) (rows : Option (List Row)) → item_rows defaults others items ≡ rows → of_rows rows ≡ Ok all → length all.events + length all.bad ≡ item_count items
all_counted defaults others items all None are is = absurd (cc)
all_counted defaults others items all (Some rows) are is =
    let same : parsed rows ≡ all = cc in
    subst (λ (p : Parsed). length p.events + length p.bad ≡ item_count items) same (counted defaults others items rows are)

pub none_lost : (defaults fields : FieldMap) (content : List ℕ) (items : Items) (all : Parsed) → items_in content ≡ Some items → styled style.Array defaults fields content ≡ Ok all
    → length all.events + length all.bad ≡ item_count items
unfolding styled
none_lost defaults fields content items all has is =
    all_counted defaults fields items all (item_rows defaults fields items) refl (sym (ap (of_items defaults fields) has) ∙ is)
