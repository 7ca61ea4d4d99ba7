-- Pairs whose names rise from that of the kind on, and the message of them.
use Rattle.std.proofs.Common.{◌≡◌, [], ◌∷◌, ◌++◌, true, Less, refl, sym, ap, ◌∙◌, append_assoc}
use Rattle.std.specs.FinMap.{entries, is_sorted}
use Rattle.std.specs.FinMap.Entries.{below_all}
use Rattle.std.proofs.lemmas.Bool.{and_from}
use Rattle.std.proofs.lemmas.Cmp.{nat_list_cmp_total}
use Rattle.base_types.proofs.Places.{Key, order, less_of, lt_of}
use Rattle.event_model.specs.Lenient.{set_all, type_key}
use Rattle.event_model.specs.declared.message.Kind.{Kind}
use Rattle.event_model.proofs.Pairs.{Pairs, entries-from_entries}
use Rattle.event_model.proofs.Settling.{rising_set}
use Rattle.event_text.specs.Decode.{opening, pairs_text}
use Rattle.event_json.specs.Direct.{Rise}
use Rattle.event_text.specs.Text.{message_text}
use Rattle.event_text.proofs.MessageText.{message_text-above}

below_from : (x from : Key) (pairs : Pairs) (to : Key) → order x from ≡ Less → Rise from pairs to → below_all order x pairs ≡ true
below_from x from [] to less rise = refl
below_from x from (pair ∷ pairs) to less rise =
    let here : order x pair.0 ≡ Less = nat_list_cmp_total.trans x from pair.0 less (less_of _ rise.0) in
    and_from _ _ (lt_of _ here) (below_from x pair.0 pairs to here rise.1)

below_of : (from : Key) (pairs : Pairs) (to : Key) → Rise from pairs to → below_all order from pairs ≡ true
below_of from [] to rise = refl
below_of from (pair ∷ pairs) to rise = and_from _ _ rise.0 (below_from from pair.0 pairs to (less_of _ rise.0) rise.1)

pub sorted_of : (from : Key) (pairs : Pairs) (to : Key) → Rise from pairs to → is_sorted order pairs ≡ true
sorted_of from [] to rise = refl
sorted_of from (pair ∷ pairs) to rise = and_from _ _ (below_of pair.0 pairs to rise.1) (sorted_of pair.0 pairs to rise.1)

pub entries_of : (pairs : Pairs) → is_sorted order pairs ≡ true → entries (set_all pairs) ≡ pairs
entries_of pairs sorted = ap entries (sym (rising_set pairs sorted)) ∙ entries-from_entries pairs sorted

-- the text of the message that the pairs set
pub text_of_rising : (kind : Kind) (pairs : Pairs) (to : Key) → Rise type_key pairs to → message_text (record { kind = kind; fields = set_all pairs }) ≡ (opening kind ++ pairs_text pairs) ++ 125 ∷ []
text_of_rising kind pairs to rise =
    let es = entries_of pairs (sorted_of type_key pairs to rise) in
    message_text-above (record { kind = kind; fields = set_all pairs }) (ap (below_all order type_key) es ∙ below_of type_key pairs to rise)
    ∙ ap (λ (ps : Pairs). opening kind ++ (pairs_text ps ++ 125 ∷ [])) es
    ∙ sym (append_assoc (opening kind) (pairs_text pairs) (125 ∷ []))
