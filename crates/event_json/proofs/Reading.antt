-- A text that is read as a message without a tree that owns its texts.
use Rattle.std.proofs.Common.{◌≡◌, ℕ, List, [], ◌∷◌, ◌++◌, Bool, true, Option, Some, None, Result, Ok, Err, IfOk, OnOk, IsUtf8, is_some, option_map, option_and_then, if◌then◌else◌, sym, ap, subst, ◌∙◌}
use Rattle.json.specs.Json as json
use Rattle.json.specs.Json.{if_last, value}
use Rattle.json.specs.Lex.{tokens}
use Rattle.serde_json.specs.Data.{no_members, object}
use Rattle.serde_json.specs.Find.{get_member}
use Rattle.serde_json.specs.Read.{of_json, of_members, read}
use Rattle.std.proofs.lemmas.Option.{same_Some}
use Rattle.base_types.specs.declared.memory.OutOfMemory.{OutOfMemory}
use Rattle.scalar_text.specs.Quote.{quote}
use Rattle.event_model.specs.Lenient.{kind_of, leaves_of, least, lenient_tree, of_kind, set_all, type_key, with_fields}
use Rattle.event_model.specs.Lenient as lenient_of
use Rattle.event_model.specs.Trees.{lexeme_in, tree_in}
use Rattle.event_model.specs.declared.fault.ReadFault.TheVariants as fault
use Rattle.event_model.specs.declared.message.Kind.{Kind}
use Rattle.event_model.specs.declared.message.Message.{Message}
use Rattle.event_model.proofs.Bytes.{json_of-read}
use Rattle.event_text.specs.Decode.{opening, pairs_text}
use Rattle.event_json.specs.Direct.{Named, data_members, AreData, HasText, IsMessageOf, PutsAll, ReadsAs, Rise, Written}
use Rattle.event_text.specs.Lenient.{lenient, of_tree, PutsText}
use Rattle.event_json.specs.Quoted.{quoted_members, quoted_value}
use Rattle.event_json.proofs.Putting.{if_taken}
use Rattle.event_json.proofs.QuotedUtf8.{quoted_utf8}
use Rattle.event_json.proofs.QuotedValues.{value_of_quoted}
use Rattle.event_json.proofs.Rising.{entries_of, sorted_of, text_of_rising}
use Rattle.event_text.specs.Strict.{AreTyped, IsTyped}
use Rattle.event_text.specs.Text.{message_text}
use Rattle.event_text.proofs.Exact.{strict-reads}

-- the text that was put together is that of the message
pub message_is : (js : json.Members) (ordered : List Named) (kind : Kind) (opened put : Written) (text : List ℕ) → (AreData ordered → of_members js no_members ≡ Some (data_members ordered)) → lexeme_in (data_members ordered) ≡ None
    → kind_of (get_member type_key (data_members ordered)) ≡ Some kind → opened ≡ (opening kind, type_key) → PutsAll ordered opened put → text ≡ put.0 ++ 125 ∷ [] → HasText (IsMessageOf js) text
message_is js ordered kind opened put text reads none is begun puts ended =
    let ms = data_members ordered in
    let pairs = lenient_of.pairs_of (leaves_of ms) in
    let rise : Rise type_key pairs put.1 = subst (λ (l : Written). Rise l.1 pairs put.1) begun puts.puts.rise in
    record {
      message = record { kind = kind; fields = set_all pairs };
      is = record {
        members = ms;
        in_range = reads puts.in_range;
        read = ap (λ (l : Option (List ℕ)). if is_some l then Err fault.NotObject else of_kind (kind_of (get_member type_key ms)) (leaves_of ms)) none
            ∙ ap (λ k. of_kind k (leaves_of ms)) is
            ∙ ap (λ names. with_fields kind (least names) (set_all pairs)) puts.puts.good;
      };
      typed = subst AreTyped (sym (entries_of pairs (sorted_of type_key pairs put.1 rise))) puts.puts.typed;
      text_is = ended ∙ ap (λ (t : List ℕ). t ++ 125 ∷ []) (puts.puts.text ∙ ap (λ (l : Written). l.0 ++ pairs_text pairs) begun) ∙ sym (text_of_rising kind pairs put.1 rise);
    }

whole : (text : List ℕ) (j : json.Json) → value 126 (tokens text) ≡ Some (j, []) → read (quote text) ≡ of_json (quoted_value j)
whole text j is = ap (λ o. option_and_then of_json (option_and_then (λ p. if_last p.0 p.1) o)) (value_of_quoted 126 text j is)

reads_object : (text : List ℕ) (ms : json.Members) (message : Message) → read (quote text) ≡ of_json (json.object ms) → IsMessageOf ms message → ReadsAs text message
unfolding lenient_tree
reads_object text ms message is of = record {
  tree = object of.members;
  read = is ∙ ap (option_map object) of.in_range;
  is = of.read;
}

read_lenient : (bytes text : List ℕ) (message : Message) → text ≡ bytes → IsUtf8 bytes → ReadsAs text message → lenient bytes ≡ Ok message
unfolding lenient tree_in
read_lenient bytes text message same good reads =
    ap of_tree (json_of-read (quote bytes) reads.tree (quoted_utf8 bytes good) (ap (λ t. read (quote t)) (sym same) ∙ reads.read)) ∙ reads.is

-- what is said of the message of a text that was taken
pub text_on : (r : Result Bool OutOfMemory) (text : List ℕ) (P Q : Message → Type 0) → ((m : Message) → P m → Q m) → IfOk r (λ taken. taken ≡ true → HasText P text) → IfOk r (λ taken. taken ≡ true → HasText Q text)
text_on r text P Q f = if_taken r _ _ (λ has. record { message = has.message; is = f has.message has.is; typed = has.typed; text_is = has.text_is })

pub all_lenient : (bytes text line : List ℕ) (r : Result Bool OutOfMemory) → text ≡ bytes → IsUtf8 bytes → IfOk r (λ taken. taken ≡ true → HasText (ReadsAs text) line)
    → IfOk r (λ taken. taken ≡ true → HasText (λ m. lenient bytes ≡ Ok m) line)
all_lenient bytes text line r same good = text_on r line _ _ (λ m. read_lenient bytes text m same good)

pub all_read : (text line : List ℕ) (ms : json.Members) (r : Result Bool OutOfMemory) → value 126 (tokens text) ≡ Some (json.object ms, []) → IfOk r (λ taken. taken ≡ true → HasText (IsMessageOf (quoted_members ms)) line)
    → IfOk r (λ taken. taken ≡ true → HasText (ReadsAs text) line)
all_read text line ms r is = text_on r line _ _ (λ m. reads_object text (quoted_members ms) m (whole text (json.object ms) is))

-- the message of a text is the one that was read
pub the_read : (bytes text : List ℕ) (message : Message) → HasText (λ m. lenient bytes ≡ Ok m) text → message_text message ≡ text → IsTyped message → lenient bytes ≡ Ok message
the_read bytes text message has is typed =
    has.is ∙ ap Ok (same_Some has.message message (
    sym (strict-reads text has.message (record { typed = has.typed; text = sym has.text_is })) ∙ strict-reads text message (record { typed = typed; text = is })
    ))

-- the text of the message that was read went behind what was there
pub puts_text : {A E : Type 0} (r : Result A E) (bytes line text old new : List ℕ) → HasText (λ m. lenient bytes ≡ Ok m) line → text ≡ line → OnOk r (new ≡ old ++ text) → OnOk r (PutsText (lenient bytes) old new)
puts_text (Ok a) bytes line text old new has same is = record { message = has.message; read = has.is; text = is ∙ ap (λ (t : List ℕ). old ++ t) (same ∙ has.text_is) }
puts_text (Err e) bytes line text old new has same is = tt
