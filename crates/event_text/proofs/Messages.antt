-- Messages in canonical texts.
use Rattle.std.proofs.Common.{◌≡◌, ◌≢◌, codes, get_or, List, [], ◌∷◌, ◌++◌, Bool, true, false, Option, Some, None, Err, if◌then◌else◌, refl, sym, ap, ◌∙◌, arith}
use Rattle.std.specs.FinMap.{entries}
use Rattle.std.specs.Option.{is_some}
use Rattle.serde_json.specs.Data.{Data, Members}
use Rattle.serde_json.specs.Find.{as_object, get_member}
use Rattle.std.proofs.lemmas.Option.{same_Some}
use Rattle.base_types.proofs.Places.{Key}
use Rattle.event_model.specs.Fields.{FieldMap}
use Rattle.event_model.specs.Lenient.{lenient_tree, of_object, of_kind, with_fields, kind_of, leaves_of, least, bad_names, set_all, pairs_of, type_key, IsFaultOf}
use Rattle.event_model.specs.Trees.{lexeme_in, tree_in}
use Rattle.event_model.specs.declared.message.Kind.{Kind}
use Rattle.event_model.specs.declared.message.Kind.TheVariants.{Report, Event}
use Rattle.event_model.specs.declared.message.Message.{Message}
use Rattle.event_model.specs.declared.fault.ReadFault.{ReadFault}
use Rattle.event_model.specs.declared.fault.ReadFault.TheVariants as fault
use Rattle.event_text.specs.Decode.{opening, pairs_text, IsTextOfFields}
use Rattle.event_text.specs.Lenient.{lenient, of_tree}
use Rattle.event_text.specs.Strict.{IsNoText, IsStrictFault, IsTextOf}
use Rattle.event_text.proofs.MessageText.{message_text-parts, report_opening, event_opening}
use Rattle.std.proofs.lemmas.List.{append_cancel_left}

-- ---- the opening

other_opening : (xs ys : Key) → codes "{\"__type\":\"Report\"" ++ xs ≡ codes "{\"__type\":\"Event\"" ++ ys → ⊥
other_opening xs ys e = absurd (omega (arith, ap (λ t. get_or t 11 0) e))

-- no opening is the front of the other
pub same_opening : (a b : Kind) (xs ys : Key) → opening a ++ xs ≡ opening b ++ ys → (a ≡ b) × (xs ≡ ys)
same_opening Report Report xs ys e = (refl, append_cancel_left (opening Report) xs ys e)
same_opening Event Event xs ys e = (refl, append_cancel_left (opening Event) xs ys e)
same_opening Report Event xs ys e = absurd (other_opening xs ys (ap (λ t. t ++ xs) (sym report_opening) ∙ e ∙ ap (λ t. t ++ ys) event_opening))
same_opening Event Report xs ys e = absurd (other_opening ys xs (ap (λ t. t ++ ys) (sym report_opening) ∙ sym e ∙ ap (λ t. t ++ xs) event_opening))

pub no_kind : (text event report : Key) → event ≡ opening Event → report ≡ opening Report → ((rest : Key) → text ≢ event ++ rest) → ((rest : Key) → text ≢ report ++ rest) → (kind : Kind) (rest : Key) → text ≢ opening kind ++ rest
no_kind text event report is_event is_report none none_either Report rest e = none_either rest (e ∙ ap (λ t. t ++ rest) (sym is_report))
no_kind text event report is_event is_report none none_either Event rest e = none rest (e ∙ ap (λ t. t ++ rest) (sym is_event))

-- ---- the whole text

pub read_message : (bytes text : Key) (kind : Kind) (fields : FieldMap) → bytes ≡ opening kind ++ text → IsTextOfFields text fields → IsTextOf bytes (record { kind = kind; fields = fields })
read_message bytes text kind fields is of =
    record {
      typed = of.typed;
      text =
          message_text-parts (record { kind = kind; fields = fields }) of.typed.fields ∙ ap (λ t. opening kind ++ t) (sym of.text_is) ∙ sym is;
    }

-- the text of a message, with the opening that was found
pub fields_of : (bytes text : Key) (kind : Kind) (message : Message) → bytes ≡ opening kind ++ text → IsTextOf bytes message → (kind ≡ message.kind) × IsTextOfFields text message.fields
fields_of bytes text kind message is of =
    let same = same_opening kind message.kind text (pairs_text (entries message.fields) ++ 125 ∷ []) (sym is ∙ sym of.text ∙ message_text-parts message of.typed.fields) in (
      same.0,
      record { typed = of.typed; text_is = same.1 },
    )

pub no_message : (bytes : Key) (message : Message) → ((kind : Kind) (rest : Key) → bytes ≢ opening kind ++ rest) → IsTextOf bytes message → ⊥
no_message bytes message none of =
    none message.kind (pairs_text (entries message.fields) ++ 125 ∷ []) (sym of.text ∙ message_text-parts message of.typed.fields)

pub the_message : (bytes text : Key) (kind : Kind) (found : Option FieldMap) (message : Message) → bytes ≡ opening kind ++ text → ((fields : FieldMap) → IsTextOfFields text fields → found ≡ Some fields) → IsTextOf bytes message
    → (kind ≡ message.kind) × (found ≡ Some message.fields)
the_message bytes text kind found message is complete of =
    let parts = fields_of bytes text kind message is of in (parts.0, complete message.fields parts.1)

pub same_message : (kind : Kind) (fields : FieldMap) (found : Option FieldMap) (message : Message) → found ≡ Some fields → (kind ≡ message.kind) × (found ≡ Some message.fields)
    → ◌≡◌ {A = Option Message} (Some (record { kind = kind; fields = fields })) (Some message)
same_message kind fields found message is same =
    ap (λ k. Some (record { kind = k; fields = fields })) same.0
    ∙ ap (λ (f : FieldMap). Some (record { kind = message.kind; fields = f })) (same_Some fields message.fields (sym is ∙ same.1))

-- ---- faults

of_fields_never : (kind : Kind) (bad : Option Key) (fields : FieldMap) → with_fields kind bad fields ≡ Err fault.Spelling → ⊥
of_fields_never kind (Some key) fields e = absurd (cc)
of_fields_never kind None fields e = absurd (cc)

of_kind_never : (kind : Option Kind) (all : List (Key × Data)) → of_kind kind all ≡ Err fault.Spelling → ⊥
of_kind_never None all e = absurd (cc)
of_kind_never (Some kind) all e = of_fields_never kind (least (bad_names all)) (set_all (pairs_of all)) e

of_members_never : (t : Bool) (kind : Option Kind) (all : List (Key × Data)) → (if t then Err fault.NotObject else of_kind kind all) ≡ Err fault.Spelling → ⊥
of_members_never true kind all e = absurd (cc)
of_members_never false kind all e = of_kind_never kind all e

of_object_never : (ms : Option Members) → of_object ms ≡ Err fault.Spelling → ⊥
of_object_never None e = absurd (cc)
of_object_never (Some ms) e = of_members_never (is_some (lexeme_in ms)) (kind_of (get_member type_key ms)) (leaves_of ms) e

of_tree_never : (tree : Option Data) → of_tree tree ≡ Err fault.Spelling → ⊥
unfolding lenient_tree
of_tree_never None e = absurd (cc)
of_tree_never (Some d) e = of_object_never (as_object d) e

-- the lenient reading knows no spelling
never_spelling : (bytes : Key) → lenient bytes ≡ Err fault.Spelling → ⊥
unfolding lenient
never_spelling bytes e = of_tree_never (tree_in bytes) e

pub strict_fault : (bytes : Key) (f : ReadFault) → IsNoText bytes → IsFaultOf (lenient bytes) f → IsStrictFault bytes f
strict_fault bytes fault.OutOfMemory none is = tt
strict_fault bytes fault.Json none is = (none, is)
strict_fault bytes fault.NotObject none is = (none, is)
strict_fault bytes fault.Kind none is = (none, is)
strict_fault bytes (fault.Field key) none is = (none, is)
strict_fault bytes fault.Spelling none is = absurd (never_spelling bytes is)
