-- What cleaning is, kind by kind.
use Rattle.std.proofs.Common.{◌≡◌, ◌⊎◌, inl, inr, ℕ, ℤ, List, Bool, true, false, Option, Some, None, Err, refl, sym, ◌∙◌, subst}
use Rattle.std.specs.Fmt.{signed_decimal}
use Rattle.std.proofs.lemmas.Bool.{false≢true}
use Rattle.scalar_text.specs.Number.{decimal_text}
use Rattle.scalar_text.specs.Strip.{strip}
use Rattle.base_types.specs.JsonText.{flag_word}
use Rattle.field_types.specs.Cleaning.{clean, of_text, IsCleaned}
use Rattle.field_types.specs.Kept.{takes_words, takes_items, IsKeptAs}
use Rattle.field_types.specs.declared.fault.FieldFault.{FieldFault}
use Rattle.field_types.specs.declared.fault.FieldFault.TheVariants as fault
use Rattle.field_types.specs.declared.value.Value.{Value}
use Rattle.field_types.specs.declared.kind.FieldType.{FieldType}
use Rattle.field_types.specs.declared.kind.FieldType.TheVariants as kind
use Rattle.field_types.specs.declared.value.Item.{Item}
use Rattle.field_types.specs.declared.value.Value.TheVariants as value

-- a text is cleaned by what it is without its blanks
pub clean_text : (type : FieldType) (text : List ℕ) → clean type (value.Text text) ≡ of_text type (strip text)
unfolding clean
clean_text kind.Text text = refl
clean_text kind.Lower text = refl
clean_text kind.Upper text = refl
clean_text kind.Cc text = refl
clean_text kind.Decimal text = refl
clean_text kind.Accuracy text = refl
clean_text kind.Whole text = refl
clean_text kind.Asn text = refl
clean_text kind.Port text = refl
clean_text kind.Flag text = refl
clean_text kind.Ip text = refl
clean_text kind.Network text = refl
clean_text kind.Fqdn text = refl
clean_text kind.Url text = refl
clean_text kind.DateTime text = refl
clean_text kind.Raw text = refl
clean_text kind.Tlp text = refl
clean_text kind.Registry text = refl
clean_text kind.Class text = refl
clean_text kind.Taxonomy text = refl
clean_text kind.Extra text = refl

-- what prints a text is cleaned as that text, where the kind takes that
pub words_whole : (type : FieldType) (n : ℤ) → takes_words type ≡ true → clean type (value.Whole n) ≡ clean type (value.Text (signed_decimal n))
unfolding clean
words_whole kind.Text n takes = refl
words_whole kind.Lower n takes = refl
words_whole kind.Upper n takes = refl
words_whole kind.Cc n takes = refl
words_whole kind.Decimal n takes = absurd (false≢true takes)
words_whole kind.Accuracy n takes = absurd (false≢true takes)
words_whole kind.Whole n takes = absurd (false≢true takes)
words_whole kind.Asn n takes = absurd (false≢true takes)
words_whole kind.Port n takes = absurd (false≢true takes)
words_whole kind.Flag n takes = absurd (false≢true takes)
words_whole kind.Ip n takes = absurd (false≢true takes)
words_whole kind.Network n takes = absurd (false≢true takes)
words_whole kind.Fqdn n takes = absurd (false≢true takes)
words_whole kind.Url n takes = absurd (false≢true takes)
words_whole kind.DateTime n takes = absurd (false≢true takes)
words_whole kind.Raw n takes = absurd (false≢true takes)
words_whole kind.Tlp n takes = absurd (false≢true takes)
words_whole kind.Registry n takes = absurd (false≢true takes)
words_whole kind.Class n takes = absurd (false≢true takes)
words_whole kind.Taxonomy n takes = absurd (false≢true takes)
words_whole kind.Extra n takes = absurd (false≢true takes)

pub words_decimal : (type : FieldType) (n : ℤ) → takes_words type ≡ true → clean type (value.Decimal n) ≡ clean type (value.Text (decimal_text n))
unfolding clean
words_decimal kind.Text n takes = refl
words_decimal kind.Lower n takes = refl
words_decimal kind.Upper n takes = refl
words_decimal kind.Cc n takes = refl
words_decimal kind.Decimal n takes = absurd (false≢true takes)
words_decimal kind.Accuracy n takes = absurd (false≢true takes)
words_decimal kind.Whole n takes = absurd (false≢true takes)
words_decimal kind.Asn n takes = absurd (false≢true takes)
words_decimal kind.Port n takes = absurd (false≢true takes)
words_decimal kind.Flag n takes = absurd (false≢true takes)
words_decimal kind.Ip n takes = absurd (false≢true takes)
words_decimal kind.Network n takes = absurd (false≢true takes)
words_decimal kind.Fqdn n takes = absurd (false≢true takes)
words_decimal kind.Url n takes = absurd (false≢true takes)
words_decimal kind.DateTime n takes = absurd (false≢true takes)
words_decimal kind.Raw n takes = absurd (false≢true takes)
words_decimal kind.Tlp n takes = absurd (false≢true takes)
words_decimal kind.Registry n takes = absurd (false≢true takes)
words_decimal kind.Class n takes = absurd (false≢true takes)
words_decimal kind.Taxonomy n takes = absurd (false≢true takes)
words_decimal kind.Extra n takes = absurd (false≢true takes)

pub words_flag : (type : FieldType) (b : Bool) → takes_words type ≡ true → clean type (value.Flag b) ≡ clean type (value.Text (flag_word b))
unfolding clean
words_flag kind.Text b takes = refl
words_flag kind.Lower b takes = refl
words_flag kind.Upper b takes = refl
words_flag kind.Cc b takes = refl
words_flag kind.Decimal b takes = absurd (false≢true takes)
words_flag kind.Accuracy b takes = absurd (false≢true takes)
words_flag kind.Whole b takes = absurd (false≢true takes)
words_flag kind.Asn b takes = absurd (false≢true takes)
words_flag kind.Port b takes = absurd (false≢true takes)
words_flag kind.Flag b takes = absurd (false≢true takes)
words_flag kind.Ip b takes = absurd (false≢true takes)
words_flag kind.Network b takes = absurd (false≢true takes)
words_flag kind.Fqdn b takes = absurd (false≢true takes)
words_flag kind.Url b takes = absurd (false≢true takes)
words_flag kind.DateTime b takes = absurd (false≢true takes)
words_flag kind.Raw b takes = absurd (false≢true takes)
words_flag kind.Tlp b takes = absurd (false≢true takes)
words_flag kind.Registry b takes = absurd (false≢true takes)
words_flag kind.Class b takes = absurd (false≢true takes)
words_flag kind.Taxonomy b takes = absurd (false≢true takes)
words_flag kind.Extra b takes = absurd (false≢true takes)

-- the other kinds take none of these
pub no_whole : (type : FieldType) (n : ℤ) → takes_words type ≡ false → (type ≡ kind.Whole → ⊥) → (type ≡ kind.Asn → ⊥) → (type ≡ kind.Port → ⊥) → (type ≡ kind.Decimal → ⊥) → (type ≡ kind.Accuracy → ⊥) → (type ≡ kind.Flag → ⊥) → (type ≡ kind.Extra → ⊥) → clean type (value.Whole n) ≡ None
unfolding clean
no_whole kind.Text n takes noWhole noAsn noPort noDecimal noAccuracy noFlag noExtra = absurd (false≢true (sym takes))
no_whole kind.Lower n takes noWhole noAsn noPort noDecimal noAccuracy noFlag noExtra = absurd (false≢true (sym takes))
no_whole kind.Upper n takes noWhole noAsn noPort noDecimal noAccuracy noFlag noExtra = absurd (false≢true (sym takes))
no_whole kind.Cc n takes noWhole noAsn noPort noDecimal noAccuracy noFlag noExtra = absurd (false≢true (sym takes))
no_whole kind.Decimal n takes noWhole noAsn noPort noDecimal noAccuracy noFlag noExtra = absurd (noDecimal refl)
no_whole kind.Accuracy n takes noWhole noAsn noPort noDecimal noAccuracy noFlag noExtra = absurd (noAccuracy refl)
no_whole kind.Whole n takes noWhole noAsn noPort noDecimal noAccuracy noFlag noExtra = absurd (noWhole refl)
no_whole kind.Asn n takes noWhole noAsn noPort noDecimal noAccuracy noFlag noExtra = absurd (noAsn refl)
no_whole kind.Port n takes noWhole noAsn noPort noDecimal noAccuracy noFlag noExtra = absurd (noPort refl)
no_whole kind.Flag n takes noWhole noAsn noPort noDecimal noAccuracy noFlag noExtra = absurd (noFlag refl)
no_whole kind.Ip n takes noWhole noAsn noPort noDecimal noAccuracy noFlag noExtra = refl
no_whole kind.Network n takes noWhole noAsn noPort noDecimal noAccuracy noFlag noExtra = refl
no_whole kind.Fqdn n takes noWhole noAsn noPort noDecimal noAccuracy noFlag noExtra = refl
no_whole kind.Url n takes noWhole noAsn noPort noDecimal noAccuracy noFlag noExtra = refl
no_whole kind.DateTime n takes noWhole noAsn noPort noDecimal noAccuracy noFlag noExtra = refl
no_whole kind.Raw n takes noWhole noAsn noPort noDecimal noAccuracy noFlag noExtra = refl
no_whole kind.Tlp n takes noWhole noAsn noPort noDecimal noAccuracy noFlag noExtra = refl
no_whole kind.Registry n takes noWhole noAsn noPort noDecimal noAccuracy noFlag noExtra = refl
no_whole kind.Class n takes noWhole noAsn noPort noDecimal noAccuracy noFlag noExtra = refl
no_whole kind.Taxonomy n takes noWhole noAsn noPort noDecimal noAccuracy noFlag noExtra = refl
no_whole kind.Extra n takes noWhole noAsn noPort noDecimal noAccuracy noFlag noExtra = absurd (noExtra refl)

pub no_decimal : (type : FieldType) (n : ℤ) → takes_words type ≡ false → (type ≡ kind.Decimal → ⊥) → (type ≡ kind.Extra → ⊥) → (type ≡ kind.Accuracy → ⊥) → clean type (value.Decimal n) ≡ None
unfolding clean
no_decimal kind.Text n takes noDecimal noExtra noAccuracy = absurd (false≢true (sym takes))
no_decimal kind.Lower n takes noDecimal noExtra noAccuracy = absurd (false≢true (sym takes))
no_decimal kind.Upper n takes noDecimal noExtra noAccuracy = absurd (false≢true (sym takes))
no_decimal kind.Cc n takes noDecimal noExtra noAccuracy = absurd (false≢true (sym takes))
no_decimal kind.Decimal n takes noDecimal noExtra noAccuracy = absurd (noDecimal refl)
no_decimal kind.Accuracy n takes noDecimal noExtra noAccuracy = absurd (noAccuracy refl)
no_decimal kind.Whole n takes noDecimal noExtra noAccuracy = refl
no_decimal kind.Asn n takes noDecimal noExtra noAccuracy = refl
no_decimal kind.Port n takes noDecimal noExtra noAccuracy = refl
no_decimal kind.Flag n takes noDecimal noExtra noAccuracy = refl
no_decimal kind.Ip n takes noDecimal noExtra noAccuracy = refl
no_decimal kind.Network n takes noDecimal noExtra noAccuracy = refl
no_decimal kind.Fqdn n takes noDecimal noExtra noAccuracy = refl
no_decimal kind.Url n takes noDecimal noExtra noAccuracy = refl
no_decimal kind.DateTime n takes noDecimal noExtra noAccuracy = refl
no_decimal kind.Raw n takes noDecimal noExtra noAccuracy = refl
no_decimal kind.Tlp n takes noDecimal noExtra noAccuracy = refl
no_decimal kind.Registry n takes noDecimal noExtra noAccuracy = refl
no_decimal kind.Class n takes noDecimal noExtra noAccuracy = refl
no_decimal kind.Taxonomy n takes noDecimal noExtra noAccuracy = refl
no_decimal kind.Extra n takes noDecimal noExtra noAccuracy = absurd (noExtra refl)

pub no_flag : (type : FieldType) (b : Bool) → takes_words type ≡ false → (type ≡ kind.Flag → ⊥) → (type ≡ kind.Extra → ⊥) → clean type (value.Flag b) ≡ None
unfolding clean
no_flag kind.Text b takes noFlag noExtra = absurd (false≢true (sym takes))
no_flag kind.Lower b takes noFlag noExtra = absurd (false≢true (sym takes))
no_flag kind.Upper b takes noFlag noExtra = absurd (false≢true (sym takes))
no_flag kind.Cc b takes noFlag noExtra = absurd (false≢true (sym takes))
no_flag kind.Decimal b takes noFlag noExtra = refl
no_flag kind.Accuracy b takes noFlag noExtra = refl
no_flag kind.Whole b takes noFlag noExtra = refl
no_flag kind.Asn b takes noFlag noExtra = refl
no_flag kind.Port b takes noFlag noExtra = refl
no_flag kind.Flag b takes noFlag noExtra = absurd (noFlag refl)
no_flag kind.Ip b takes noFlag noExtra = refl
no_flag kind.Network b takes noFlag noExtra = refl
no_flag kind.Fqdn b takes noFlag noExtra = refl
no_flag kind.Url b takes noFlag noExtra = refl
no_flag kind.DateTime b takes noFlag noExtra = refl
no_flag kind.Raw b takes noFlag noExtra = refl
no_flag kind.Tlp b takes noFlag noExtra = refl
no_flag kind.Registry b takes noFlag noExtra = refl
no_flag kind.Class b takes noFlag noExtra = refl
no_flag kind.Taxonomy b takes noFlag noExtra = refl
no_flag kind.Extra b takes noFlag noExtra = absurd (noExtra refl)

own_flag : (b : Bool) → clean kind.Flag (value.Flag b) ≡ Some (value.Flag b)
unfolding clean strip
own_flag true = refl
own_flag false = refl

pub flag_kept : (type : FieldType) (b : Bool) → (type ≡ kind.Flag) ⊎ (type ≡ kind.Extra) → clean type (value.Flag b) ≡ Some (value.Flag b)
unfolding clean
flag_kept type b (inl is) = subst (λ k. clean k (value.Flag b) ≡ Some (value.Flag b)) (sym is) (own_flag b)
flag_kept type b (inr is) = subst (λ k. clean k (value.Flag b) ≡ Some (value.Flag b)) (sym is) refl

-- lists are further data alone
pub clean_items : (type : FieldType) (items : List Item) → takes_items type items ≡ true → clean type (value.List items) ≡ Some (value.List items)
unfolding clean
clean_items kind.Text items takes = absurd (false≢true takes)
clean_items kind.Lower items takes = absurd (false≢true takes)
clean_items kind.Upper items takes = absurd (false≢true takes)
clean_items kind.Cc items takes = absurd (false≢true takes)
clean_items kind.Decimal items takes = absurd (false≢true takes)
clean_items kind.Accuracy items takes = absurd (false≢true takes)
clean_items kind.Whole items takes = absurd (false≢true takes)
clean_items kind.Asn items takes = absurd (false≢true takes)
clean_items kind.Port items takes = absurd (false≢true takes)
clean_items kind.Flag items takes = absurd (false≢true takes)
clean_items kind.Ip items takes = absurd (false≢true takes)
clean_items kind.Network items takes = absurd (false≢true takes)
clean_items kind.Fqdn items takes = absurd (false≢true takes)
clean_items kind.Url items takes = absurd (false≢true takes)
clean_items kind.DateTime items takes = absurd (false≢true takes)
clean_items kind.Raw items takes = absurd (false≢true takes)
clean_items kind.Tlp items takes = absurd (false≢true takes)
clean_items kind.Registry items takes = absurd (false≢true takes)
clean_items kind.Class items takes = absurd (false≢true takes)
clean_items kind.Taxonomy items takes = absurd (false≢true takes)
clean_items kind.Extra items takes = rw takes

pub no_items : (type : FieldType) (items : List Item) → takes_items type items ≡ false → clean type (value.List items) ≡ None
unfolding clean
no_items kind.Text items takes = refl
no_items kind.Lower items takes = refl
no_items kind.Upper items takes = refl
no_items kind.Cc items takes = refl
no_items kind.Decimal items takes = refl
no_items kind.Accuracy items takes = refl
no_items kind.Whole items takes = refl
no_items kind.Asn items takes = refl
no_items kind.Port items takes = refl
no_items kind.Flag items takes = refl
no_items kind.Ip items takes = refl
no_items kind.Network items takes = refl
no_items kind.Fqdn items takes = refl
no_items kind.Url items takes = refl
no_items kind.DateTime items takes = refl
no_items kind.Raw items takes = refl
no_items kind.Tlp items takes = refl
no_items kind.Registry items takes = refl
no_items kind.Class items takes = refl
no_items kind.Taxonomy items takes = refl
no_items kind.Extra items takes = rw takes

-- a kind's rule refuses what cleaning refuses
pub kept_err : (o p : Option Value) (text : List ℕ) (e : FieldFault) → o ≡ p → IsKeptAs o text (Err e) → IsCleaned p (Err e)
kept_err o p text fault.BadValue same none = sym same ∙ none
kept_err o p text fault.OutOfMemory same none = tt
