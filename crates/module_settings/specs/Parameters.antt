-- What the parameters of a module may be, and what they are taken as.
use Rattle.std.specs.Prelude.{ℕ, List, [], ◌∷◌, ◌++◌, ◌==◌, ◌&&◌, ◌||◌, Bool, true, false, not, nat_le, nat_lt, length, codes, is_some, Option, Some, None, option_map, option_and_then, if◌then◌else◌}
use Rattle.std.specs.List.{slice_split}
use Rattle.std.specs.Result.{result_ok}
use Rattle.std.specs.Str.{bytes_eq}
use Rattle.std.specs.FinMap.{empty}
use Rattle.serde_json.specs.Data.{Data, null, boolean, number, string, array, object, Items, no_items, item}
use Rattle.serde_json.specs.Find.{as_bool, as_number, as_str, as_u64, get}
use Rattle.field_types.specs.Cleaning.{clean}
use Rattle.field_types.specs.declared.kind.FieldType.TheVariants as kind
use Rattle.field_types.specs.declared.value.Value.{Value}
use Rattle.field_types.specs.declared.value.Value.TheVariants as value
use Rattle.event_model.specs.Lenient.{lenient_tree, type_key}
use Rattle.event_model.specs.Trees.{both}
use Rattle.module_settings.specs.Modules.{most_instances, most_of}
use Rattle.module_settings.specs.declared.form.Form.{Form}
use Rattle.module_settings.specs.declared.form.Form.TheVariants as form
use Rattle.module_settings.specs.declared.form.Words.{Words}
use Rattle.module_settings.specs.declared.form.Words.TheVariants as words
use Rattle.module_settings.specs.declared.module.Instances.TheVariants as instances
use Rattle.module_settings.specs.declared.module.ModuleWord.{ModuleWord}
use Rattle.module_settings.specs.declared.module.ModuleWord.TheVariants as modules
use Rattle.module_settings.specs.declared.setting.Setting.{Setting}
use Rattle.module_settings.specs.declared.setting.Setting.TheVariants.{Whole, Switch, Line, Lines, Defaults, Unset}

-- ---- what a value of JSON is taken as

-- one of the words
abbrev pub is_word : Words → List ℕ → Bool
is_word words.Procedure text = bytes_eq text (codes "pass") || bytes_eq text (codes "stop")
is_word words.Filter text = bytes_eq text (codes "allow") || bytes_eq text (codes "whitelist") || bytes_eq text (codes "deny") || bytes_eq text (codes "blacklist")
is_word words.Style text = bytes_eq text (codes "object") || bytes_eq text (codes "array") || bytes_eq text (codes "lines")
is_word words.TimeFormat text = bytes_eq text (codes "timestamp")

-- a text of 1 to 255 bytes
abbrev pub is_file_name : List ℕ → Bool
is_file_name text = nat_le 1 (length text) && nat_le (length text) 255

-- the text, where it passes
abbrev pub line_when : (List ℕ → Bool) → List ℕ → Option Setting
line_when test text = if test text then Some (Line text) else None

-- the number, from the least to the most
abbrev pub whole_within : ℕ → ℕ → ℕ → Option Setting
whole_within least most n = if nat_le least n && nat_le n most then Some (Whole n) else None

-- a value that is a text
abbrev pub line_of : Value → Option Setting
line_of (value.Text text) = Some (Line text)
line_of (value.Whole n) = None
line_of (value.Flag b) = None
line_of (value.Decimal n) = None
line_of (value.List items) = None

-- one ASCII byte that is no quotation mark and ends no line
abbrev pub is_delimiter : ℕ → Bool
is_delimiter b = nat_lt b 128 && not (b == 34) && not (b == 13) && not (b == 10)

abbrev pub byte_of : List ℕ → Option Setting
byte_of [] = None
byte_of (b ∷ []) = if is_delimiter b then Some (Whole b) else None
byte_of (b ∷ c ∷ bs) = None

-- the texts of a list of texts
abbrev pub texts_in : Items → Option (List (List ℕ))
texts_in no_items = Some []
texts_in (item d ds) = both (as_str d) (texts_in ds)

-- the parts of a text between its commas
abbrev pub between_commas : List ℕ → List (List ℕ)
between_commas text = slice_split (λ b. b == 44) text

-- a list of texts, or one text with commas
abbrev pub texts_of : Data → Option (List (List ℕ))
texts_of null = None
texts_of (boolean b) = None
texts_of (number n) = None
texts_of (string s) = Some (between_commas s)
texts_of (array ds) = texts_in ds
texts_of (object ms) = None

-- the fields of an object without a kind, read leniently
abbrev pub defaults_of : Data → Option Setting
defaults_of d = if is_some (get type_key d) then None else option_map (λ message. Defaults message.fields) (result_ok (lenient_tree d))

-- what a value of JSON is taken as by a form, if it is of that form: numbers and flags are those of JSON
unfoldable pub taken_as : Form → Data → Option Setting
taken_as (form.Number least most) d = option_and_then (whole_within least most) (option_and_then as_u64 (as_number d))
taken_as (form.Word of) d = option_and_then (line_when (is_word of)) (as_str d)
taken_as form.Flag d = option_map Switch (as_bool d)
taken_as form.FileName d = option_and_then (line_when is_file_name) (as_str d)
taken_as form.Stripped d = option_and_then line_of (option_and_then (λ text. clean kind.Text (value.Text text)) (as_str d))
taken_as form.Texts d = option_map Lines (texts_of d)
taken_as form.Byte d = option_and_then byte_of (as_str d)
taken_as form.FieldObject d = defaults_of d

-- ---- the table

-- a parameter: its form, and what it is where it isn't given; nothing there where it must be given
pub record Parameter : Type 0 where
  pub name : List ℕ
  pub form : Form
  pub otherwise : Option Setting

abbrev pub row : List ℕ → Form → Option Setting → Parameter
row name form otherwise = record { name = name; form = form; otherwise = otherwise }

-- those of all bots, of which so many instances may run
abbrev pub shared : ℕ → List Parameter
shared most =
    row (codes "error_max_retries") (form.Number 0 100) (Some (Whole 3)) ∷
    row (codes "error_procedure") (form.Word words.Procedure) (Some (Line (codes "pass"))) ∷
    row (codes "error_retry_delay") (form.Number 0 86400) (Some (Whole 15)) ∷
    row (codes "instances_threads") (form.Number 1 most) (Some (Whole 1)) ∷
    []

-- those of a module alone
abbrev pub own : ModuleWord → List Parameter
own modules.Collector =
    row (codes "chunk_replicate_header") form.Flag (Some (Switch false)) ∷
    row (codes "chunk_size") (form.Number 1 1048576) (Some (Whole 65536)) ∷
    row (codes "file") form.FileName None ∷
    row (codes "name") form.Stripped None ∷
    row (codes "provider") form.Stripped (Some Unset) ∷
    []
own modules.Csv =
    row (codes "columns") form.Texts None ∷
    row (codes "default_fields") form.FieldObject (Some (Defaults empty)) ∷
    row (codes "delimiter") form.Byte (Some (Whole 44)) ∷
    row (codes "skip_header") form.Flag (Some (Switch false)) ∷
    row (codes "time_format") (form.Word words.TimeFormat) (Some Unset) ∷
    []
own modules.Json =
    row (codes "default_fields") form.FieldObject (Some (Defaults empty)) ∷
    row (codes "style") (form.Word words.Style) (Some (Line (codes "lines"))) ∷
    []
own modules.Sieve = row (codes "file") form.FileName None ∷ []
own modules.Dedup =
    row (codes "cache_max") (form.Number 1 200000) (Some (Whole 100000)) ∷
    row (codes "filter_keys") form.Texts (Some (Lines (codes "raw" ∷ codes "time.observation" ∷ []))) ∷
    row (codes "filter_type") (form.Word words.Filter) (Some (Line (codes "deny"))) ∷
    row (codes "ttl") (form.Number 1 31536000) (Some (Whole 86400)) ∷
    []
own modules.Prefix =
    row (codes "file") form.FileName None ∷
    row (codes "overwrite") form.Flag (Some (Switch false)) ∷
    []
own modules.Taxonomy = []
own modules.Modify =
    row (codes "file") form.FileName None ∷
    row (codes "maximum_matches") (form.Number 0 10000) (Some (Whole 0)) ∷
    row (codes "overwrite") form.Flag (Some (Switch true)) ∷
    []
own modules.Output = []

-- those of all bots, and those of the module where it is known
abbrev pub parameters_of : Option ModuleWord → List Parameter
parameters_of None = shared (most_of instances.Several)
parameters_of (Some word) = shared (most_instances word) ++ own word

-- what a parameter is taken as: nothing where its value is of another form, or where it must be given and isn't
abbrev pub setting_of : Parameter → Option Data → Option Setting
setting_of q None = q.otherwise
setting_of q (Some d) = taken_as q.form d
