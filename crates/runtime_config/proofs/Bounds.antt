-- Numbers of the table are within their bounds.
use Rattle.std.proofs.Common.{◌≡◌, ◌≤◌, ℕ, List, [], ◌∷◌, Bool, true, false, Option, Some, None, refl, arith}
use Rattle.std.specs.Prelude.{◌&&◌, ◌==◌, codes, nat_lt, not, option_and_then, if◌then◌else◌}
use Rattle.std.proofs.lemmas.Bool.{and_parts, ltb-true}
use Rattle.serde_json.specs.Data.{Data, Members}
use Rattle.serde_json.specs.Find.{as_str}
use Rattle.module_settings.specs.Parameters.{byte_of, is_delimiter, parameters_of, row, setting_of, taken_as, Parameter}
use Rattle.runtime_text.specs.Runtime.{given, module_of, parameter_named, set_as, whole_in, Entry}
use Rattle.module_settings.specs.declared.form.Form.TheVariants as form
use Rattle.module_settings.specs.declared.module.ModuleWord.{ModuleWord}
use Rattle.module_settings.specs.declared.module.ModuleWord.TheVariants as modules
use Rattle.module_settings.specs.declared.setting.Setting.TheVariants as as_setting
use Rattle.runtime_config.proofs.Numbers.{whole_is_within}

-- a number that may be given or not
given_within : (name : List ℕ) (least most n : ℕ) (d : Option Data) → n ≤ most → whole_in (setting_of (row name (form.Number least most) (Some (as_setting.Whole n))) d) ≤ most
given_within name least most n None within = within
given_within name least most n (Some d) within = whole_is_within least most d

-- the parameter of this name in the table, for any module
abbrev WithinAll : List ℕ → ℕ → Type 0
WithinAll name most = (word : Option ModuleWord) (of : List ℕ → Option Data) → whole_in (option_and_then (λ (q : Parameter). setting_of q (of q.name)) (parameter_named name (parameters_of word))) ≤ most

instances_of : WithinAll (codes "instances_threads") 16
instances_of None of = given_within (codes "instances_threads") 1 16 1 (of (codes "instances_threads")) (omega arith)
instances_of (Some modules.Collector) of = let one : ℕ = 1 in omega (arith, given_within (codes "instances_threads") 1 1 1 (of (codes "instances_threads")) (omega arith))
instances_of (Some modules.Csv) of = given_within (codes "instances_threads") 1 16 1 (of (codes "instances_threads")) (omega arith)
instances_of (Some modules.Json) of = given_within (codes "instances_threads") 1 16 1 (of (codes "instances_threads")) (omega arith)
instances_of (Some modules.Sieve) of = given_within (codes "instances_threads") 1 16 1 (of (codes "instances_threads")) (omega arith)
instances_of (Some modules.Dedup) of = given_within (codes "instances_threads") 1 16 1 (of (codes "instances_threads")) (omega arith)
instances_of (Some modules.Prefix) of = given_within (codes "instances_threads") 1 16 1 (of (codes "instances_threads")) (omega arith)
instances_of (Some modules.Taxonomy) of = given_within (codes "instances_threads") 1 16 1 (of (codes "instances_threads")) (omega arith)
instances_of (Some modules.Modify) of = given_within (codes "instances_threads") 1 16 1 (of (codes "instances_threads")) (omega arith)
instances_of (Some modules.Output) of = given_within (codes "instances_threads") 1 16 1 (of (codes "instances_threads")) (omega arith)

retries_of : WithinAll (codes "error_max_retries") 100
retries_of None of = given_within (codes "error_max_retries") 0 100 3 (of (codes "error_max_retries")) (omega arith)
retries_of (Some word) of = given_within (codes "error_max_retries") 0 100 3 (of (codes "error_max_retries")) (omega arith)

delay_of : WithinAll (codes "error_retry_delay") 86400
delay_of None of = given_within (codes "error_retry_delay") 0 86400 15 (of (codes "error_retry_delay")) (omega arith)
delay_of (Some word) of = given_within (codes "error_retry_delay") 0 86400 15 (of (codes "error_retry_delay")) (omega arith)

chunk_of : WithinAll (codes "chunk_size") 1048576
chunk_of None of = omega arith
chunk_of (Some modules.Collector) of = given_within (codes "chunk_size") 1 1048576 65536 (of (codes "chunk_size")) (omega arith)
chunk_of (Some modules.Csv) of = omega arith
chunk_of (Some modules.Json) of = omega arith
chunk_of (Some modules.Sieve) of = omega arith
chunk_of (Some modules.Dedup) of = omega arith
chunk_of (Some modules.Prefix) of = omega arith
chunk_of (Some modules.Taxonomy) of = omega arith
chunk_of (Some modules.Modify) of = omega arith
chunk_of (Some modules.Output) of = omega arith

cache_of : WithinAll (codes "cache_max") 200000
cache_of None of = omega arith
cache_of (Some modules.Collector) of = omega arith
cache_of (Some modules.Csv) of = omega arith
cache_of (Some modules.Json) of = omega arith
cache_of (Some modules.Sieve) of = omega arith
cache_of (Some modules.Dedup) of = given_within (codes "cache_max") 1 200000 100000 (of (codes "cache_max")) (omega arith)
cache_of (Some modules.Prefix) of = omega arith
cache_of (Some modules.Taxonomy) of = omega arith
cache_of (Some modules.Modify) of = omega arith
cache_of (Some modules.Output) of = omega arith

matches_of : WithinAll (codes "maximum_matches") 10000
matches_of None of = omega arith
matches_of (Some modules.Collector) of = omega arith
matches_of (Some modules.Csv) of = omega arith
matches_of (Some modules.Json) of = omega arith
matches_of (Some modules.Sieve) of = omega arith
matches_of (Some modules.Dedup) of = omega arith
matches_of (Some modules.Prefix) of = omega arith
matches_of (Some modules.Taxonomy) of = omega arith
matches_of (Some modules.Modify) of = given_within (codes "maximum_matches") 0 10000 0 (of (codes "maximum_matches")) (omega arith)
matches_of (Some modules.Output) of = omega arith

byte_within : (text : List ℕ) → whole_in (byte_of text) ≤ 127
byte_within [] = omega arith
byte_within (b ∷ c ∷ bs) = omega arith
byte_within (b ∷ []) = by_test (is_delimiter b) refl
  where
    by_test : (t : Bool) → is_delimiter b ≡ t → whole_in (if t then Some (as_setting.Whole b) else None) ≤ 127
    by_test false is = omega arith
    by_test true is =
        let parts = and_parts (nat_lt b 128 && not (b == 34) && not (b == 13)) (not (b == 10)) is in
        let more = and_parts (nat_lt b 128 && not (b == 34)) (not (b == 13)) parts.0 in
        let first = and_parts (nat_lt b 128) (not (b == 34)) more.0 in
        let below = ltb-true b 128 first.0 in
        omega (arith, below)

maybe_byte : (o : Option (List ℕ)) → whole_in (option_and_then byte_of o) ≤ 127
maybe_byte None = omega arith
maybe_byte (Some text) = byte_within text

given_byte : (d : Option Data) → whole_in (setting_of (row (codes "delimiter") form.Byte (Some (as_setting.Whole 44))) d) ≤ 127
unfolding taken_as
given_byte None = omega arith
given_byte (Some d) = maybe_byte (as_str d)

delimiter_of : WithinAll (codes "delimiter") 127
delimiter_of None of = omega arith
delimiter_of (Some modules.Collector) of = omega arith
delimiter_of (Some modules.Csv) of = given_byte (of (codes "delimiter"))
delimiter_of (Some modules.Json) of = omega arith
delimiter_of (Some modules.Sieve) of = omega arith
delimiter_of (Some modules.Dedup) of = omega arith
delimiter_of (Some modules.Prefix) of = omega arith
delimiter_of (Some modules.Taxonomy) of = omega arith
delimiter_of (Some modules.Modify) of = omega arith
delimiter_of (Some modules.Output) of = omega arith

within : (name : List ℕ) (most : ℕ) (global : Members) (bot : Entry) → WithinAll name most → whole_in (set_as global bot name) ≤ most
unfolding set_as
within name most global bot all = all (module_of bot) (given global bot)

pub few_instances : (global : Members) (bot : Entry) → whole_in (set_as global bot (codes "instances_threads")) ≤ 16
few_instances global bot = within (codes "instances_threads") 16 global bot instances_of

pub few_retries : (global : Members) (bot : Entry) → whole_in (set_as global bot (codes "error_max_retries")) ≤ 100
few_retries global bot = within (codes "error_max_retries") 100 global bot retries_of

pub short_delay : (global : Members) (bot : Entry) → whole_in (set_as global bot (codes "error_retry_delay")) ≤ 86400
short_delay global bot = within (codes "error_retry_delay") 86400 global bot delay_of

pub small_chunk : (global : Members) (bot : Entry) → whole_in (set_as global bot (codes "chunk_size")) ≤ 1048576
small_chunk global bot = within (codes "chunk_size") 1048576 global bot chunk_of

pub small_cache : (global : Members) (bot : Entry) → whole_in (set_as global bot (codes "cache_max")) ≤ 200000
small_cache global bot = within (codes "cache_max") 200000 global bot cache_of

pub few_matches : (global : Members) (bot : Entry) → whole_in (set_as global bot (codes "maximum_matches")) ≤ 10000
few_matches global bot = within (codes "maximum_matches") 10000 global bot matches_of

pub one_byte : (global : Members) (bot : Entry) → whole_in (set_as global bot (codes "delimiter")) ≤ 127
one_byte global bot = within (codes "delimiter") 127 global bot delimiter_of
