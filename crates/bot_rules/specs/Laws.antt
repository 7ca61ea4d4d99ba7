-- The laws of the rules.
use Rattle.std.proofs.Common.{◌≡◌, ◌≤◌, ◌∙◌, ℕ, Bool, true, false, cond, List, [], ◌∷◌, map, Option, Some, None, Result, Ok, Err, refl, sym, ap, subst}
use Rattle.std.specs.Prelude.{is_some, option_and_then, option_map, if◌then◌else◌, IfSome, IsSome, IsTrue}
use Rattle.std.specs.FinMap.{empty}
use Rattle.std.specs.List.{AllByRecursion, list_all}
use Rattle.std.specs.List.Sorted.{IsStrictlySortedBy}
use Rattle.std.specs.Result.{result_ok}
use Rattle.std.specs.Str.{bytes_eq}
use Rattle.std.specs.Ordering.{nat_cmp}
use Rattle.std.specs.Cmp.Lexicographic.{slice_cmp}
use Rattle.std.proofs.lemmas.Bool.{and_parts}
use Rattle.std.proofs.lemmas.Option.{none-some, option_and_then_some, same_Some}
use Rattle.base_types.specs.declared.message.FaultNote.{FaultNote}
use Rattle.config_bundle.specs.Bundle.{bundle_in}
use Rattle.event_model.specs.Fields.{FieldMap}
use Rattle.event_model.specs.declared.message.Kind.TheVariants.{Report}
use Rattle.event_model.specs.declared.message.Message.{Message}
use Rattle.event_text.specs.Exact.{strict}
use Rattle.event_text.proofs.Exact.{strict-reads}
use Rattle.event_text.proofs.PairTexts.{nothing_yet}
use Rattle.feed_rows.specs.Notes.{kind_note}
use Rattle.feed_rows.specs.declared.parsed.Parsed.{Parsed}
use Rattle.feed_csv.specs.Rows.{csv_parsed}
use Rattle.feed_json.specs.Rows.{json_parsed}
use Rattle.field_types.proofs.Twice.{mapped}
use Rattle.runtime_config.specs.Load.{load}
use Rattle.runtime_config.specs.Within.{AreWithin, IsBotWithin, IsModuleWithin}
use Rattle.runtime_config.specs.declared.plan.Module.{Module}
use Rattle.runtime_config.specs.declared.plan.Module.TheVariants as modules
use Rattle.runtime_config.specs.declared.plan.Plan.{Plan}
use Rattle.runtime_config.specs.declared.plan.Planned.{Planned}
use Rattle.runtime_config.specs.declared.plan.Route.{Route}
use Rattle.runtime_config.proofs.Ordered.{plans_are_within}
use Rattle.sieve_eval.specs.Verdicts.{verdict}
use Rattle.sieve_eval.specs.declared.verdict.Fate.{Fate}
use Rattle.sieve_eval.specs.declared.verdict.Fate.TheVariants as fate
use Rattle.sieve_eval.specs.declared.verdict.Verdict.{Verdict}
use Rattle.step_code.specs.declared.rules.Facts.{Facts}
use Rattle.step_code.specs.declared.rules.Given.{Given}
use Rattle.step_code.specs.declared.rules.Given.TheVariants as given
use Rattle.step_code.specs.Rules.{AreSound, FitsBot, IsLawful, IsSoundBot, Task, bot_named, collects, writes}
use Rattle.bot_rules.specs.Facts.{default_path, facts_of, has_feed, queues_on}
use Rattle.bot_rules.specs.Gives.{are_lawful, body_gives, fate_gives, is_lawful, job_gives, message_gives, parser_gives, sieve_gives, takes}
use Rattle.bot_rules.specs.Intel.{bare_report, bot_gives, bot_reports, facts_in, intel, module_reports, plan_in, planned_in, planned_named, work_gives}
use Rattle.bot_rules.specs.Jobs.{csv_rule, dedup_rule, job_of, json_rule, role_for}
use Rattle.bot_rules.specs.Report.{report_text}
use Rattle.bot_rules.specs.declared.change.Change.{Change}
use Rattle.bot_rules.specs.declared.change.Change.TheVariants as change
use Rattle.bot_rules.specs.declared.job.Job.{Job}
use Rattle.bot_rules.specs.declared.job.Job.TheVariants as job

-- ---- reports

bare_is_lawful : is_lawful bare_report ≡ true
bare_is_lawful =
    let bare : Message = record { kind = Report; fields = empty } in
    ap is_some (strict-reads bare_report bare (record { typed = nothing_yet; text = refl }))

or_bare_is_lawful : (body : List ℕ) (b : Bool) → is_lawful body ≡ b → is_lawful (if b then body else bare_report) ≡ true
or_bare_is_lawful body true is = is
or_bare_is_lawful body false is = bare_is_lawful

module_is_lawful : (m : Module) (piece : List ℕ) (now : ℕ) → is_lawful (module_reports m piece now) ≡ true
module_is_lawful (modules.Collector file name provider chunk_size replicate) piece now =
    or_bare_is_lawful (report_text name provider piece now) (is_lawful (report_text name provider piece now)) refl
module_is_lawful (modules.Csv columns delimiter skip_header defaults stamp) piece now = bare_is_lawful
module_is_lawful (modules.Json style defaults) piece now = bare_is_lawful
module_is_lawful (modules.Sieve sieve) piece now = bare_is_lawful
module_is_lawful (modules.Dedup keys keep ttl cache_max) piece now = bare_is_lawful
module_is_lawful (modules.Prefix table overwrite) piece now = bare_is_lawful
module_is_lawful modules.Taxonomy piece now = bare_is_lawful
module_is_lawful (modules.Modify rules overwrite most) piece now = bare_is_lawful
module_is_lawful modules.Output piece now = bare_is_lawful

bot_is_lawful : (p : Option Planned) (piece : List ℕ) (now : ℕ) → is_lawful (bot_reports p piece now) ≡ true
bot_is_lawful None piece now = bare_is_lawful
bot_is_lawful (Some p) piece now = module_is_lawful p.«module» piece now

pub reports_are_lawful : (task : Task) (piece : List ℕ) (now : ℕ) → IsLawful intel (bot_reports (planned_in task) piece now)
reports_are_lawful task piece now = bot_is_lawful (planned_in task) piece now

-- ---- bots

sound_with : (f : Facts) → 1 ≤ f.instances → f.instances ≤ 16 → f.retries ≤ 100 → f.delay ≤ 86400 → is_some f.feed ≡ collects f
    → IfSome f.feed (λ feed. 1 ≤ feed.chunk_size) → IfSome f.feed (λ feed. feed.chunk_size ≤ 1048576) → IfSome f.cache (λ rule. 1 ≤ rule.cache_max) → IsSoundBot f
sound_with f some few tries pause feed bytes chunk key =
    record { some_instance = some; instances = few; retries = tries; delay = pause; feed = feed; some_bytes = bytes; chunk = chunk; some_key = key }

sound_as : (p : Planned) (m : Module) → IsBotWithin p → IsModuleWithin m → IsSoundBot (facts_of (record p { «module» = m }))
unfolding facts_of
sound_as p (modules.Collector file name provider chunk_size replicate) is within = sound_with _ is.some_instance is.instances is.retries is.delay refl within.0 within.1 tt
sound_as p (modules.Csv columns delimiter skip_header defaults stamp) is within = sound_with _ is.some_instance is.instances is.retries is.delay refl tt tt tt
sound_as p (modules.Json style defaults) is within = sound_with _ is.some_instance is.instances is.retries is.delay refl tt tt tt
sound_as p (modules.Sieve sieve) is within = sound_with _ is.some_instance is.instances is.retries is.delay refl tt tt tt
sound_as p (modules.Dedup keys keep ttl cache_max) is within = sound_with _ is.some_instance is.instances is.retries is.delay refl tt tt within
sound_as p (modules.Prefix table overwrite) is within = sound_with _ is.some_instance is.instances is.retries is.delay refl tt tt tt
sound_as p modules.Taxonomy is within = sound_with _ is.some_instance is.instances is.retries is.delay refl tt tt tt
sound_as p (modules.Modify rules overwrite most) is within = sound_with _ is.some_instance is.instances is.retries is.delay refl tt tt tt
sound_as p modules.Output is within = sound_with _ is.some_instance is.instances is.retries is.delay refl tt tt tt

bot_is_sound : (p : Planned) → IsBotWithin p → IsSoundBot (facts_of p)
bot_is_sound p is = sound_as p p.«module» is is.«module»

all_are_sound : (bots : List Planned) → AllByRecursion IsBotWithin bots → AllByRecursion IsSoundBot (map facts_of bots)
all_are_sound [] all = tt
all_are_sound (p ∷ ps) all = (bot_is_sound p all.0, all_are_sound ps all.1)

names_stay : (bots : List Planned) → map (λ (p : Planned). p.bot) bots ≡ map (λ (f : Facts). f.bot) (map facts_of bots)
unfolding facts_of
names_stay [] = refl
names_stay (p ∷ ps) = ap (λ (names : List (List ℕ)). p.bot ∷ names) (names_stay ps)

loaded : {A E : Type 0} (r : Result A E) (a : A) → result_ok r ≡ Some a → r ≡ Ok a
loaded (Ok b) a is = ap Ok (same_Some b a is)
loaded (Err e) a is = absurd (none-some a is)

plan_is_within : (bundle : List ℕ) (plan : Plan) → plan_in bundle ≡ Some plan → AreWithin plan.bots
unfolding plan_in
plan_is_within bundle plan is =
    option_and_then_some (λ b. result_ok (load b)) (bundle_in bundle) plan is λ b read of.
    plans_are_within b plan (loaded (load b) plan of)

pub bots_are_sound : (bundle : List ℕ) (bots : List Facts) → facts_in bundle ≡ Some bots → AreSound bots
bots_are_sound bundle bots is =
    let (plan, planned, same) = mapped (λ (plan : Plan). map facts_of plan.bots) (plan_in bundle) bots is in
    let within = plan_is_within bundle plan planned in
    subst AreSound (sym same) (record {
      order = subst (IsStrictlySortedBy (slice_cmp nat_cmp)) (names_stay plan.bots) within.order;
      each = all_are_sound plan.bots within.each;
    })

-- ---- a bot by its name

first_named : (name : List ℕ) (p : Planned) (ps : List Planned) (b : Bool) → bot_named name (map facts_of ps) ≡ option_map facts_of (planned_named name ps)
    → cond b (Some (facts_of p)) (bot_named name (map facts_of ps)) ≡ option_map facts_of (cond b (Some p) (planned_named name ps))
first_named name p ps true later = refl
first_named name p ps false later = later

named_among : (name : List ℕ) (ps : List Planned) → bot_named name (map facts_of ps) ≡ option_map facts_of (planned_named name ps)
unfolding facts_of
named_among name [] = refl
named_among name (p ∷ ps) = first_named name p ps (bytes_eq p.bot name) (named_among name ps)

-- the facts of a bot of a bundle are those of the bot as it is planned
pub facts_as_planned : (task : Task) (bots : List Facts) → facts_in task.bundle ≡ Some bots → bot_named task.bot bots ≡ option_map facts_of (planned_in task)
facts_as_planned task bots loads =
    let (plan, read, same) = mapped (λ (plan : Plan). map facts_of plan.bots) (plan_in task.bundle) bots loads in
    ap (bot_named task.bot) same ∙ named_among task.bot plan.bots
    ∙ ap (λ (o : Option Plan). option_map facts_of (option_and_then (λ (plan : Plan). planned_named task.bot plan.bots) o)) (sym read)

collects_as : (p : Planned) (m : Module) → collects (facts_of (record p { «module» = m })) ≡ has_feed m
unfolding facts_of
collects_as p (modules.Collector file name provider chunk_size replicate) = refl
collects_as p (modules.Csv columns delimiter skip_header defaults stamp) = refl
collects_as p (modules.Json style defaults) = refl
collects_as p (modules.Sieve sieve) = refl
collects_as p (modules.Dedup keys keep ttl cache_max) = refl
collects_as p (modules.Prefix table overwrite) = refl
collects_as p modules.Taxonomy = refl
collects_as p (modules.Modify rules overwrite most) = refl
collects_as p modules.Output = refl

-- a bot is a collector where its module is that of collectors
pub collects_by_module : (p : Planned) → collects (facts_of p) ≡ has_feed p.«module»
collects_by_module p = collects_as p p.«module»

-- ---- what a bot gives

-- a key comes only of a bot that drops duplicates, and a line only of one that writes
abbrev IsRight : Facts → Given → Type 0
IsRight f (given.Pass sends dumps key line) = (IsSome key → IsSome f.cache) × (IsTrue line → IsTrue (writes f))
IsRight f (given.Fault note) = Unit {0}

all_of : {A : Type 0} (p : A → Bool) (xs : List A) → list_all p xs ≡ true → AllByRecursion (λ x. IsTrue (p x)) xs
all_of p [] is = tt
all_of p (x ∷ xs) is = let parts = and_parts (p x) (list_all p xs) is in (parts.0, all_of p xs parts.1)

fits : (f : Facts) (g : Given) (b : Bool) → IsRight f g → are_lawful g ≡ b → FitsBot intel f (if b then g else given.Fault kind_note)
fits f g false right is = tt
fits f (given.Fault note) true right is = tt
fits f (given.Pass sends dumps key line) true right is =
    let parts = and_parts (list_all (λ (send : List ℕ × List ℕ). is_lawful send.1) sends) (list_all (λ (dump : List ℕ × FaultNote). is_lawful dump.0) dumps) is in
    (all_of (λ (send : List ℕ × List ℕ). is_lawful send.1) sends parts.0, all_of (λ (dump : List ℕ × FaultNote). is_lawful dump.0) dumps parts.1, right.0, right.1)

plain : (f : Facts) → IsRight f (given.Pass [] [] None false)
plain f = (λ is. absurd (cc (is)), λ is. absurd (cc (is)))

parser_right : (f : Facts) (queues : List (List ℕ)) (r : Result Parsed FaultNote) → IsRight f (parser_gives queues r)
parser_right f queues (Ok all) = plain f
parser_right f queues (Err note) = tt

fate_right : (f : Facts) (routes : List Route) (fields : FieldMap) (goes : Fate) → IsRight f (fate_gives routes fields goes)
fate_right f routes fields (fate.Forward paths) = plain f
fate_right f routes fields fate.Dropped = plain f

sieve_right : (f : Facts) (routes : List Route) (r : Result Verdict ℕ) → IsRight f (sieve_gives routes r)
sieve_right f routes (Ok v) = fate_right f routes v.fields v.fate
sieve_right f routes (Err at) = tt

message_fits : (f : Facts) (work : Job) (queues : List (List ℕ)) (since : ℕ) (m : Option Message) → ((fields : FieldMap) → IsRight f (job_gives work queues since fields)) → FitsBot intel f (message_gives work queues since m)
message_fits f work queues since None right = tt
message_fits f work queues since (Some m) right = by_kind (takes (role_for work) m.kind)
  where
    by_kind : (b : Bool) → FitsBot intel f (if b then (if are_lawful (job_gives work queues since m.fields) then job_gives work queues since m.fields else given.Fault kind_note) else given.Fault kind_note)
    by_kind true = fits f (job_gives work queues since m.fields) (are_lawful (job_gives work queues since m.fields)) (right m.fields) refl
    by_kind false = tt

body_fits : (f : Facts) (work : Job) (queues : List (List ℕ)) (since : ℕ) (body : List ℕ) → ((fields : FieldMap) → IsRight f (job_gives work queues since fields)) → FitsBot intel f (body_gives work queues since body)
unfolding body_gives
body_fits f work queues since body right = message_fits f work queues since (strict body) right

change_fits : (f : Facts) (c : Change) (queues : List (List ℕ)) (since : ℕ) (body : List ℕ) → FitsBot intel f (body_gives (job.Change c) queues since body)
unfolding job_gives
change_fits f c queues since body = body_fits f (job.Change c) queues since body (λ fields. plain f)

-- the facts of the bot with this module in place of its own
abbrev facts_as : Planned → Module → Facts
facts_as p m = facts_of (record p { «module» = m })

module_fits : (p : Planned) (m : Module) (since : ℕ) (body : List ℕ) → FitsBot intel (facts_as p m) (work_gives (job_of p.paths m) (queues_on default_path p.paths) since body)
unfolding facts_of job_gives
module_fits p (modules.Collector file name provider chunk_size replicate) since body = tt
module_fits p (modules.Csv columns delimiter skip_header defaults stamp) since body =
    let f = facts_as p (modules.Csv columns delimiter skip_header defaults stamp) in
    let rule = csv_rule columns delimiter skip_header defaults stamp in
    let queues = queues_on default_path p.paths in
    body_fits f (job.Csv rule) queues since body (λ fields. parser_right f queues (csv_parsed rule fields))
module_fits p (modules.Json style defaults) since body =
    let f = facts_as p (modules.Json style defaults) in
    let rule = json_rule style defaults in
    let queues = queues_on default_path p.paths in
    body_fits f (job.Json rule) queues since body (λ fields. parser_right f queues (json_parsed rule fields))
module_fits p (modules.Sieve sieve) since body =
    let f = facts_as p (modules.Sieve sieve) in
    body_fits f (job.Sieve (record { sieve = sieve; routes = p.paths })) (queues_on default_path p.paths) since body (λ fields. sieve_right f p.paths (verdict sieve fields since))
module_fits p (modules.Dedup keys keep ttl cache_max) since body =
    body_fits (facts_as p (modules.Dedup keys keep ttl cache_max)) (job.Dedup (dedup_rule keys keep ttl cache_max)) (queues_on default_path p.paths) since body
    (λ fields. (λ some. refl, λ line. absurd (cc (line))))
module_fits p (modules.Prefix table overwrite) since body =
    change_fits (facts_as p (modules.Prefix table overwrite)) (change.Prefix (record { networks = table.networks; sets = table.sets; overwrite = overwrite })) (queues_on default_path p.paths) since body
module_fits p modules.Taxonomy since body = change_fits (facts_as p modules.Taxonomy) change.Taxonomy (queues_on default_path p.paths) since body
module_fits p (modules.Modify rules overwrite most) since body =
    change_fits (facts_as p (modules.Modify rules overwrite most)) (change.Modify (record { rules = rules; overwrite = overwrite; most = most })) (queues_on default_path p.paths) since body
module_fits p modules.Output since body =
    body_fits (facts_as p modules.Output) job.Output (queues_on default_path p.paths) since body (λ fields. (λ some. absurd (cc (some)), λ line. refl))

bot_fits : (p : Planned) (since : ℕ) (body : List ℕ) → FitsBot intel (facts_of p) (bot_gives (Some p) since body)
bot_fits p since body = module_fits p p.«module» since body

pub given_fits : (bots : List Facts) (facts : Facts) (task : Task) (body : List ℕ) (since : ℕ) → facts_in task.bundle ≡ Some bots → bot_named task.bot bots ≡ Some facts
    → FitsBot intel facts (bot_gives (planned_in task) since body)
given_fits bots facts task body since loads named =
    let (bot, planned, same) = mapped facts_of (planned_in task) facts (sym (facts_as_planned task bots loads) ∙ named) in
    subst (λ (f : Facts). FitsBot intel f (bot_gives (planned_in task) since body)) (sym same)
    (subst (λ o. FitsBot intel (facts_of bot) (bot_gives o since body)) (sym planned) (bot_fits bot since body))
