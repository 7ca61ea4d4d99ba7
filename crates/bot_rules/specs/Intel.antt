-- What the bots of a bundle are, report and give.
use Rattle.std.specs.Prelude.{ℕ, List, map, find, Option, Some, None, option_map, option_and_then, if◌then◌else◌}
use Rattle.std.specs.FinMap.{empty}
use Rattle.std.specs.Result.{result_ok}
use Rattle.std.specs.Str.{bytes_eq}
use Rattle.config_bundle.specs.Bundle.{bundle_in}
use Rattle.event_model.specs.declared.message.Kind.TheVariants.{Report}
use Rattle.feed_rows.specs.Notes.{kind_note}
use Rattle.runtime_config.specs.Load.{load}
use Rattle.runtime_config.specs.declared.plan.Module.{Module}
use Rattle.runtime_config.specs.declared.plan.Module.TheVariants as modules
use Rattle.runtime_config.specs.declared.plan.Plan.{Plan}
use Rattle.runtime_config.specs.declared.plan.Planned.{Planned}
use Rattle.step_code.specs.declared.rules.Facts.{Facts}
use Rattle.step_code.specs.declared.rules.Given.{Given}
use Rattle.step_code.specs.declared.rules.Given.TheVariants as given
use Rattle.step_code.specs.Rules.{Meaning, Task}
use Rattle.bot_rules.specs.Facts.{default_path, facts_of, queues_on}
use Rattle.bot_rules.specs.Gives.{body_gives, body_of, is_lawful}
use Rattle.bot_rules.specs.Jobs.{job_of}
use Rattle.bot_rules.specs.Report.{report_text}
use Rattle.bot_rules.specs.declared.job.Job.{Job}

-- ---- the bots

-- the plan of the bundle whose code the bytes are, where it has no fault
unfoldable pub plan_in : List ℕ → Option Plan
plan_in bytes = option_and_then (λ bundle. result_ok (load bundle)) (bundle_in bytes)

-- the facts of its bots
abbrev pub facts_in : List ℕ → Option (List Facts)
facts_in bytes = option_map (λ (plan : Plan). map facts_of plan.bots) (plan_in bytes)

-- the bot of this name
abbrev pub planned_named : List ℕ → List Planned → Option Planned
planned_named name bots = find (λ p. bytes_eq p.bot name) bots

-- the bot of a bundle
abbrev pub planned_in : Task → Option Planned
planned_in task = option_and_then (λ (plan : Plan). planned_named task.bot plan.bots) (plan_in task.bundle)

-- ---- what they report

-- a report with nothing in it
abbrev pub bare_report : List ℕ
bare_report = body_of Report empty

-- What is reported is a message: the name and the provider of a feed are canonical. It is tested here as long as no law
-- says it of all plans.
abbrev pub or_bare : List ℕ → List ℕ
or_bare body = if is_lawful body then body else bare_report

-- what a module reports; nobody asks one that is no collector
abbrev pub module_reports : Module → List ℕ → (now : ℕ) → List ℕ
module_reports (modules.Collector file name provider chunk_size replicate) piece now = or_bare (report_text name provider piece now)
module_reports _ piece now = bare_report

abbrev pub bot_reports : Option Planned → List ℕ → (now : ℕ) → List ℕ
bot_reports None piece now = bare_report
bot_reports (Some p) piece now = module_reports p.«module» piece now

-- ---- what they give

-- nobody asks a collector
abbrev pub work_gives : Option Job → List (List ℕ) → (since : ℕ) → List ℕ → Given
work_gives None queues since body = given.Fault kind_note
work_gives (Some work) queues since body = body_gives work queues since body

abbrev pub bot_gives : Option Planned → (since : ℕ) → List ℕ → Given
bot_gives None since body = given.Fault kind_note
bot_gives (Some p) since body = work_gives (job_of p.paths p.«module») (queues_on default_path p.paths) since body

-- ---- the meaning of the rules

abbrev pub intel : Meaning
intel = record {
  facts = facts_in;
  report = λ task piece now. bot_reports (planned_in task) piece now;
  give = λ task body since. bot_gives (planned_in task) since body;
  is_lawful = is_lawful;
}
