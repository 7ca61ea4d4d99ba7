-- Plans and bots that are ready.
use Rattle.std.specs.Prelude.{◌≡◌, ℕ, List, map, Option, Some}
use Rattle.runtime_config.specs.declared.plan.Planned.{Planned}
use Rattle.step_code.specs.declared.rules.Facts.{Facts}
use Rattle.step_code.specs.Rules.{Task}
use Rattle.bot_rules.specs.Facts.{default_path, facts_of, queues_on}
use Rattle.bot_rules.specs.Intel.{plan_in, planned_in}
use Rattle.bot_rules.specs.Jobs.{job_of, table_of}
use Rattle.bot_rules.specs.declared.job.Job.{Job}
use Rattle.bot_rules.specs.declared.table.Rows.{Rows}

-- a bundle, by its bytes, and the facts of its bots
pub record Planning : Type 0 where
  pub bundle : List ℕ
  pub bots : List Facts

-- these are the bots of the bundle, their facts, and their tables
pub record IsPlanning (bundle : List ℕ) (bots : List Planned) (facts : List Facts) (tables : List (Option Rows)) : Type 0 where
  pub plan : plan_in bundle ≡ Some (record { bots = bots })
  pub facts_are : facts ≡ map facts_of bots
  pub tables_are : tables ≡ map (λ (p : Planned). table_of p.«module») bots

-- the queues and the work of a bot of a bundle
pub record IsWorkOf (task : Task) (queues : List (List ℕ)) (work : Job) : Type 0 where
  pub bot : Planned
  pub planned : planned_in task ≡ Some bot
  pub queues_are : queues ≡ queues_on default_path bot.paths
  pub work_is : job_of bot.paths bot.«module» ≡ Some work
