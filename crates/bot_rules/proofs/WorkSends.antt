-- A bot's work may go to another thread, and the regular expressions in it.
use denote.Param.Send.{IsSend, sendable}
use Rattle.std.proofs.Crossing.{crosses}
use Rattle.regex_class.proofs.Class.TheSendSync.{the_field_send as Class-send}
use Rattle.regex_dfa.proofs.dfa.Dfa.TheSendSync.{the_field_send as Dfa-send}
use Rattle.regex_extract.proofs.frames.Frame.TheSendSync.{the_send as Frame-send}
use Rattle.regex_hir.proofs.look.Look.TheSendSync.{the_field_send as Look-send}
use Rattle.regex_hir.proofs.hir.Hir.TheLaws.TheKnot.{crosses as Hir-crosses}
use Rattle.regex_literal.proofs.byte_set.ByteSet.TheSendSync.{the_send as ByteSet-send}
use Rattle.regex_literal.proofs.caseless.Caseless.TheSendSync.{the_send as Caseless-send}
use Rattle.regex_literal.proofs.ladder.Ladder.TheSendSync.{the_field_send as Ladder-send}
use Rattle.regex_literal.proofs.prefilter.Prefilter.TheSendSync.{the_send as Prefilter-send}
use Rattle.regex_meta.proofs.plan.Role.TheSendSync.{the_field_send as Role-send}
use Rattle.regex_hir.specs.contracts.hir.Hir as Hir
use Rattle.regex_meta.specs.contracts.plan.Plan as RegexPlan
use Rattle.regex_meta.specs.contracts.plan.Plans as RegexPlans
use Rattle.regex_meta.specs.contracts.signs.Signs as Signs
use Rattle.regex_meta.specs.contracts.program.Program as Program
use Rattle.regex.specs.contracts.pattern.Pattern as RegexPattern
use Rattle.regex.specs.contracts.string.regex.Regex as Regex
use Rattle.regex_dfa.proofs.forward.Forward.TheSendSync.{the_field_send as Forward-send}
use Rattle.base_types.proofs.list.ListOf.TheSendSync.{the_send as ListOf-send}
use Rattle.base_types.proofs.name.BotName.TheSendSync.{the_send as BotName-send}
use Rattle.base_types.proofs.name.QueueName.TheSendSync.{the_send as QueueName-send}
use Rattle.event_model.proofs.place.PlaceHint.TheSendSync.{the_send as PlaceHint-send}
use Rattle.event_model.proofs.fields.Fields.TheSendSync.{the_send as Fields-send}
use Rattle.field_types.proofs.name.FieldName.TheSendSync.{the_send as FieldName-send}
use Rattle.expert_modify.specs.contracts.prepared.PreparedRule as PreparedRule
use Rattle.expert_modify.specs.contracts.prepared.PreparedRules as PreparedRules
use Rattle.expert_rules.proofs.chosen.DedupRule.TheSendSync.{the_field_send as DedupRule-send}
use Rattle.feed_csv.proofs.rule.CsvRule.TheSendSync.{the_field_send as CsvRule-send}
use Rattle.feed_json.proofs.rule.JsonRule.TheSendSync.{the_field_send as JsonRule-send}
use Rattle.runtime_config.proofs.plan.Route.TheSendSync.{the_send as Route-send}
use Rattle.sieve_eval.proofs.memo.AddressMemo.TheSendSync.{the_send as AddressMemo-send}
use Rattle.sieve_eval.proofs.memo.TimeMemo.TheSendSync.{the_send as TimeMemo-send}
use Rattle.sieve_eval.specs.contracts.automaton.Automaton as Automaton
use Rattle.sieve_eval.specs.contracts.pattern.Pattern as Pattern
use Rattle.sieve_eval.specs.contracts.pattern.Patterns as Patterns
use Rattle.sieve_eval.specs.contracts.saying.Setting as Setting
use Rattle.sieve_eval.specs.contracts.prepared.Prepared as Prepared
use Rattle.bot_rules.specs.contracts.change.Change as Change
use Rattle.bot_rules.specs.contracts.change.ModifyJob as ModifyJob
use Rattle.bot_rules.specs.contracts.job.SieveJob as SieveJob
use Rattle.bot_rules.specs.contracts.job.Job as Job
use Rattle.bot_rules.specs.contracts.work.IntelWork as IntelWork
use Rattle.bot_rules.proofs.PlanSends.{sieve_sends, table_sends}

pub hir_sends : IsSend Hir.the_row
hir_sends = search (Hir-crosses, Class-send, Look-send, crosses, sendable) depth 60 fits 20000

pub hir_field_sends : IsSend Hir.the_field.row
hir_field_sends = search (Hir-crosses, Class-send, Look-send, crosses, sendable) depth 60 fits 20000

pub regex_plan_sends : IsSend RegexPlan.the_row
regex_plan_sends = search (hir_sends, Role-send, Prefilter-send, Frame-send, Ladder-send, sendable) depth 60 fits 20000

pub regex_plans_sends : IsSend RegexPlans.the_field.row
regex_plans_sends = search (regex_plan_sends, crosses, sendable) depth 60 fits 20000

pub signs_sends : IsSend Signs.the_row
signs_sends = search (hir_sends, Caseless-send, crosses, sendable) depth 60 fits 20000

pub program_sends : IsSend Program.the_field.row
program_sends = search (hir_field_sends, Dfa-send, regex_plans_sends, signs_sends, ByteSet-send, crosses, sendable) depth 60 fits 20000

pub regex_pattern_sends : IsSend RegexPattern.the_field.row
regex_pattern_sends = search (program_sends, crosses, sendable) depth 60 fits 20000

pub regex_field_sends : IsSend Regex.the_field.row
regex_field_sends = search (regex_pattern_sends, sendable) depth 60 fits 20000

pub automaton_sends : IsSend Automaton.the_field.row
automaton_sends = search (program_sends, Forward-send, sendable) depth 60 fits 20000

pub pattern_sends : IsSend Pattern.the_row
pattern_sends = search (regex_field_sends, automaton_sends, sendable) depth 60 fits 20000

pub patterns_sends : IsSend Patterns.the_row
patterns_sends = search (pattern_sends, crosses, sendable) depth 60 fits 20000

pub setting_sends : IsSend Setting.the_field.row
setting_sends = search (patterns_sends, AddressMemo-send, TimeMemo-send, PlaceHint-send, sendable) depth 60 fits 20000

pub prepared_sends : IsSend Prepared.the_row
prepared_sends = search (sieve_sends, setting_sends, sendable) depth 60 fits 20000

pub sieve_job_sends : IsSend SieveJob.the_field.row
sieve_job_sends = search (prepared_sends, ListOf-send, Route-send, sendable) depth 60 fits 20000

pub prepared_rule_sends : IsSend PreparedRule.the_row
prepared_rule_sends = search (pattern_sends, FieldName-send, Fields-send, crosses, sendable) depth 60 fits 20000

pub prepared_rules_sends : IsSend PreparedRules.the_row
prepared_rules_sends = search (prepared_rule_sends, crosses, sendable) depth 60 fits 20000

pub modify_job_sends : IsSend ModifyJob.the_field.row
modify_job_sends = search (prepared_rules_sends, sendable) depth 60 fits 20000

pub change_sends : IsSend Change.the_field.row
change_sends = search (modify_job_sends, table_sends, sendable) depth 60 fits 20000

pub job_sends : IsSend Job.the_field.row
job_sends = search (sieve_job_sends, change_sends, CsvRule-send, JsonRule-send, DedupRule-send, sendable) depth 60 fits 20000

pub work_sends : IsSend IntelWork.the_row
work_sends = search (job_sends, ListOf-send, BotName-send, QueueName-send, crosses, sendable) depth 60 fits 20000
