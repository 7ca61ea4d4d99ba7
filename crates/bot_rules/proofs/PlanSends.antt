-- A plan may go to another thread. The search goes a level of its types at a time: over all of them at once it meets its limits.
use denote.Param.Send.{IsSend, IsSync, sendable}
use Rattle.std.proofs.Crossing.{crosses}
use Rattle.base_types.proofs.list.ListOf.TheSendSync.{the_send as ListOf-send, the_sync as ListOf-sync}
use Rattle.base_types.proofs.text.Text.TheSendSync.{the_send as Text-send}
use Rattle.base_types.proofs.name.BotName.TheSendSync.{the_send as BotName-send}
use Rattle.expert_modify.proofs.rule.Rule.TheSendSync.{the_field_send as Rule-send}
use Rattle.event_model.proofs.fields.Fields.TheSendSync.{the_send as Fields-send, the_sync as Fields-sync}
use Rattle.prefix_table.proofs.nodes.Nodes.TheSendSync.{the_send as Nodes-send, the_sync as Nodes-sync}
use Rattle.prefix_table.specs.contracts.table.PrefixTable as PrefixTable
use Rattle.field_types.proofs.name.FieldName.TheSendSync.{the_send as FieldName-send}
use Rattle.scalar_net.proofs.network.Network.TheSendSync.{the_send as Network-send}
use Rattle.step_code.proofs.rules.Facts.TheSendSync.{the_send as Facts-send}
use Rattle.runtime_config.proofs.plan.Route.TheSendSync.{the_send as Route-send}
use Rattle.sieve_tree.proofs.boxed.Boxed.TheSendSync.{the_send as Boxed-send}
use Rattle.sieve_tree.proofs.tree.Test.TheSendSync.{the_field_send as Test-send}
use Rattle.sieve_tree.proofs.tree.How.TheSendSync.{the_field_send as How-send}
use Rattle.sieve_tree.proofs.tree.PutSource.TheSendSync.{the_field_send as PutSource-send}
use Rattle.sieve_tree.specs.contracts.tree.Cond as Cond
use Rattle.sieve_tree.specs.contracts.tree.SieveItem as SieveItem
use Rattle.sieve_tree.specs.contracts.sieve.Sieve as Sieve
use Rattle.sieve_tree.proofs.tree.Cond.TheLaws.TheKnot.{crosses as Cond-crosses}
use Rattle.sieve_tree.proofs.tree.SieveItem.TheLaws.TheKnot.{crosses as SieveItem-crosses}
use Rattle.runtime_config.specs.contracts.plan.Module as Module
use Rattle.runtime_config.specs.contracts.plan.Planned as Planned
use Rattle.bot_rules.specs.contracts.table.Rows as Rows
use Rattle.bot_rules.specs.contracts.table.Table as Table
use Rattle.bot_rules.specs.contracts.plan.IntelPlan as IntelPlan

pub cond_sends : IsSend Cond.the_field.row
cond_sends = search (Cond-crosses, ListOf-send, Boxed-send, FieldName-send, Test-send, sendable) depth 60 fits 20000

pub item_sends : IsSend SieveItem.the_row
item_sends = search (SieveItem-crosses, cond_sends, ListOf-send, Text-send, FieldName-send, How-send, PutSource-send, sendable) depth 60 fits 20000

pub sieve_sends : IsSend Sieve.the_row
sieve_sends = search (item_sends, ListOf-send, Text-send, sendable) depth 60 fits 20000

pub module_sends : IsSend Module.the_field.row
module_sends = search (sieve_sends, Rule-send, ListOf-send, Text-send, Fields-send, Network-send, sendable) depth 60 fits 20000

pub planned_sends : IsSend Planned.the_row
planned_sends = search (module_sends, ListOf-send, BotName-send, Route-send, sendable) depth 60 fits 20000

-- the owners of a table share its rows
networks_send : IsSend PrefixTable.the_row
networks_send = search (Nodes-send, crosses, sendable) depth 60 fits 20000

networks_sync : IsSync PrefixTable.the_row
networks_sync = search (Nodes-sync, crosses, sendable) depth 60 fits 20000

rows_send : IsSend Rows.the_row
rows_send = search (networks_send, ListOf-send, Fields-send, sendable) depth 60 fits 20000

rows_sync : IsSync Rows.the_row
rows_sync = search (networks_sync, ListOf-sync, Fields-sync, sendable) depth 60 fits 20000

pub table_sends : IsSend Table.the_row
table_sends = search (rows_send, rows_sync, crosses, sendable) depth 60 fits 20000

pub plan_sends : IsSend IntelPlan.the_row
plan_sends = search (planned_sends, table_sends, ListOf-send, Facts-send, crosses, sendable) depth 60 fits 20000
