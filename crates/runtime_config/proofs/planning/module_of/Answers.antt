use Rattle.std.proofs.Common.{Some, ap, sym, ◌∙◌}
use Rattle.runtime_config.proofs.Faulty.{no_content, rules_alone, same_result, table_alone}
use Rattle.runtime_config.specs.Load.{module_as}
use Rattle.runtime_text.specs.Read.{entry_of, members_of}
use Rattle.module_settings.specs.Modules.{reads_rules, reads_table}
use Rattle.runtime_config.specs.declared.plan.Module.TheVariants as as_module
use Rattle.runtime_config.proofs.planning.module_of.Goals as goal

pub returns-in_ok-collector-in-Some-Collector : goal.returns-in_ok-collector-in-Some-Collector
returns-in_ok-collector-in-Some-Collector c =
    let bundle = c.args.bundle.now in
    let global = members_of c.args.global.now in
    let bot = entry_of c.args.bot.now in
    let word = sym c.in-Some-Collector.ensures ∙ ap Some c.in-Some-Collector.field-0-is in
    (no_content bundle global bot (ap reads_table word) (ap reads_rules word), c.in_ok-collector-in-Some-Collector.ensures bundle ∙ ap (module_as bundle global bot) (sym word))

pub returns-in_ok-csv-in-Some-Csv : goal.returns-in_ok-csv-in-Some-Csv
returns-in_ok-csv-in-Some-Csv c =
    let bundle = c.args.bundle.now in
    let global = members_of c.args.global.now in
    let bot = entry_of c.args.bot.now in
    let word = sym c.in-Some-Csv.ensures ∙ ap Some c.in-Some-Csv.field-0-is in
    (no_content bundle global bot (ap reads_table word) (ap reads_rules word), c.in_ok-csv-in-Some-Csv.ensures bundle ∙ ap (module_as bundle global bot) (sym word))

pub returns-in_ok-json-in-Some-Json : goal.returns-in_ok-json-in-Some-Json
returns-in_ok-json-in-Some-Json c =
    let bundle = c.args.bundle.now in
    let global = members_of c.args.global.now in
    let bot = entry_of c.args.bot.now in
    let word = sym c.in-Some-Json.ensures ∙ ap Some c.in-Some-Json.field-0-is in
    (no_content bundle global bot (ap reads_table word) (ap reads_rules word), c.in_ok-json-in-Some-Json.ensures bundle ∙ ap (module_as bundle global bot) (sym word))

pub returns-in_ok-dedup-in-Some-Dedup : goal.returns-in_ok-dedup-in-Some-Dedup
returns-in_ok-dedup-in-Some-Dedup c =
    let bundle = c.args.bundle.now in
    let global = members_of c.args.global.now in
    let bot = entry_of c.args.bot.now in
    let word = sym c.in-Some-Dedup.ensures ∙ ap Some c.in-Some-Dedup.field-0-is in
    (no_content bundle global bot (ap reads_table word) (ap reads_rules word), c.in_ok-dedup-in-Some-Dedup.ensures bundle ∙ ap (module_as bundle global bot) (sym word))

pub returns-in-Some-Sieve : goal.returns-in-Some-Sieve
returns-in-Some-Sieve c =
    let bundle = c.args.bundle.now in
    let global = members_of c.args.global.now in
    let bot = entry_of c.args.bot.now in
    let word = sym c.in-Some-Sieve.ensures ∙ ap Some c.in-Some-Sieve.field-0-is in
    (no_content bundle global bot (ap reads_table word) (ap reads_rules word), ap as_module.Sieve c.requires ∙ ap (module_as bundle global bot) (sym word))

pub returns-in-Some-Prefix : goal.returns-in-Some-Prefix
returns-in-Some-Prefix c =
    let bundle = c.args.bundle.now in
    let global = members_of c.args.global.now in
    let bot = entry_of c.args.bot.now in
    let word = sym c.in-Some-Prefix.ensures ∙ ap Some c.in-Some-Prefix.field-0-is in
    same_result _ _ _ _ c.prefix.result (sym (table_alone bundle global bot (ap reads_rules word))) (ap (module_as bundle global bot) (sym word)) c.prefix.ensures

pub returns-in-Some-Modify : goal.returns-in-Some-Modify
returns-in-Some-Modify c =
    let bundle = c.args.bundle.now in
    let global = members_of c.args.global.now in
    let bot = entry_of c.args.bot.now in
    let word = sym c.in-Some-Modify.ensures ∙ ap Some c.in-Some-Modify.field-0-is in
    same_result _ _ _ _ c.modify.result (sym (rules_alone bundle global bot (ap reads_table word))) (ap (module_as bundle global bot) (sym word)) c.modify.ensures
