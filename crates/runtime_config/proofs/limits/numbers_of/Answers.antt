use Rattle.std.proofs.Common.{◌≡◌, ◌≤◌, ℕ, List, [], Bor, Option, Some, None, length, option_map, refl, ap, sym, subst, ◌∙◌}
use Rattle.std.specs.Prelude.{unwrap_or}
use Rattle.runtime_config.proofs.Bounds.{few_instances}
use Rattle.runtime_text.specs.Read.{entry_of, members_of}
use Rattle.module_settings.specs.Table.{row_count}
use Rattle.runtime_config.proofs.limits.numbers_of.Goals as goal

counted : (o : Option (Bor (List ℕ))) → option_map (λ (b : Bor (List ℕ)). row_count b.now) o ≡ option_map row_count (option_map (λ (b : Bor (List ℕ)). b.now) o)
counted None = refl
counted (Some b) = refl

pub returns : goal.returns
returns c = record {
  instances_are = c.in_ok-whole.ensures;
  rows_are = c.rows_of.ensures ∙ ap (λ (o : Option ℕ). unwrap_or o 0) (counted c.in_ok-table_text.field-0 ∙ ap (option_map row_count) c.in_ok-table_text.ensures);
  file_is = c.in_ok-file_of.ensures;
  length_is = c.length_of.ensures ∙ ap (λ (o : Option (List ℕ)). length (unwrap_or o [])) c.in_ok-content.ensures;
  many_are = c.in_ok-passes_rules.ensures;
  few = subst (λ n. n ≤ 16) (sym c.in_ok-whole.ensures) (few_instances (members_of c.args.global.now) (entry_of c.args.bot.now));
}
