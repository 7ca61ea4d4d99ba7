-- Planned bots, looked up by name.
use Rattle.std.proofs.Common.{◌≡◌, ◌∙◌, ℕ, List, map, Option, Some, None, sym, ap}
use Rattle.std.specs.Prelude.{position, slice_get, option_and_then, option_map}
use Rattle.std.specs.Str.{bytes_eq}
use Rattle.std.proofs.lemmas.Option.{get_or_from_slice_get, slice_get-map}
use Rattle.base_types.proofs.Found.{find_missing, find_placed}
use Rattle.runtime_config.specs.declared.plan.Plan.{Plan}
use Rattle.runtime_config.specs.declared.plan.Planned.{Planned}
use Rattle.bot_rules.specs.Intel.{plan_in, planned_in, planned_named}
use Rattle.bot_rules.specs.Jobs.{table_of}
use Rattle.bot_rules.specs.declared.table.Rows.{Rows}

-- the bot that stands there
pub planned_at : (bundle name : List ℕ) (bots : List Planned) (i : ℕ) (p : Planned) → plan_in bundle ≡ Some (record { bots = bots }) → position (λ (b : Planned). bytes_eq b.bot name) bots ≡ Some i
    → slice_get bots i ≡ Some p → planned_in (record { bundle = bundle; bot = name }) ≡ Some p
planned_at bundle name bots i p plan at shown =
    ap (option_and_then (λ (l : Plan). planned_named name l.bots)) plan ∙ find_placed (λ (b : Planned). bytes_eq b.bot name) bots i p at ∙ ap Some (get_or_from_slice_get bots i p p shown)

pub planned_nowhere : (bundle name : List ℕ) (bots : List Planned) → plan_in bundle ≡ Some (record { bots = bots }) → position (λ (b : Planned). bytes_eq b.bot name) bots ≡ None
    → planned_in (record { bundle = bundle; bot = name }) ≡ None
planned_nowhere bundle name bots plan none =
    ap (option_and_then (λ (l : Plan). planned_named name l.bots)) plan ∙ find_missing (λ (b : Planned). bytes_eq b.bot name) bots none

one : {A : Type 0} {a b : A} → Some a ≡ Some b → a ≡ b
one e = cc

-- its table
pub table_at : (bots : List Planned) (tables : List (Option Rows)) (i : ℕ) (p : Planned) (t : Option Rows) → tables ≡ map (λ (b : Planned). table_of b.«module») bots → slice_get bots i ≡ Some p → slice_get tables i ≡ Some t
    → t ≡ table_of p.«module»
table_at bots tables i p t are bot table =
    one (sym table ∙ ap (λ ts. slice_get ts i) are ∙ slice_get-map (λ (b : Planned). table_of b.«module») bots i ∙ ap (option_map (λ (b : Planned). table_of b.«module»)) bot)
