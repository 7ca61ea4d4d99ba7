use Rattle.std.proofs.Common.{◌≢◌, ◌∙◌, ◌++◌, ℕ, List, ap, sym, subst}
use Rattle.std.proofs.Math.ListN.{get_or-map}
use Rattle.base_types.specs.Name.{queue_ending}
use Rattle.runtime_text.proofs.Owners.{absent_no_owner, collector_no_owner, found_owner, no_ending_no_owner}
use Rattle.runtime_text.specs.Read.{entries_of, entry_of}
use Rattle.runtime_text.proofs.wires.owner.Goals as goal

pub returns-in_default : goal.returns-in_default
returns-in_default c =
    no_ending_no_owner (entries_of c.args.bots.now) c.args.queue.now
    (subst (λ (q : List ℕ). (name : List ℕ) → q ≢ name ++ queue_ending) c.bytes.ensures c.in_default.ensures)

pub returns-in_default-place_of : goal.returns-in_default-place_of
returns-in_default-place_of c =
    absent_no_owner (entries_of c.args.bots.now) c.args.queue.now c.in-Some.name.now c.in_default-place_of.field-0 (sym c.bytes.ensures ∙ c.in-Some.ensures) c.in_default-place_of.ensures

pub returns-then-is_collector : goal.returns-then-is_collector
returns-then-is_collector c =
    collector_no_owner (entries_of c.args.bots.now) c.args.queue.now c.in-Some.name.now c.in-Ok.i (entry_of c.index-bots-i.result) c.requires (sym c.bytes.ensures ∙ c.in-Some.ensures) c.in-Ok.ensures
    (ap entry_of c.index-bots-i.is ∙ sym (get_or-map entry_of c.args.bots.now c.in-Ok.i c.index-bots-i.result)) (sym c.is_collector.ensures ∙ c.if-is_collector.true)

pub returns-else-is_collector : goal.returns-else-is_collector
returns-else-is_collector c =
    found_owner (entries_of c.args.bots.now) c.args.queue.now c.in-Some.name.now c.in-Ok.i (entry_of c.index-bots-i.result) (sym c.bytes.ensures ∙ c.in-Some.ensures) c.in-Ok.ensures
    (ap entry_of c.index-bots-i.is ∙ sym (get_or-map entry_of c.args.bots.now c.in-Ok.i c.index-bots-i.result)) (sym c.is_collector.ensures ∙ c.if-is_collector.false)
