use Rattle.std.proofs.Common.{◌≡◌, List, ℕ, OnOk, length, sym, subst, ◌∙◌}
use Rattle.runtime_text.proofs.Marks.{wires_here}
use Rattle.runtime_text.specs.Wires.{marked_all, state_of, AreBelow}
use Rattle.runtime_text.proofs.cycle.look_at.Goals as goal

pub mark_all-requires : goal.mark_all-requires
mark_all-requires c =
    subst (λ (ws : List ℕ). AreBelow (length c.args.search.now.found.items) ws)
    (sym (c.deref.ensures.value ∙ wires_here c.args.graph.now c.args.i c.index-graph-i.result c.requires.place c.index-graph-i.is)) c.requires.below

pub returns : goal.returns
returns c =
    subst (λ (ws : List ℕ). OnOk c.mark_all.result (state_of c.mark_all.new.search ≡ marked_all ws (state_of c.args.search.now)))
    (c.deref.ensures.value ∙ wires_here c.args.graph.now c.args.i c.index-graph-i.result c.requires.place c.index-graph-i.is) c.mark_all.ensures
