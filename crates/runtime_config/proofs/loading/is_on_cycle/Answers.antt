use Rattle.std.proofs.Common.{◌≡◌, ◌<◌, ℕ, List, Vec, Global, length, true, sym, ap, subst, ◌∙◌}
use Rattle.std.proofs.lemmas.List.{length-map}
use Rattle.runtime_text.proofs.Ways.{back_is, graph_inside}
use Rattle.runtime_text.specs.Read.{entries_of, entry_of}
use Rattle.runtime_text.specs.Wires.{wires_of, AreInside, Leads}
use Rattle.runtime_config.proofs.loading.is_on_cycle.Goals as goal

pub comes_back-requires : goal.comes_back-requires
comes_back-requires c =
    let bots = c.args.whole.now.bots.now in
    let graph = c.args.whole.now.graph.now in
    let lengths : length bots ≡ length graph =
    sym (length-map bots entry_of) ∙ sym (length-map (entries_of bots) (wires_of (entries_of bots))) ∙ ap length (sym c.requires.whole.wired) ∙ length-map graph (λ (w : Vec ℕ Global). w.items) in
    record {
      inside = subst AreInside (sym c.requires.whole.wired) (graph_inside (entries_of bots));
      start = subst (λ n. c.args.at < n) lengths c.requires.place;
    }

pub returns : goal.returns
returns c = λ bot there.
    back_is (entries_of c.args.whole.now.bots.now) c.requires.whole.sorted c.in_ok-comes_back.field-0 c.args.at bot there
    (subst (λ (g : List (List ℕ)). (c.in_ok-comes_back.field-0 ≡ true → Leads g c.args.at c.args.at) × (Leads g c.args.at c.args.at → c.in_ok-comes_back.field-0 ≡ true)) c.requires.whole.wired c.in_ok-comes_back.ensures)
