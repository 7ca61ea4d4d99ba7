use Rattle.std.proofs.Common.{◌≡◌, ◌<◌, ℕ, List, Bool, false, Vec, Global, map, length, replicate, ap, sym, subst, ◌∙◌}
use Rattle.std.proofs.lemmas.List.{length-map, length-replicate}
use Rattle.runtime_text.proofs.Marks.{answers, begun_by, below_found, fewer, goes_on, place_inside}
use Rattle.runtime_text.specs.Wires.{state_of}
use Rattle.runtime_text.proofs.cycle.comes_back.Goals as goal

pub look_at-requires : goal.look_at-requires
look_at-requires c =
    let count : length c.in_ok-vec.field-0.items ≡ length c.args.graph.now =
    ap length (c.in_ok-vec.ensures.items_if_clones_equal (λ y same. same)) ∙ length-replicate (length c.args.graph.now) false in
    record {
      place = c.requires.start;
      below = λ j sent. subst (λ n. j < n) (length-map c.args.graph.now (λ (w : Vec ℕ Global). w.items) ∙ sym count) (c.requires.inside.inside c.args.start j sent);
    }

pub search-init : goal.search-init
search-init c =
    let n = length c.args.graph.now in
    begun_by (map (λ (w : Vec ℕ Global). w.items) c.args.graph.now) c.args.start n _ (state_of c.look_at.new.search) c.requires.inside
    (sym (length-map c.args.graph.now (λ (w : Vec ℕ Global). w.items)))
    (ap (λ (found : List Bool). (found, c.new.result)) (c.in_ok-vec.ensures.items_if_clones_equal (λ y same. same)) ∙ ap (λ (waiting : List ℕ). (replicate n false, waiting)) c.new.ensures)
    c.in_ok-look_at.ensures

pub look_at-requires-in-Some : goal.look_at-requires-in-Some
look_at-requires-in-Some c = record {
  place = place_inside c.args.graph.now c.args.start c.in-Some.i c.search.search.found.items c.search.search.open c.pop.new.self c.search.invariant c.in-Some.ensures;
  below = below_found (map (λ (w : Vec ℕ Global). w.items) c.args.graph.now) c.args.start c.in-Some.i (state_of c.search.search) c.requires.inside c.search.invariant;
}

pub search-smaller : goal.search-smaller
search-smaller c =
    fewer (map (λ (w : Vec ℕ Global). w.items) c.args.graph.now) c.args.start c.in-Some.i c.search.search.found.items c.search.search.open c.pop.new.self
    (state_of c.look_at-in-Some.new.search) c.requires.inside c.search.invariant c.in-Some.ensures c.in_ok-look_at-2.ensures

pub search-preserved : goal.search-preserved
search-preserved c =
    goes_on (map (λ (w : Vec ℕ Global). w.items) c.args.graph.now) c.args.start c.in-Some.i c.search.search.found.items c.search.search.open c.pop.new.self
    (state_of c.look_at-in-Some.new.search) c.requires.inside c.search.invariant c.in-Some.ensures c.in_ok-look_at-2.ensures

pub returns : goal.returns
returns c =
    answers (map (λ (w : Vec ℕ Global). w.items) c.args.graph.now) c.args.start c.search.search.found.items c.search.search.open c.index.result.now c.search.invariant
    c.in_default.ensures.0 (subst (λ n. c.args.start < n) (sym (length-map c.args.graph.now (λ (w : Vec ℕ Global). w.items))) c.requires.start) c.index.ensures
