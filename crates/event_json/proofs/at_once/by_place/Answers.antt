use Rattle.std.proofs.Common.{◌≡◌, ◌++◌, ◌∷◌, ℕ, List, [], Bor, ap, refl, sym, ◌∙◌, true}
use Rattle.base_types.specs.Place.{is_above_all}
use Rattle.event_json.specs.Direct.{named_values}
use Rattle.event_json.proofs.AtOnce.{one_taken}
use Rattle.event_json.proofs.Slices.{parted}
use Rattle.event_json.proofs.at_once.by_place.Goals as goal

pub places-preserved : goal.places-preserved
places-preserved c =
    let all = c.args.members.now in
    let found = c.places.found.items in
    let m = c.in-Some.member.now in
    let at = c.in-Some.ensures.lookup in
    let (front, back, split) = parted all c.from.result m at.3.0 at.1 in
    let (x, y, old, new, parts) = c.in_ok-clone.ensures.cases in
    let name : c.in_ok-clone.field-0 ≡ m.0 = sym new ∙ ap (λ (t : Bor (List ℕ)). t.now) parts.0 ∙ old in
    let same : (c.in_ok-clone.field-0, m.1) ≡ m = ap (λ k. (k, m.1)) name in
    let is = c.in_ok-push.ensures.items ∙ ap (λ (e : _). found ++ e ∷ []) same in
    let above : is_above_all m.0 (named_values found) ≡ true = ap (λ ms. is_above_all m.0 (named_values ms)) (sym c.deref.ensures.value) ∙ c.if-not-is_above.ensures refl in
    one_taken all found c.push.new.self.items front back m is above split c.places.invariant
