use Rattle.std.proofs.Common.{◌≡◌, length, subst, sym, ap, ◌∙◌, true}
use Rattle.std.specs.FinMap.{is_sorted}
use Rattle.base_types.proofs.Places.{order}
use Rattle.event_json.specs.Direct.{named_values, given_values, AreAmong}
use Rattle.event_json.proofs.AtOnce.{given-length, reads_at_once}
use Rattle.event_json.proofs.Placing.{named-length}
use Rattle.event_json.proofs.Slices.{of_some}
use Rattle.event_json.proofs.at_once.at_once.Goals as goal

pub returns : goal.returns
returns c =
    let members = c.args.members.now in
    let ordered = named_values c.in-Some.found.items in
    let all : named_values c.deref.result.now ≡ given_values members = ap named_values c.deref.ensures.value ∙ c.in_ok-given.ensures in
    let sorted = of_some c.in_ok-found.field-0 c.in-Some.found (λ ms. is_sorted order (named_values ms.items) ≡ true) c.in-Some.is c.in_ok-found.ensures.sorted in
    let among = of_some c.in_ok-found.field-0 c.in-Some.found (λ ms. AreAmong (named_values c.deref.result.now) (named_values ms.items)) c.in-Some.is c.in_ok-found.ensures.among in
    let size : length ordered ≡ length (given_values members) =
    sym (named-length c.in-Some.found.items) ∙ ap length (sym c.as_slice.ensures.value) ∙ c.if-as_slice-members.false ∙ given-length members in
    reads_at_once members ordered sorted (subst (λ a. AreAmong a ordered) all among) size
