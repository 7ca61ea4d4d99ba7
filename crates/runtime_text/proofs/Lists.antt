-- What is read of lists and objects, one item after the other.
use Rattle.std.proofs.Common.{◌≡◌, ℕ, List, [], ◌∷◌, ◌++◌, Option, Some, option_map, option_and_then, string_bytes, sym, ap, ◌∙◌}
use Rattle.serde_json.specs.Find.{as_array}
use Rattle.serde_json.specs.View.{view, members_view}
use Rattle.event_model.specs.Trees.{both}
use Rattle.event_model.proofs.TreeLemmas.{Entry}
use Rattle.event_model.proofs.Written.{front_push, in_front}
use Rattle.module_settings.specs.Parameters.{texts_in}
use Rattle.runtime_text.specs.Runtime.{routes_in}

-- one more item is read behind others
pub read_more : {A : Type 0} (all later rest : Option (List A)) (done new : List A) (x : A) → all ≡ in_front done later → later ≡ both (Some x) rest → new ≡ done ++ x ∷ [] → all ≡ in_front new rest
read_more all later rest done new x so_far step pushed =
    so_far ∙ ap (in_front done) step ∙ front_push done x rest ∙ ap (λ xs. in_front xs rest) (sym pushed)

pub route_first : (left rest : List Entry) (e : Entry) (path : List ℕ) (queues : Option (List (List ℕ))) → left ≡ e ∷ rest → path ≡ string_bytes e.0 → queues ≡ option_and_then texts_in (as_array (view e.1))
    → routes_in (members_view left) ≡ both (option_map (λ qs. (path, qs)) queues) (routes_in (members_view rest))
route_first left rest e path queues step name read =
    ap (λ es. routes_in (members_view es)) step
    ∙ ap (λ o. both (option_map (λ qs. (string_bytes e.0, qs)) o) (routes_in (members_view rest))) (sym read)
    ∙ ap (λ (p : List ℕ). both (option_map (λ qs. (p, qs)) queues) (routes_in (members_view rest))) (sym name)
