-- Paths whose queues are those of bots.
use Rattle.std.proofs.Common.{◌≡◌, ℕ, suc, ◌+◌, ◌<◌, List, [], ◌∷◌, ◌++◌, Bool, true, false, ◌&&◌, not, length, drop, drop-cons, add-one, get_or, Option, Some, None, map, option_map, if◌then◌else◌, bytes_eq, refl, sym, ap, ◌∙◌}
use Rattle.std.specs.List.{flat_map, list_all}
use Rattle.std.specs.Prelude.{is_some}
use Rattle.std.proofs.lemmas.Bool.{and_parts}
use Rattle.std.proofs.lemmas.Slice.Eq.{bytes_eq-Decides}
use Rattle.serde_json.specs.Data.{no_members}
use Rattle.event_model.specs.Trees.{both}
use Rattle.base_types.specs.Name.{queue_name}
use Rattle.runtime_config.specs.Faults.{is_known}
use Rattle.runtime_config.specs.Load.{route_of}
use Rattle.runtime_config.specs.Paths.{known_path, known_paths, known_queue, known_queues}
use Rattle.runtime_config.specs.declared.plan.Route.{Route as Path}
use Rattle.module_settings.specs.Modules.{is_collector}
use Rattle.runtime_text.specs.Runtime.{module_of, Entry, Route}
use Rattle.runtime_text.specs.Wires.{owner}
use Rattle.runtime_text.proofs.Owners.{known_owner, owner_stands}

abbrev pub no_entry : Entry
no_entry = ([], no_members)

pub queue_known : (bots : List Entry) (queue : List ℕ) (i : ℕ) (made : List ℕ) → Some i ≡ owner bots queue → ((d : Entry) → made ≡ queue_name (get_or bots i d).0) → Some made ≡ known_queue bots queue
queue_known bots queue i made is named =
    let known : is_known bots queue ≡ true = sym (known_owner bots queue) ∙ ap is_some (sym is) in
    let own = (and_parts (bytes_eq queue (queue_name (get_or bots i no_entry).0)) (not (is_collector (module_of (get_or bots i no_entry)))) ((owner_stands bots queue i is).1 no_entry)).0 in
    let same : queue ≡ queue_name (get_or bots i no_entry).0 = (bytes_eq-Decides queue (queue_name (get_or bots i no_entry).0)).0 own in
    ap Some (named no_entry ∙ sym same) ∙ sym (ap (λ b. if b then Some queue else None) known)

pub queue_unknown : (bots : List Entry) (queue : List ℕ) → None ≡ owner bots queue → None ≡ known_queue bots queue
queue_unknown bots queue is =
    let unknown : is_known bots queue ≡ false = sym (known_owner bots queue) ∙ ap is_some (sym is) in
    sym (ap (λ b. if b then Some queue else None) unknown)

pub path_first : (bots : List Entry) (rs : List Route) (i : ℕ) (r : Route) (path : Option Path) → i < length rs → r ≡ get_or rs i r → path ≡ known_path bots r
    → known_paths bots (drop i rs) ≡ both path (known_paths bots (drop (i + 1) rs))
path_first bots rs i r path within read is =
    ap (known_paths bots) (drop-cons rs i r within ∙ ap (λ (q : Route). q ∷ drop (suc i) rs) (sym read) ∙ ap (λ n. r ∷ drop n rs) (sym (add-one i)))
    ∙ ap (λ p. both p (known_paths bots (drop (i + 1) rs))) (sym is)

-- ---- the paths are known where each queue is

queues_by : (b c : Bool) (queue : List ℕ) (queues : List (List ℕ)) → both (if b then Some queue else None) (if c then Some queues else None) ≡ (if b && c then Some (queue ∷ queues) else None)
queues_by true true queue queues = refl
queues_by true false queue queues = refl
queues_by false c queue queues = refl

queues_are : (bots : List Entry) (queues : List (List ℕ)) → known_queues bots queues ≡ (if list_all (is_known bots) queues then Some queues else None)
queues_are bots [] = refl
queues_are bots (queue ∷ queues) = ap (both (known_queue bots queue)) (queues_are bots queues) ∙ queues_by (is_known bots queue) (list_all (is_known bots) queues) queue queues

all_append : (p : List ℕ → Bool) (xs ys : List (List ℕ)) → list_all p (xs ++ ys) ≡ (list_all p xs && list_all p ys)
all_append p [] ys = refl
all_append p (x ∷ xs) ys = ap (λ b. p x && b) (all_append p xs ys) ∙ assoc (p x) (list_all p xs) (list_all p ys)
  where
    assoc : (a b c : Bool) → (a && (b && c)) ≡ ((a && b) && c)
    assoc true b c = refl
    assoc false b c = refl

paths_by : (b c : Bool) (r : Route) (rs : List Route) → both (option_map (λ queues. record { path = r.0; queues = queues }) (if b then Some r.1 else None)) (if c then Some (map route_of rs) else None)
    ≡ (if b && c then Some (map route_of (r ∷ rs)) else None)
paths_by true true r rs = refl
paths_by true false r rs = refl
paths_by false c r rs = refl

pub paths_are : (bots : List Entry) (rs : List Route) → known_paths bots rs ≡ (if list_all (is_known bots) (flat_map (λ (r : Route). r.1) rs) then Some (map route_of rs) else None)
paths_are bots [] = refl
paths_are bots (r ∷ rs) =
    ap (both (known_path bots r)) (paths_are bots rs)
    ∙ ap (λ o. both (option_map (λ queues. record { path = r.0; queues = queues }) o) (if list_all (is_known bots) (flat_map (λ (q : Route). q.1) rs) then Some (map route_of rs) else None)) (queues_are bots r.1)
    ∙ paths_by (list_all (is_known bots) r.1) (list_all (is_known bots) (flat_map (λ (q : Route). q.1) rs)) r rs
    ∙ ap (λ b. if b then Some (map route_of (r ∷ rs)) else None) (sym (all_append (is_known bots) r.1 (flat_map (λ (q : Route). q.1) rs)))
