-- Bodies that are sent and put aside.
use Rattle.std.proofs.Common.{◌≡◌, ℕ, List, [], ◌∷◌, ◌++◌, Bool, true, Some, Result, Ok, Err, IfOk, OnOk, refl, sym, ap, ◌∙◌, append_assoc}
use Rattle.std.specs.Prelude.{is_some}
use Rattle.std.specs.List.{list_all}
use Rattle.std.proofs.lemmas.Bool.{and_from}
use Rattle.std.proofs.lemmas.Grind.{flat_map-append}
use Rattle.std.proofs.lemmas.List.{append-nil}
use Rattle.std.proofs.lemmas.List.Folds.{list_all-append}
use Rattle.base_types.specs.declared.memory.OutOfMemory.{OutOfMemory}
use Rattle.event_model.specs.Fields.{FieldMap}
use Rattle.event_model.specs.declared.message.Kind.{Kind}
use Rattle.event_model.specs.declared.message.Kind.TheVariants.{Event, Report}
use Rattle.event_model.specs.declared.message.Message.{Message}
use Rattle.event_text.specs.Exact.{strict}
use Rattle.event_text.specs.Strict.{IsTyped}
use Rattle.event_text.specs.Text.{message_text}
use Rattle.event_text.proofs.Exact.{strict-only, strict-reads}
use Rattle.expert_rules.specs.declared.chosen.DedupRule.{DedupRule}
use Rattle.step_code.specs.declared.rules.Role.TheVariants as role
use Rattle.runtime_config.specs.declared.plan.Route.{Route}
use Rattle.bot_rules.specs.Facts.{queues_on}
use Rattle.bot_rules.specs.Gives.{body_of, is_lawful, takes, to_all, to_each, to_paths}
use Rattle.bot_rules.specs.Jobs.{role_for}
use Rattle.bot_rules.specs.declared.job.Job.{Job}
use Rattle.bot_rules.specs.declared.job.Job.TheVariants as job

-- what was written of a message is a body
pub written_is_lawful : (message : Message) (text : List ℕ) → text ≡ message_text message → IsTyped message → is_lawful text ≡ true
written_is_lawful message text is typed = ap is_some (strict-reads text message (record { typed = typed; text = sym is }))

-- a body that was read is its message's text
pub read_is_text : (body : List ℕ) (message : Message) → strict body ≡ Some message → body ≡ message_text message
read_is_text body message is = sym (strict-only body message is).text

abbrev Send : Type 0
Send = List ℕ × List ℕ

-- a body that goes to each of the queues is one each time
pub each_is_lawful : (queues : List (List ℕ)) (body : List ℕ) → is_lawful body ≡ true → list_all (λ (send : Send). is_lawful send.1) (to_each queues body) ≡ true
each_is_lawful [] body is = refl
each_is_lawful (queue ∷ queues) body is = and_from _ _ is (each_is_lawful queues body is)

-- more behind what passes
pub all_more : {A : Type 0} (p : A → Bool) (old more new : List A) → new ≡ old ++ more → list_all p old ≡ true → list_all p more ≡ true → list_all p new ≡ true
all_more p old more new is first later = ap (list_all p) is ∙ list_all-append p old more ∙ and_from _ _ first later

-- the same of what was written, if it was
pub written_on : (r : Result (List ℕ) OutOfMemory) (message : Message) → IfOk r (λ text. text ≡ message_text message) → OnOk r (IsTyped message) → IfOk r (λ body. is_lawful body ≡ true)
written_on (Ok text) message is typed = written_is_lawful message text is typed
written_on (Err e) message is typed = tt

-- an event more
pub next_event : (queues : List (List ℕ)) (before : List FieldMap) (event : FieldMap) (old new : List Send) → (old ≡ to_all queues before) × (list_all (λ (send : Send). is_lawful send.1) old ≡ true)
    → new ≡ old ++ to_each queues (body_of Event event) → is_lawful (body_of Event event) ≡ true
    → (new ≡ to_all queues (before ++ event ∷ [])) × (list_all (λ (send : Send). is_lawful send.1) new ≡ true)
next_event queues before event old new so_far is lawful = (
  is ∙ ap (λ (t : List Send). t ++ to_each queues (body_of Event event)) so_far.0
      ∙ ap (λ (t : List Send). to_all queues before ++ t) (sym (append-nil (to_each queues (body_of Event event))))
      ∙ sym (flat_map-append (λ (e : FieldMap). to_each queues (body_of Event e)) before (event ∷ [])),
  all_more (λ (send : Send). is_lawful send.1) old (to_each queues (body_of Event event)) new is so_far.1 (each_is_lawful queues (body_of Event event) lawful),
)

-- a body that goes on each of the paths is one each time
pub paths_are_lawful : (routes : List Route) (paths : List (List ℕ)) (body : List ℕ) → is_lawful body ≡ true → list_all (λ (send : Send). is_lawful send.1) (to_paths routes paths body) ≡ true
paths_are_lawful routes [] body is = refl
paths_are_lawful routes (path ∷ paths) body is =
    list_all-append (λ (send : Send). is_lawful send.1) (to_each (queues_on path routes) body) (to_paths routes paths body)
    ∙ and_from _ _ (each_is_lawful (queues_on path routes) body is) (paths_are_lawful routes paths body is)

-- a path more
pub next_path : (routes : List Route) (paths more : List (List ℕ)) (path body : List ℕ) (first old new : List Send) → old ≡ first ++ to_paths routes paths body
    → new ≡ old ++ to_each (queues_on path routes) body → paths ++ path ∷ [] ≡ more → new ≡ first ++ to_paths routes more body
next_path routes paths more path body first old new so_far is next =
    let on : List ℕ → List Send = λ p. to_each (queues_on p routes) body in
    is ∙ ap (λ (t : List Send). t ++ on path) so_far
    ∙ append_assoc first (to_paths routes paths body) (on path)
    ∙ ap (λ (t : List Send). first ++ (to_paths routes paths body ++ t)) (sym (append-nil (on path)))
    ∙ ap (λ (t : List Send). first ++ t) (sym (flat_map-append on paths (path ∷ [])))
    ∙ ap (λ (ps : List (List ℕ)). first ++ to_paths routes ps body) next

-- the last path behind the others
pub all_paths : (routes : List Route) (paths others : List (List ℕ)) (last body : List ℕ) (first second third : List Send) → paths ≡ others ++ last ∷ [] → first ≡ []
    → second ≡ first ++ to_paths routes others body → third ≡ second ++ to_each (queues_on last routes) body → third ≡ to_paths routes paths body
all_paths routes paths others last body first second third are none before is =
    next_path routes others paths last body [] second third (before ∙ ap (λ (t : List Send). t ++ to_paths routes others body) none) is (sym are)

-- experts take events alone
event_alone : (kind : Kind) → takes role.Expert kind ≡ true → kind ≡ Event
event_alone Event is = refl
event_alone Report is = absurd (cc (is))

-- what a deduplicator took is the text of an event with these fields
pub taken_text : (body : List ℕ) (message : Message) (work : Job) (rule : DedupRule) → strict body ≡ Some message → takes (role_for work) message.kind ≡ true → work ≡ job.Dedup rule → body ≡ body_of Event message.fields
taken_text body message work rule is taken so =
    let event : message.kind ≡ Event = event_alone message.kind (ap (λ w. takes (role_for w) message.kind) (sym so) ∙ taken) in
    read_is_text body message is ∙ ap (λ k. message_text (record { kind = k; fields = message.fields })) event
