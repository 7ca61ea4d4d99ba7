-- Files of outputs that are all lines which a history has written.
use Rattle.std.proofs.Common.{◌≡◌, ◌≤◌, ◌+◌, ℕ, zero, suc, Bool, true, false, List, [], ◌∷◌, ◌++◌, length, take, drop, map, find, Option, Some, refl, sym, ap, subst, ◌∙◌, arith, append_assoc, if◌then◌else◌, None}
use Rattle.std.specs.List.{AllByRecursion, slice_get}
use Rattle.std.proofs.lemmas.Grind.{flat_map-append}
use Rattle.std.proofs.lemmas.List.{append-nil, length-take-le, take-append-drop}
use Rattle.std.proofs.Math.Seq.{take-append_seam}
use Rattle.std.proofs.lemmas.Option.{none-some}
use Rattle.base_types.specs.declared.message.Moment.{Moment}
use Rattle.base_types.specs.declared.message.Msg.{Msg}
use Rattle.base_types.specs.Lists.{changed}
use Rattle.base_types.specs.Name.{queue_name}
use Rattle.stored_types.specs.declared.message.Dump.{Dump}
use Rattle.edge_traits.specs.Disk.{Image}
use Rattle.out_files.specs.Output.{completed, lines_text}
use Rattle.store_image.proofs.Histories.{seals}
use Rattle.step_code.specs.declared.base.Base.{Base}
use Rattle.step_code.specs.declared.output.Output.{Output}
use Rattle.step_code.specs.declared.rules.Facts.{Facts}
use Rattle.step_code.specs.declared.step.Step.{Step}
use Rattle.step_code.specs.declared.step.StepKind.{StepKind}
use Rattle.step_code.specs.declared.step.StepKind.TheVariants as kind
use Rattle.step_code.specs.After.{after, body_in_hand, instances_of, redone, taken_first, written}
use Rattle.step_code.specs.History.{replay}
use Rattle.step_code.specs.Rules.{Meaning}
use Rattle.step_code.specs.State.{bots_in_force, bots_of, is_dump, is_out, new_out, waiting}
use Rattle.step_code.proofs.GivenBack.{kept-all_given_back}
use Rattle.store_image.specs.Files.{out_file}
use Rattle.store_image.specs.Stands.{AreSealedFrom, FrontsStand, IsSealOf, IsSealedFrom, IsUnsealed, Origin, Stands}
use Rattle.store_image.specs.Stored.{IsStored}
use Rattle.store_image.proofs.Standing.{replay-append}
use Rattle.store_image.proofs.Stored.{stored_is_one}
use Rattle.journal_book.specs.Outputs.{AreCompleted, AreWhole}
use Rattle.journal_book.specs.Running.{sealed_of}
use Rattle.journal_book.proofs.Completing.{sealed_here}
use Rattle.journal_book.proofs.Sealing.{front_begins, front_of, sealed_replay}

-- ---- steps write behind what is written

-- the lines of output k, each with a newline
abbrev text_of : List Output → ℕ → List ℕ
text_of [] k = []
text_of (out ∷ outs) zero = lines_text out.lines
text_of (out ∷ outs) (suc k) = text_of outs k

abbrev Begins : List ℕ → List ℕ → Type 0
Begins front text = (rest : List ℕ) × (text ≡ front ++ rest)

same : (front text : List ℕ) → text ≡ front → Begins front text
same front text is = ([], is ∙ sym (append-nil front))

further : (a b c : List ℕ) → Begins a b → Begins b c → Begins a c
further a b c first next = (first.0 ++ next.0, next.1 ∙ ap (λ t. t ++ next.0) first.1 ∙ append_assoc a first.0 next.0)

text_longer : (lines : List (List ℕ)) (body : List ℕ) → Begins (lines_text lines) (lines_text (lines ++ body ∷ []))
text_longer lines body = (lines_text (body ∷ []), flat_map-append (λ (line : List ℕ). line ++ 10 ∷ []) lines (body ∷ []))

one_longer : (passes : Bool) (body : List ℕ) (o : Output) (outs others : List Output) → ((k : ℕ) → Begins (text_of outs k) (text_of others k)) → (k : ℕ)
    → Begins (text_of (o ∷ outs) k) (text_of (if passes then record o { lines = o.lines ++ body ∷ [] } ∷ outs else o ∷ others) k)
one_longer true body o outs others later zero = text_longer o.lines body
one_longer true body o outs others later (suc k) = same _ _ refl
one_longer false body o outs others later zero = same _ _ refl
one_longer false body o outs others later (suc k) = later k

changed_longer : (is : Output → Bool) (body : List ℕ) (outs : List Output) (k : ℕ) → Begins (text_of outs k) (text_of (changed is (λ o. record o { lines = o.lines ++ body ∷ [] }) outs) k)
changed_longer is body [] k = same _ _ refl
changed_longer is body (o ∷ outs) k = one_longer (is o) body o outs (changed is (λ o. record o { lines = o.lines ++ body ∷ [] }) outs) (changed_longer is body outs) k

written_longer : (line : Bool) (bot body : List ℕ) (outs : List Output) (k : ℕ) → Begins (text_of outs k) (text_of (written line bot body outs) k)
written_longer true bot body outs k = changed_longer (is_out bot) body outs k
written_longer false bot body outs k = same _ _ refl

new_text : (bots : List Facts) (k : ℕ) → text_of (map new_out bots) k ≡ []
new_text [] k = refl
new_text (f ∷ bots) zero = refl
new_text (f ∷ bots) (suc k) = new_text bots k

more_text : (outs : List Output) (bots : List Facts) (k : ℕ) → text_of (outs ++ map new_out bots) k ≡ text_of outs k
more_text [] bots k = new_text bots k
more_text (o ∷ outs) bots zero = refl
more_text (o ∷ outs) bots (suc k) = more_text outs bots k

after_longer : (m : Meaning) (s : Base) (now : Moment) (what : StepKind) (k : ℕ) → Begins (text_of s.outs k) (text_of (after m s (record { moment = now; what = what })).outs k)
after_longer m s now kind.Start k = same _ _ refl
after_longer m s now (kind.Collect bot from upto piece) k = same _ _ refl
after_longer m s now (kind.FeedEnd bot position) k = same _ _ refl
after_longer m s now (kind.Take bot instance message) k = go (waiting (queue_name bot) s)
  where
    go : (messages : List Msg) → Begins (text_of s.outs k) (text_of (taken_first bot instance now messages (record s { steps = s.steps + 1; latest = now })).outs k)
    go [] = same _ _ refl
    go (x ∷ xs) = same _ _ refl
after_longer m s now (kind.Done bot instance message bundle sends dumps key line) k = written_longer line bot (body_in_hand bot instance s) s.outs k
after_longer m s now (kind.Retry bot instance message bundle fault) k = same _ _ refl
after_longer m s now (kind.Fail bot instance message bundle fault queues halts) k = same _ _ refl
after_longer m s now (kind.Reload bundle) k =
    same _ _ (kept-all_given_back (λ (t : Base). text_of t.outs k) (λ t queues hands. refl) (bots_of m bundle) (instances_of (bots_in_force m s)) _ ∙ more_text s.outs _ k)
after_longer m s now (kind.Redo dump) k = go (find (is_dump dump) s.dumps)
  where
    go : (found : Option Dump) → Begins (text_of s.outs k) (text_of (redone dump found (record s { steps = s.steps + 1; latest = now })).outs k)
    go None = same _ _ refl
    go (Some d) = same _ _ refl
after_longer m s now (kind.Round bot) k = same _ _ refl

replay_longer : (m : Meaning) (s : Base) (steps : List Step) (k : ℕ) → Begins (text_of s.outs k) (text_of (replay m s steps).outs k)
replay_longer m s [] k = same _ _ refl
replay_longer m s (step ∷ steps) k = further _ _ _ (after_longer m s step.moment step.what k) (replay_longer m (after m s step) steps k)

-- ---- a front that is sealed, and the lines behind it

text_here : (outs : List Output) (k : ℕ) (out : Output) → slice_get outs k ≡ Some out → text_of outs k ≡ lines_text out.lines
text_here [] k out is = absurd (none-some out is)
text_here (o ∷ outs) zero out is = ap (λ (x : Option Output). text_of (unwrapped o x ∷ []) 0) is
  where
    unwrapped : Output → Option Output → Output
    unwrapped o None = o
    unwrapped o (Some x) = x
text_here (o ∷ outs) (suc k) out is = text_here outs k out is

-- an output with more of its lines sealed stands at the same place
sealed_at : (wholes outs : List Output) (k : ℕ) (whole : Output) → AreSealedFrom wholes outs → slice_get wholes k ≡ Some whole → (out : Output) × (slice_get outs k ≡ Some out) × IsSealedFrom whole out
sealed_at [] outs k whole sealed is = absurd (none-some whole is)
sealed_at (w ∷ wholes) [] k whole sealed is = absurd sealed
sealed_at (w ∷ wholes) (o ∷ outs) zero whole sealed is = (o, refl, subst (λ (x : Option Output). IsSealedFrom (unwrapped x) o) is sealed.0)
  where
    unwrapped : Option Output → Output
    unwrapped None = w
    unwrapped (Some x) = x
sealed_at (w ∷ wholes) (o ∷ outs) (suc k) whole sealed is = sealed_at wholes outs k whole sealed.1 is

none_sealed : (outs : List Output) → AllByRecursion IsUnsealed outs → (k : ℕ) → sealed_of outs k ≡ 0
none_sealed [] none k = refl
none_sealed (o ∷ outs) none zero = none.0.0
none_sealed (o ∷ outs) none (suc k) = none_sealed outs none.1 k

-- the sealed front of an output is a front of its lines
front_of_text : (wholes outs : List Output) (k : ℕ) → Begins (front_of wholes outs k) (text_of wholes k)
front_of_text [] outs k = same _ _ refl
front_of_text (whole ∷ wholes) [] k = (text_of (whole ∷ wholes) k, refl)
front_of_text (whole ∷ wholes) (out ∷ outs) zero = (
  lines_text (drop out.sealed_lines whole.lines),
  ap lines_text (sym (take-append-drop out.sealed_lines whole.lines)) ∙ flat_map-append (λ (line : List ℕ). line ++ 10 ∷ []) (take out.sealed_lines whole.lines) (drop out.sealed_lines whole.lines),
)
front_of_text (whole ∷ wholes) (out ∷ outs) (suc k) = front_of_text wholes outs k

-- fronts of one text that are as long are one
one_front : (a b text : List ℕ) → Begins a text → Begins b text → length a ≡ length b → a ≡ b
one_front a b text first next as_long =
    sym (take-append_seam a first.0) ∙ ap (take (length a)) (sym first.1 ∙ next.1) ∙ ap (λ n. take n (b ++ next.0)) as_long ∙ take-append_seam b next.0

-- the front of a completed file is what it was
front_stays : (content : List ℕ) (sealed : ℕ) (lines : List (List ℕ)) (file : List ℕ) → sealed ≤ length content → file ≡ completed content sealed lines → take sealed file ≡ take sealed content
front_stays content sealed lines file long is =
    ap (take sealed) is ∙ ap (λ n. take n (completed content sealed lines)) (sym (length-take-le sealed content long)) ∙ take-append_seam (take sealed content) (lines_text lines)

module _ (m : Meaning) (origin : Origin) (past : List Step) (base : Base) (steps : List Step) (state : Base) (none : AllByRecursion IsUnsealed origin.first.outs) (seal : IsSealOf (replay m origin.first past) base) (is : state ≡ replay m base steps) where
  abbrev before : List Output
  before = (replay m origin.first past).outs

  abbrev wholes : List Output
  wholes = (replay m origin.first (past ++ steps)).outs

  all : IsSealOf (replay m origin.first (past ++ steps)) state
  all = subst (λ (s : Base). IsSealOf (replay m origin.first (past ++ steps)) s) (sym is)
      (subst (λ (w : Base). IsSealOf w (replay m base steps)) (sym (replay-append m origin.first past steps)) (seals m (replay m origin.first past) base steps seal))

  bytes_kept : (k : ℕ) → sealed_of base.outs k ≡ sealed_of state.outs k
  bytes_kept k = sym (sealed_replay m base steps k) ∙ ap (λ (s : Base). sealed_of s.outs k) (sym is)

  -- the file of an output whose sealed front stands, and whose other lines stand behind it
  whole_text : (k : ℕ) (whole out : Output) (front : List ℕ) → slice_get wholes k ≡ Some whole → IsSealedFrom whole out → front ≡ front_of before base.outs k → length front ≡ out.sealed_bytes → front ++ lines_text out.lines ≡ lines_text whole.lines
  whole_text k whole out front there one is_front long =
      let joined : lines_text whole.lines ≡ lines_text one.front ++ lines_text out.lines =
      ap lines_text one.lines ∙ flat_map-append (λ (line : List ℕ). line ++ 10 ∷ []) one.front out.lines in
      let later : Begins (text_of before k) (text_of wholes k) =
      subst (λ (s : Base). Begins (text_of before k) (text_of s.outs k)) (sym (replay-append m origin.first past steps)) (replay_longer m (replay m origin.first past) steps k) in
      let sealed : Begins front (text_of before k) = subst (λ (f : List ℕ). Begins f (text_of before k)) (sym is_front) (front_of_text before base.outs k) in
      let begins : Begins front (lines_text whole.lines) = subst (λ (t : List ℕ). Begins front t) (text_here wholes k whole there) (further _ _ _ sealed later) in
      let nothing : whole.sealed_bytes ≡ 0 = sym (sealed_here wholes k whole there) ∙ sealed_replay m origin.first (past ++ steps) k ∙ none_sealed origin.first.outs none k in
      let as_long : length front ≡ length (lines_text one.front) = omega (arith, long, one.bytes, nothing) in
      ap (λ t. t ++ lines_text out.lines) (one_front front (lines_text one.front) (lines_text whole.lines) begins (lines_text out.lines, joined) as_long) ∙ sym joined

  -- so is each file of outputs that are completed
  files_whole : (may_leave : ℕ → List ℕ → Type 0) (old new : Image) → FrontsStand 0 before base.outs new → AreCompleted may_leave state.outs old new → AreWhole may_leave wholes new
  files_whole may_leave old new stand done = λ k whole there.
      let found = sealed_at wholes state.outs k whole all.outs there in
      let out = found.0 in
      let finished = done k out found.1 in
      let size : sealed_of base.outs k ≡ out.sealed_bytes = bytes_kept k ∙ sealed_here state.outs k out found.1 in
      let front = take out.sealed_bytes (old (out_file k)) in
      let is_front : front ≡ front_of before base.outs k =
      sym (front_stays (old (out_file k)) out.sealed_bytes out.lines (new (out_file k)) finished.long finished.content) ∙ ap (λ n. take n (new (out_file k))) (sym size) ∙ front_begins 0 before base.outs new seal.outs stand k k (omega arith) in
      record {
        content = finished.content ∙ whole_text k whole out front there found.2 is_front (length-take-le out.sealed_bytes (old (out_file k)) finished.long);
        durable = finished.durable;
      }

-- the files of completed outputs are all lines of the history that the files of the store stand for
pub whole_files : (m : Meaning) (origin : Origin) (history : List Step) (generation : ℕ) (base : Base) (steps : List Step) (state : Base) (may_leave : ℕ → List ℕ → Type 0) (old new : Image)
    → Stands m origin new history → IsStored new generation base steps → state ≡ replay m base steps → AreCompleted may_leave state.outs old new → AreWhole may_leave (replay m origin.first history).outs new
whole_files m origin history generation base steps state may_leave old new stands stored is done =
    let one = stored_is_one new stands.generation generation stands.base base stands.steps steps stands.stored stored in
    let seal = subst (λ (b : Base). IsSealOf (replay m origin.first stands.past) b) one.1 stands.seals in
    let fronts = subst (λ (b : Base). FrontsStand 0 (replay m origin.first stands.past).outs b.outs new) one.1 stands.fronts in
    let splits : history ≡ stands.past ++ steps = stands.splits ∙ ap (λ ss. stands.past ++ ss) one.2 in
    subst (λ (h : List Step). AreWhole may_leave (replay m origin.first h).outs new) (sym splits) (files_whole m origin stands.past base steps state stands.unsealed seal is may_leave old new fronts done)

-- a disk that tells what it holds behind a call told it before
pub before_told : (told now : Option Image) (files : Image) → (told ≡ None → now ≡ None) → now ≡ Some files → (before : Image) × (told ≡ Some before)
before_told None now files untold tells = absurd (none-some files (sym (untold refl) ∙ tells))
before_told (Some before) now files untold tells = (before, refl)
