-- What a book keeps behind one step more.
use Rattle.std.proofs.Common.{◌≡◌, inr, ◌≤◌, ◌+◌, ◌-◌, ℕ, Bool, true, false, List, [], ◌∷◌, ◌++◌, length, take, drop, map, min, nat_lt, Option, Some, None, refl, sym, ap, subst, ◌∙◌, arith, length-append, if◌then◌else◌}
use Rattle.std.specs.List.{AllByRecursion}
use Rattle.std.proofs.lemmas.Bool.{ltb-false}
use Rattle.std.proofs.lemmas.Grind.{flat_map-append}
use Rattle.std.proofs.lemmas.List.{append-nil, drop-append-le, take_all, take-append-le}
use Rattle.base_types.specs.declared.message.FaultNote.{FaultNote}
use Rattle.base_types.specs.Number.{last_u64}
use Rattle.base_types.proofs.Everywhere.{all-append}
use Rattle.disk_journal.specs.Journal.{JournalView, IsAtRest}
use Rattle.edge_traits.specs.Disk.{DiskView, Image}
use Rattle.step_code.specs.declared.base.Base.{Base}
use Rattle.step_code.specs.declared.output.Output.{Output}
use Rattle.step_code.specs.declared.step.Step.{Step}
use Rattle.step_code.specs.declared.step.StepKind.{StepKind}
use Rattle.step_code.specs.declared.step.StepKind.TheVariants as kind
use Rattle.step_code.specs.declared.step.StepRefusal.{StepRefusal}
use Rattle.step_code.specs.Content.{Carries, is_duplicate, Matches, May}
use Rattle.step_code.specs.Fits.{first_failing, Fits, parts}
use Rattle.step_code.specs.After.{after}
use Rattle.step_code.specs.Code.{code_of_base, code_of_step, first_format, IsWritable}
use Rattle.step_code.specs.Rules.{last_moment, Meaning}
use Rattle.step_code.specs.Spent.{is_past, last_given, numbers_brought, out_length, spent}
use Rattle.step_code.proofs.GivenBack.{latest_after}
use Rattle.step_code.proofs.Lists.{all_fail}
use Rattle.store_image.specs.Stands.{Origin, Stands, StandsFor}
use Rattle.store_image.specs.Stored.{codes_of, AreRecords}
use Rattle.store_image.proofs.Standing.{replay-append}
use Rattle.journal_book.specs.Keeping.{longest_output, AreAtRest, AreShort, IsPending, IsReplayed}
use Rattle.journal_book.specs.Book.{BookView, IsKept}
use Rattle.journal_book.specs.Staged.{bytes_with, first_cause, screened, staged, stamp, step_cause, IsGiven, IsMove}
use Rattle.journal_book.specs.declared.stage_refusal.StageRefusal.TheVariants as refusal

pub replayed_more : (m : Meaning) (base : Base) (steps : List Step) (kept : ℕ) (state : Base) (step : Step) → IsReplayed m base steps kept state → IsWritable step → step.moment.0 ≤ last_moment
    → IsReplayed m base (steps ++ step ∷ []) kept (after m state step)
replayed_more m base steps kept state step was writable time = record {
  sound = was.sound;
  writable = was.writable;
  behind = ap (λ s. after m s step) was.behind ∙ sym (replay-append m base steps (step ∷ []));
  latest = omega (arith, time, ap (λ n. n.0) (latest_after m state step.moment step.what));
  within = omega (arith, was.within, length-append steps (step ∷ []));
  coded = subst (λ (ss : List Step). AllByRecursion IsWritable ss) (sym (drop-append-le kept steps (step ∷ []) was.within)) (all-append IsWritable (drop kept steps) (step ∷ []) was.coded (writable, tt));
}

codes_more : (steps : List Step) (step : Step) → codes_of (steps ++ step ∷ []) ≡ codes_of steps ++ code_of_step step
codes_more steps step = flat_map-append code_of_step steps (step ∷ []) ∙ ap (λ c. codes_of steps ++ c) (append-nil (code_of_step step))

pub pending_more : (steps : List Step) (step : Step) (kept : ℕ) (pending more : List ℕ) (used len limit : ℕ) (journal later : JournalView) → kept ≤ length steps
    → IsPending steps kept pending used limit journal → more ≡ take used pending ++ code_of_step step → len ≡ length more → len ≤ later.room → later.length ≡ journal.length
    → nat_lt limit (bytes_with steps step) ≡ false → IsPending (steps ++ step ∷ []) kept more len limit later
pending_more steps step kept pending more used len limit journal later within was code size room same fits =
    let codes = codes_more steps step in
    let waiting : drop kept (steps ++ step ∷ []) ≡ drop kept steps ++ step ∷ [] = drop-append-le kept steps (step ∷ []) within in
    let durable : take kept (steps ++ step ∷ []) ≡ take kept steps = take-append-le kept steps (step ∷ []) within in
    let total : length (codes_of (steps ++ step ∷ [])) ≡ length (codes_of steps) + length (code_of_step step) = ap length codes ∙ length-append (codes_of steps) (code_of_step step) in
    let whole : take len more ≡ more = take_all len more (omega (arith, size)) in
    record {
      code = whole ∙ code ∙ ap (λ c. c ++ code_of_step step) was.code ∙ sym (codes_more (drop kept steps) step) ∙ ap codes_of (sym waiting);
      within = omega (arith, size);
      has_room = room;
      bound = was.bound;
      small = inr (omega (arith, total, was.bound, ltb-false limit (bytes_with steps step) fits));
      long = omega (arith, same, was.long, ap (λ ss. length (codes_of ss)) durable);
    }

-- a step that isn't committed leaves the codes of those before it
pub pending_still : (steps : List Step) (kept : ℕ) (pending other : List ℕ) (used limit : ℕ) (journal later : JournalView) → IsPending steps kept pending used limit journal
    → take used other ≡ take used pending → used ≤ length other → journal.room ≤ later.room → later.length ≡ journal.length → IsPending steps kept other used limit later
pending_still steps kept pending other used limit journal later was same within room length = record {
  code = same ∙ was.code;
  within = within;
  has_room = omega (arith, was.has_room, room);
  bound = was.bound;
  small = was.small;
  long = omega (arith, length, was.long);
}

short_lengths : (outs : List Output) → AllByRecursion (λ n. is_past n ≡ false) (map (λ n. min n last_u64) (map out_length outs)) → AllByRecursion (λ o. out_length o ≤ longest_output) outs
short_lengths [] small = tt
short_lengths (out ∷ outs) small = (omega (arith, ltb-false last_given (min (out_length out) last_u64) small.0), short_lengths outs small.1)

-- where no number is spent, there are not too many outputs, and none is too long
pub short_outs : (m : Meaning) (s : Base) (step : Step) → spent m s step ≡ None → AreShort (after m s step).outs
short_outs m s step small =
    let all = all_fail is_past (map (λ n. min n last_u64) (numbers_brought (after m s step))) small in
    record { few = omega (arith, ltb-false last_given (min (length (after m s step).outs - 1) last_u64) all.1.1.1.1.0); each = short_lengths (after m s step).outs all.1.1.1.1.1 }

-- ---- what a step carries

-- a book whose disk stays stands for a front of its steps and of one more
pub kept_staged : {D R : Type 0} (disk : D → DiskView) (m : Meaning) (origin : Origin) (past : List Step) (book : BookView D R) (step : Step) (state : Base) → IsKept disk m origin past book
    → IsKept disk m origin past (record book { state = state; steps = book.steps ++ step ∷ [] })
kept_staged disk m origin past book step state kept = record {
  files = kept.files;
  tells = kept.tells;
  counted = kept.counted;
  seals = kept.seals;
  within = omega (arith, kept.within, length-append book.steps (step ∷ []));
  each = λ image left. longer image (kept.each image left);
}
  where
    longer : (image : Image) → StandsFor m origin (past ++ take book.kept book.steps) (drop book.kept book.steps) image
        → StandsFor m origin (past ++ take book.kept (book.steps ++ step ∷ [])) (drop book.kept (book.steps ++ step ∷ [])) image
    longer image stands =
        let durable : take book.kept (book.steps ++ step ∷ []) ≡ take book.kept book.steps = take-append-le book.kept book.steps (step ∷ []) kept.within in
        let waiting : drop book.kept (book.steps ++ step ∷ []) ≡ drop book.kept book.steps ++ step ∷ [] = drop-append-le book.kept book.steps (step ∷ []) kept.within in
        let same : take stands.count (drop book.kept book.steps ++ step ∷ []) ≡ take stands.count (drop book.kept book.steps) = take-append-le stands.count (drop book.kept book.steps) (step ∷ []) stands.within in
        subst (λ (ss : List Step). StandsFor m origin (past ++ ss) (drop book.kept (book.steps ++ step ∷ [])) image) (sym durable)
        (subst (λ (ss : List Step). StandsFor m origin (past ++ take book.kept book.steps) ss image) (sym waiting) (record {
          count = stands.count;
          within = omega (arith, stands.within, length-append (drop book.kept book.steps) (step ∷ []));
          stands = subst (λ (ss : List Step). Stands m origin image ((past ++ take book.kept book.steps) ++ ss)) (sym same) stands.stands;
        }))

carried : (m : Meaning) (s : Base) (bot : List ℕ) (instance now : ℕ) (duplicate : Bool) (bundle message : ℕ) (sends : List (List ℕ × List ℕ)) (dumps : List (List ℕ × FaultNote)) (key : Option (List ℕ)) (line : Bool) → is_duplicate m s bot now key ≡ duplicate
    → IsGiven m s bot instance sends dumps key line
    → Matches m s now (if duplicate then kind.Done bot instance message bundle [] dumps None line else kind.Done bot instance message bundle sends dumps key line)
carried m s bot instance now true bundle message sends dumps key line is given =
    record { hand = given.hand; holds = given.holds; given_sends = sends; given_key = key; gives = given.gives; carries = subst (λ (b : Bool). Carries b sends key [] None) (sym is) (refl, refl) }
carried m s bot instance now false bundle message sends dumps key line is given =
    record { hand = given.hand; holds = given.holds; given_sends = sends; given_key = key; gives = given.gives; carries = subst (λ (b : Bool). Carries b sends key sends key) (sym is) (refl, refl) }

pub matches : (m : Meaning) (format : ℕ) (s : Base) (now : ℕ) (what : StepKind) → IsMove m format s now what → Matches m s now (screened m s now what)
matches m format s now kind.Start move = tt
matches m format s now (kind.Collect bot from upto piece) move = move
matches m format s now (kind.FeedEnd bot position) move = tt
matches m format s now (kind.Take bot instance message) move = move
matches m format s now (kind.Done bot instance message bundle sends dumps key line) move = carried m s bot instance now (is_duplicate m s bot now key) bundle message sends dumps key line refl move
matches m format s now (kind.Retry bot instance message bundle fault) move = move
matches m format s now (kind.Fail bot instance message bundle fault queues halts) move = move
matches m format s now (kind.Reload bundle) move = tt
matches m format s now (kind.Redo dump) move = tt
matches m format s now (kind.Round bot) move = tt

-- a move that the rules gave comes to a step that may be taken, if it fits; the latest moment is one that a step may have
pub may_stage : (m : Meaning) (format : ℕ) (s : Base) (now : ℕ) (what : StepKind) → s.latest.0 ≤ last_moment → Fits m s (staged m s now what) → IsMove m format s (stamp s now).0 what → May m s (staged m s now what)
may_stage m format s now what latest fits move = record {
  fits = fits;
  content = record { time = record { order = omega arith; limit = omega (arith, latest) }; what = matches m format s (stamp s now).0 what move };
}

-- nothing refuses a step: it fits, no number is spent, and the limit isn't passed
cause_none : (fits : Option StepRefusal) (number : Option ℕ) (bytes limit : ℕ) → first_cause fits number bytes limit ≡ None → (fits ≡ None) × (number ≡ None) × (nat_lt limit bytes ≡ false)
cause_none (Some step) number bytes limit none = absurd (cc)
cause_none None (Some next) bytes limit none = absurd (cc)
cause_none None None bytes limit none = (refl, refl, go (nat_lt limit bytes) none)
  where
    go : (past : Bool) → (if past then Some (refusal.Full bytes) else None) ≡ None → past ≡ false
    go true e = absurd (cc)
    go false e = refl

pub nothing_refuses : (m : Meaning) (s : Base) (steps : List Step) (limit : ℕ) (step : Step) → step_cause m s steps limit step ≡ None → Fits m s step × (spent m s step ≡ None) × (nat_lt limit (bytes_with steps step) ≡ false)
nothing_refuses m s steps limit step none = cause_none (first_failing (parts m s step.what)) (spent m s step) (bytes_with steps step) limit none

-- ---- a journal with more room

roomier : (journal : JournalView) (room : ℕ) (may_leave : ℕ → List ℕ → Type 0) (bodies : List (List ℕ)) (files : Image) → IsAtRest journal may_leave bodies files → IsAtRest (record journal { room = room }) may_leave bodies files
roomier journal room may_leave bodies files rest =
    record { whole = rest.whole; gate = rest.gate; closed = rest.closed; lengths = rest.lengths; content = rest.content; end = rest.end; durable = rest.durable }

pub rest_roomier : (root journal later : JournalView) (may_leave : ℕ → List ℕ → Type 0) (g : ℕ) (base : Base) (steps more : List Step) (files : Image) → AreAtRest root journal may_leave g base steps files → later ≡ record journal { room = later.room }
    → more ≡ steps → AreAtRest root later may_leave g base more files
rest_roomier root journal later may_leave g base steps more files rest same is = record {
  before = rest.before;
  given = rest.given;
  root_rests = rest.root_rests;
  records = rest.records;
  journal_rests = subst (λ (j : JournalView). IsAtRest j may_leave (code_of_base first_format base ∷ rest.records) files) (sym same) (roomier journal later.room may_leave (code_of_base first_format base ∷ rest.records) files rest.journal_rests);
  content = subst (λ (ss : List Step). AreRecords rest.records ss) (sym is) rest.content;
}

pub durable_more : (kept : ℕ) (steps more : List Step) (step : Step) → kept ≤ length steps → more ≡ steps ++ step ∷ [] → take kept more ≡ take kept steps
durable_more kept steps more step within is = ap (take kept) is ∙ take-append-le kept steps (step ∷ []) within
