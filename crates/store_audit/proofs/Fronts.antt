-- Lines of outputs that are sealed, and stand at the front of their files: so it stays while steps write lines behind them, and where more
-- of them are sealed.
use Rattle.std.proofs.Common.{◌≡◌, ◌+◌, ◌-◌, ℕ, suc, Bool, true, false, List, [], ◌∷◌, ◌++◌, length, take, drop, find, Option, Some, None, refl, sym, ap, subst, ◌∙◌, arith, append_assoc, length-append, if◌then◌else◌}
use Rattle.std.specs.List.{AllByRecursion}
use Rattle.std.proofs.Math.Seq.{take-add, take-append_seam}
use Rattle.std.proofs.lemmas.Grind.{flat_map-append}
use Rattle.std.proofs.lemmas.List.{append-nil}
use Rattle.base_types.specs.declared.message.Moment.{Moment}
use Rattle.base_types.specs.declared.message.Msg.{Msg}
use Rattle.base_types.specs.Lists.{changed}
use Rattle.base_types.specs.Name.{queue_name}
use Rattle.stored_types.specs.declared.message.Dump.{Dump}
use Rattle.edge_traits.specs.Disk.{Image}
use Rattle.out_files.specs.Output.{lines_text}
use Rattle.step_code.specs.declared.base.Base.{Base}
use Rattle.step_code.specs.declared.output.Output.{Output}
use Rattle.step_code.specs.declared.step.Step.{Step}
use Rattle.step_code.specs.declared.step.StepKind.{StepKind}
use Rattle.step_code.specs.declared.step.StepKind.TheVariants as kind
use Rattle.step_code.specs.After.{after, body_in_hand, instances_of, redone, taken_first, written}
use Rattle.step_code.specs.History.{replay}
use Rattle.step_code.specs.Rules.{Meaning}
use Rattle.step_code.specs.State.{bots_in_force, bots_of, is_dump, is_out, waiting}
use Rattle.step_code.proofs.GivenBack.{kept-all_given_back}
use Rattle.store_image.proofs.Unsealed.{new_unsealed}
use Rattle.store_image.specs.Files.{out_file}
use Rattle.store_image.specs.Stands.{AreSealedFrom, FrontsStand, FrontStands, IsSealedFrom, IsUnsealed}
use Rattle.store_audit.specs.Audit.{HasSealed, HaveSealed}
use Rattle.store_audit.specs.Sealed.{StandsAt}
use Rattle.store_audit.proofs.Following.{front_has, text_begins}
use Rattle.store_audit.proofs.Standing.{stands_first, stands_then}

-- ---- steps write behind what is written

-- an output with more lines behind those that it had, as many of them sealed
pub record IsLonger (o later : Output) : Type 0 where
  pub more : List (List ℕ)
  pub lines : later.lines ≡ o.lines ++ more
  pub bytes : later.sealed_bytes ≡ o.sealed_bytes
  pub count : later.sealed_lines ≡ o.sealed_lines

-- outputs with more lines, and others behind them of which nothing is sealed
abbrev pub AreLonger : List Output → List Output → Type 0
AreLonger [] later = AllByRecursion IsUnsealed later
AreLonger (o ∷ os) [] = ⊥
AreLonger (o ∷ os) (p ∷ ps) = IsLonger o p × AreLonger os ps

one_same : (o : Output) → IsLonger o o
one_same o = record { more = []; lines = sym (append-nil o.lines); bytes = refl; count = refl }

all_same : (os : List Output) → AreLonger os os
all_same [] = tt
all_same (o ∷ os) = (one_same o, all_same os)

one_further : (a b c : Output) → IsLonger a b → IsLonger b c → IsLonger a c
one_further a b c x y = record {
  more = x.more ++ y.more;
  lines = y.lines ∙ ap (λ ls. ls ++ y.more) x.lines ∙ append_assoc a.lines x.more y.more;
  bytes = y.bytes ∙ x.bytes;
  count = y.count ∙ x.count;
}

unsealed_on : (os ps : List Output) → AllByRecursion IsUnsealed os → AreLonger os ps → AllByRecursion IsUnsealed ps
unsealed_on [] ps none later = later
unsealed_on (o ∷ os) [] none bad = absurd bad
unsealed_on (o ∷ os) (p ∷ ps) none later = ((later.0.bytes ∙ none.0.0, later.0.count ∙ none.0.1), unsealed_on os ps none.1 later.1)

further : (xs ys zs : List Output) → AreLonger xs ys → AreLonger ys zs → AreLonger xs zs
further [] ys zs x y = unsealed_on ys zs x y
further (a ∷ xs) [] zs bad y = absurd bad
further (a ∷ xs) (b ∷ ys) [] x bad = absurd bad
further (a ∷ xs) (b ∷ ys) (c ∷ zs) x y = (one_further a b c x.0 y.0, further xs ys zs x.1 y.1)

one_changed : (passes : Bool) (body : List ℕ) (o : Output) (outs others : List Output) → AreLonger outs others
    → AreLonger (o ∷ outs) (if passes then record o { lines = o.lines ++ body ∷ [] } ∷ outs else o ∷ others)
one_changed true body o outs others later = (record { more = body ∷ []; lines = refl; bytes = refl; count = refl }, all_same outs)
one_changed false body o outs others later = (one_same o, later)

changed_longer : (is : Output → Bool) (body : List ℕ) (outs : List Output) → AreLonger outs (changed is (λ o. record o { lines = o.lines ++ body ∷ [] }) outs)
changed_longer is body [] = tt
changed_longer is body (o ∷ outs) = one_changed (is o) body o outs (changed is (λ o. record o { lines = o.lines ++ body ∷ [] }) outs) (changed_longer is body outs)

written_longer : (line : Bool) (bot body : List ℕ) (outs : List Output) → AreLonger outs (written line bot body outs)
written_longer true bot body outs = changed_longer (is_out bot) body outs
written_longer false bot body outs = all_same outs

new_longer : (outs new : List Output) → AllByRecursion IsUnsealed new → AreLonger outs (outs ++ new)
new_longer [] new none = none
new_longer (o ∷ outs) new none = (one_same o, new_longer outs new none)

after_longer : (m : Meaning) (s : Base) (now : Moment) (what : StepKind) → AreLonger s.outs (after m s (record { moment = now; what = what })).outs
after_longer m s now kind.Start = all_same s.outs
after_longer m s now (kind.Collect bot from upto piece) = all_same s.outs
after_longer m s now (kind.FeedEnd bot position) = all_same s.outs
after_longer m s now (kind.Take bot instance message) = go (waiting (queue_name bot) s)
  where
    go : (messages : List Msg) → AreLonger s.outs (taken_first bot instance now messages (record s { steps = s.steps + 1; latest = now })).outs
    go [] = all_same s.outs
    go (x ∷ xs) = all_same s.outs
after_longer m s now (kind.Done bot instance message bundle sends dumps key line) = written_longer line bot (body_in_hand bot instance s) s.outs
after_longer m s now (kind.Retry bot instance message bundle fault) = all_same s.outs
after_longer m s now (kind.Fail bot instance message bundle fault queues halts) = all_same s.outs
after_longer m s now (kind.Reload bundle) =
    subst (λ (outs : List Output). AreLonger s.outs outs)
    (sym (kept-all_given_back (λ (t : Base). t.outs) (λ t queues hands. refl) (bots_of m bundle) (instances_of (bots_in_force m s)) _)) (new_longer s.outs _ (new_unsealed _))
after_longer m s now (kind.Redo dump) = go (find (is_dump dump) s.dumps)
  where
    go : (found : Option Dump) → AreLonger s.outs (redone dump found (record s { steps = s.steps + 1; latest = now })).outs
    go None = all_same s.outs
    go (Some d) = all_same s.outs
after_longer m s now (kind.Round bot) = all_same s.outs

pub longer_behind : (m : Meaning) (s : Base) (steps : List Step) → AreLonger s.outs (replay m s steps).outs
longer_behind m s [] = all_same s.outs
longer_behind m s (step ∷ steps) = further s.outs (after m s step).outs (replay m (after m s step) steps).outs (after_longer m s step.moment step.what) (longer_behind m (after m s step) steps)

-- ---- one output

-- as many lines as are in front of others
front_of : (lines front rest : List (List ℕ)) (n : ℕ) → lines ≡ front ++ rest → n ≡ length front → take n lines ≡ front
front_of lines front rest n splits long = ap (λ k. take k lines) long ∙ ap (take (length front)) splits ∙ take-append_seam front rest

front_stands : (w o : Output) (file : List ℕ) (front rest : List (List ℕ)) → w.lines ≡ front ++ rest → o.sealed_lines ≡ length front → o.sealed_bytes ≡ length (lines_text front) → take o.sealed_bytes file ≡ lines_text front
    → FrontStands w o file
front_stands w o file front rest splits count bytes begins =
    let is : take o.sealed_lines w.lines ≡ front = front_of w.lines front rest o.sealed_lines splits count in
    record { size = ap (λ ls. length (lines_text ls)) is ∙ sym bytes; begins = begins ∙ sym (ap lines_text is) }

module _ (w o : Output) (file : List ℕ) (none : IsUnsealed w) (seal : IsSealedFrom w o) (stands : FrontStands w o file) where
  count_is : o.sealed_lines ≡ length seal.front
  count_is = omega (arith, seal.count, none.1)

  bytes_is : o.sealed_bytes ≡ length (lines_text seal.front)
  bytes_is = omega (arith, seal.bytes, none.0)

  begins : take o.sealed_bytes file ≡ lines_text seal.front
  begins = stands.begins ∙ ap lines_text (front_of w.lines seal.front o.lines o.sealed_lines seal.lines count_is)

  -- with lines behind those that are sealed
  front_later : (v p : Output) → IsLonger w v → IsLonger o p → FrontStands v p file
  front_later v p x y =
      front_stands v p file seal.front (o.lines ++ x.more) (x.lines ∙ ap (λ ls. ls ++ x.more) seal.lines ∙ append_assoc seal.front o.lines x.more) (y.count ∙ count_is) (y.bytes ∙ bytes_is) (ap (λ n. take n file) y.bytes ∙ begins)

  -- with more of them sealed
  front_sealed : (p : Output) → IsSealedFrom o p → HasSealed o p file → FrontStands w p file
  front_sealed p more has =
      let text : lines_text (seal.front ++ more.front) ≡ lines_text seal.front ++ lines_text more.front = flat_map-append (λ (line : List ℕ). line ++ 10 ∷ []) seal.front more.front in
      front_stands w p file (seal.front ++ more.front) p.lines
      (seal.lines ∙ ap (λ ls. seal.front ++ ls) more.lines ∙ sym (append_assoc seal.front more.front p.lines))
      (omega (arith, more.count, count_is, length-append seal.front more.front))
      (omega (arith, more.bytes, bytes_is, ap length text, length-append (lines_text seal.front) (lines_text more.front)))
      (ap (λ n. take n file) more.bytes
      ∙ take-add o.sealed_bytes (length (lines_text more.front)) file
      ∙ ap (λ t. t ++ take (length (lines_text more.front)) (drop o.sealed_bytes file)) begins
      ∙ ap (λ t. lines_text seal.front ++ t) (front_has o p file more has)
      ∙ sym text)

-- so it was before lines were written behind them
front_earlier : (w o v p : Output) (file : List ℕ) → IsUnsealed w → IsSealedFrom w o → IsLonger w v → IsLonger o p → FrontStands v p file → FrontStands w o file
front_earlier w o v p file none seal x y stands =
    let count : o.sealed_lines ≡ length seal.front = omega (arith, seal.count, none.1) in
    let bytes : o.sealed_bytes ≡ length (lines_text seal.front) = omega (arith, seal.bytes, none.0) in
    let splits : v.lines ≡ seal.front ++ (o.lines ++ x.more) = x.lines ∙ ap (λ ls. ls ++ x.more) seal.lines ∙ append_assoc seal.front o.lines x.more in
    front_stands w o file seal.front o.lines seal.lines count bytes
    (ap (λ n. take n file) (sym y.bytes) ∙ stands.begins ∙ ap lines_text (front_of v.lines seal.front (o.lines ++ x.more) p.sealed_lines splits (y.count ∙ count)))

-- and before more of them were sealed, which stand behind those that were
module _ (w o p : Output) (file : List ℕ) (none : IsUnsealed w) (seal : IsSealedFrom w o) (more : IsSealedFrom o p) (stands : FrontStands w p file) where
  less_bytes : o.sealed_bytes ≡ length (lines_text seal.front)
  less_bytes = omega (arith, seal.bytes, none.0)

  both_stand : StandsAt (lines_text seal.front ++ lines_text more.front) 0 file
  both_stand =
      let text : lines_text (seal.front ++ more.front) ≡ lines_text seal.front ++ lines_text more.front = flat_map-append (λ (line : List ℕ). line ++ 10 ∷ []) seal.front more.front in
      let splits : w.lines ≡ (seal.front ++ more.front) ++ p.lines = seal.lines ∙ ap (λ ls. seal.front ++ ls) more.lines ∙ sym (append_assoc seal.front more.front p.lines) in
      let count : p.sealed_lines ≡ length (seal.front ++ more.front) = omega (arith, more.count, seal.count, none.1, length-append seal.front more.front) in
      let is : lines_text (take p.sealed_lines w.lines) ≡ lines_text seal.front ++ lines_text more.front = ap lines_text (front_of w.lines (seal.front ++ more.front) p.lines p.sealed_lines splits count) ∙ text in
      ap (λ n. take n file) (sym (ap length is) ∙ stands.size) ∙ stands.begins ∙ is

  front_less : FrontStands w o file
  front_less =
      front_stands w o file seal.front o.lines seal.lines (omega (arith, seal.count, none.1)) less_bytes
      (ap (λ n. take n file) less_bytes ∙ stands_first (lines_text seal.front) (lines_text more.front) 0 file both_stand)

  has_less : HasSealed o p file
  has_less =
      let long : p.sealed_bytes - o.sealed_bytes ≡ length (lines_text more.front) = omega (arith, more.bytes) in
      let there : 0 + length (lines_text seal.front) ≡ o.sealed_bytes = omega (arith, less_bytes) in
      ap (λ n. take n (drop o.sealed_bytes file)) long
      ∙ subst (λ (n : ℕ). StandsAt (lines_text more.front) n file) there (stands_then (lines_text seal.front) (lines_text more.front) 0 file both_stand)
      ∙ sym (text_begins o.lines more.front p.lines (p.sealed_bytes - o.sealed_bytes) more.lines long)

-- ---- all outputs

-- where nothing is sealed there is no front
pub new_fronts : (k : ℕ) (ws os : List Output) (image : Image) → AllByRecursion IsUnsealed os → FrontsStand k ws os image
new_fronts k [] os image none = tt
new_fronts k (w ∷ ws) [] image none = tt
new_fronts k (w ∷ ws) (o ∷ os) image none =
    (front_stands w o (image (out_file k)) [] w.lines refl none.0.1 none.0.0 (ap (λ n. take n (image (out_file k))) none.0.0), new_fronts (suc k) ws os image none.1)

-- fronts stand while steps write behind them
pub fronts_later : (k : ℕ) (ws os vs ps : List Output) (image : Image) → AllByRecursion IsUnsealed ws → AreSealedFrom ws os → FrontsStand k ws os image → AreLonger ws vs → AreLonger os ps → FrontsStand k vs ps image
fronts_later k [] os vs ps image none seal stand x y = new_fronts k vs ps image (subst (λ (l : List Output). AreLonger l ps) seal y)
fronts_later k (w ∷ ws) [] vs ps image none bad stand x y = absurd bad
fronts_later k (w ∷ ws) (o ∷ os) [] ps image none seal stand bad y = absurd bad
fronts_later k (w ∷ ws) (o ∷ os) (v ∷ vs) [] image none seal stand x bad = absurd bad
fronts_later k (w ∷ ws) (o ∷ os) (v ∷ vs) (p ∷ ps) image none seal stand x y =
    (front_later w o (image (out_file k)) none.0 seal.0 stand.0 v p x.0 y.0, fronts_later (suc k) ws os vs ps image none.1 seal.1 stand.1 x.1 y.1)

-- and where more is sealed that stands in the files
pub fronts_sealed : (k : ℕ) (ws os ps : List Output) (image : Image) → AllByRecursion IsUnsealed ws → AreSealedFrom ws os → FrontsStand k ws os image → AreSealedFrom os ps → HaveSealed k os ps image → FrontsStand k ws ps image
fronts_sealed k [] os ps image none seal stand more has = tt
fronts_sealed k (w ∷ ws) [] ps image none bad stand more has = absurd bad
fronts_sealed k (w ∷ ws) (o ∷ os) [] image none seal stand bad has = absurd bad
fronts_sealed k (w ∷ ws) (o ∷ os) (p ∷ ps) image none seal stand more has =
    (front_sealed w o (image (out_file k)) none.0 seal.0 stand.0 p more.0 has.0, fronts_sealed (suc k) ws os ps image none.1 seal.1 stand.1 more.1 has.1)

-- fronts stood before steps wrote behind them
pub fronts_earlier : (k : ℕ) (ws os vs ps : List Output) (image : Image) → AllByRecursion IsUnsealed ws → AreSealedFrom ws os → AreLonger ws vs → AreLonger os ps → FrontsStand k vs ps image → FrontsStand k ws os image
fronts_earlier k [] os vs ps image none seal x y stand = tt
fronts_earlier k (w ∷ ws) [] vs ps image none seal x y stand = tt
fronts_earlier k (w ∷ ws) (o ∷ os) [] ps image none seal bad y stand = absurd bad
fronts_earlier k (w ∷ ws) (o ∷ os) (v ∷ vs) [] image none seal x bad stand = absurd bad
fronts_earlier k (w ∷ ws) (o ∷ os) (v ∷ vs) (p ∷ ps) image none seal x y stand =
    (front_earlier w o v p (image (out_file k)) none.0 seal.0 x.0 y.0 stand.0, fronts_earlier (suc k) ws os vs ps image none.1 seal.1 x.1 y.1 stand.1)

-- and before more was sealed, which stands in the files
pub fronts_less : (k : ℕ) (ws os ps : List Output) (image : Image) → AllByRecursion IsUnsealed ws → AreSealedFrom ws os → AreSealedFrom os ps → FrontsStand k ws ps image → FrontsStand k ws os image × HaveSealed k os ps image
fronts_less k [] os ps image none seal more stand = (tt, subst (λ (l : List Output). HaveSealed k l ps image) (sym seal) tt)
fronts_less k (w ∷ ws) [] ps image none bad more stand = absurd bad
fronts_less k (w ∷ ws) (o ∷ os) [] image none seal bad stand = absurd bad
fronts_less k (w ∷ ws) (o ∷ os) (p ∷ ps) image none seal more stand =
    let file = image (out_file k) in
    let later = fronts_less (suc k) ws os ps image none.1 seal.1 more.1 stand.1 in
    ((front_less w o p file none.0 seal.0 more.0 stand.0, later.0), (has_less w o p file none.0 seal.0 more.0 stand.0, later.1))
