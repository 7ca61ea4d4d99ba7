-- States that stay small, and journals that are no longer than their steps.
use Rattle.std.proofs.Common.{◌≡◌, ◌≤◌, ◌+◌, ◌-◌, ◌*◌, ◌^◌, ℕ, List, [], ◌∷◌, ◌++◌, length, map, flat_map, min, sum_by, None, ap, arith, length-append}
use Rattle.std.specs.List.{AllByRecursion}
use Rattle.std.proofs.lemmas.Bool.{ltb-false}
use Rattle.std.proofs.lemmas.List.Sums.{sum_by-cons}
use Rattle.base_types.specs.Number.{last_u64}
use Rattle.disk_journal.specs.GateFile.{open_record, open_records}
use Rattle.disk_journal.proofs.Resting.{length_open_record}
use Rattle.stored_types.specs.Code.{blob, list, name, number}
use Rattle.stored_types.specs.Hand.{hand}
use Rattle.stored_types.specs.Message.{dump}
use Rattle.stored_types.specs.Queue.{queue}
use Rattle.step_code.specs.declared.base.Base.{Base}
use Rattle.step_code.specs.declared.output.Output.{Output}
use Rattle.step_code.specs.declared.step.Step.{Step}
use Rattle.step_code.specs.After.{after}
use Rattle.step_code.specs.Code.{cache, code_of_base, code_of_step, feed, first_format, heads, output}
use Rattle.step_code.specs.History.{replay}
use Rattle.step_code.specs.Places.{standing}
use Rattle.step_code.specs.Rules.{Meaning}
use Rattle.step_code.specs.Sound.{last_number, numbers_of, IsSound}
use Rattle.step_code.specs.Spent.{is_past, last_given, numbers_brought, out_length, spent}
use Rattle.step_code.proofs.Lists.{all_fail}
use Rattle.store_image.specs.Opens.{AreReplayable}
use Rattle.store_image.specs.Stored.{codes_of, AreRecords}
use Rattle.journal_book.specs.Keeping.{longest_output, AreShort}
use Rattle.journal_book.proofs.Flushing.{long_record}
use Rattle.journal_book.proofs.OneMore.{short_outs}
use Rattle.std.proofs.lemmas.Grind.{flat_map-append}

-- the outputs are few, and none is too long
pub record IsSmall (s : Base) : Type 0 where
  pub short : AreShort s.outs
  pub few : length s.outs ≤ last_given + 1

small_after : (m : Meaning) (s : Base) (step : Step) → spent m s step ≡ None → IsSmall (after m s step)
small_after m s step small =
    let all = all_fail is_past (map (λ n. min n last_u64) (numbers_brought (after m s step))) small in
    record { short = short_outs m s step small; few = omega (arith, ltb-false last_given (min (length (after m s step).outs - 1) last_u64) all.1.1.1.1.0) }

pub small_behind : (m : Meaning) (s : Base) (steps : List Step) → IsSmall s → AreReplayable m s steps → IsSmall (replay m s steps)
small_behind m s [] small replays = small
small_behind m s (step ∷ steps) small replays = small_behind m (after m s step) steps (small_after m s step replays.0.1) replays.1

-- ---- a state that a store may hold

-- a line with its newline
abbrev line_length : List ℕ → ℕ
line_length line = length line + 1

lines_length : (lines : List (List ℕ)) → sum_by line_length lines ≤ length (flat_map blob lines)
lines_length [] = omega arith
lines_length (line ∷ lines) =
    omega (arith, sum_by-cons line_length line lines, length-append line (flat_map blob lines), lines_length lines)

output_length : (o : Output) → sum_by (λ line. length line + 1) o.lines + 1 ≤ length (output o)
output_length o =
    omega (
      arith,
      length-append (name o.bot ++ number o.sealed_bytes ++ number o.sealed_lines) (list blob o.lines),
      length-append (name o.bot ++ number o.sealed_bytes) (number o.sealed_lines),
      lines_length o.lines,
    )

all_behind : {A : Type 0} (P : A → Type 0) (xs ys : List A) → AllByRecursion P (xs ++ ys) → AllByRecursion P ys
all_behind P [] ys all = all
all_behind P (x ∷ xs) ys all = all_behind P xs ys all.1

all_before : {A : Type 0} (P : A → Type 0) (xs ys : List A) → AllByRecursion P (xs ++ ys) → AllByRecursion P xs
all_before P [] ys all = tt
all_before P (x ∷ xs) ys all = (all.0, all_before P xs ys all.1)

-- what is sealed of outputs, as numbers of their state
abbrev sealed_numbers : List Output → List ℕ
sealed_numbers outs = flat_map (λ o. o.sealed_bytes ∷ o.sealed_lines ∷ []) outs

short_of : (outs : List Output) → AllByRecursion (λ n. n ≤ last_number) (sealed_numbers outs) → length (flat_map output outs) ≤ 2 ^ 28 → AllByRecursion (λ o. out_length o ≤ longest_output) outs
short_of [] sealed short = tt
short_of (out ∷ outs) sealed short =
    (omega (arith, sealed.0, output_length out, short, length-append (output out) (flat_map output outs)), short_of outs sealed.1.1 (omega (arith, short, length-append (output out) (flat_map output outs))))

pub few_of : (outs : List Output) → length outs ≤ length (flat_map output outs)
few_of [] = omega arith
few_of (out ∷ outs) = omega (arith, length-append (output out) (flat_map output outs), output_length out, few_of outs)

outs_length : (b : Base) → length (flat_map output b.outs) ≤ length (code_of_base first_format b)
outs_length b =
    let front = heads b ++ list queue b.queues ++ list hand b.hands ++ list cache b.caches ++ list dump b.dumps in
    omega (
      arith,
      length-append (front ++ list output b.outs ++ list feed b.feeds) (list name b.halted),
      length-append (front ++ list output b.outs) (list feed b.feeds),
      length-append front (list output b.outs),
    )

sealed_within : (b : Base) → AllByRecursion (λ n. n ≤ last_number) (numbers_of b) → AllByRecursion (λ n. n ≤ last_number) (sealed_numbers b.outs)
sealed_within b all =
    let P : ℕ → Type 0 = λ n. n ≤ last_number in
    let front = b.steps ∷ b.next_message ∷ b.next_dump ∷ b.discarded ∷ b.latest.0 ∷ b.bundle_no ∷ standing b
    ++ map (λ h. h.since.0) b.hands
    ++ flat_map (λ c. map (λ mark. mark.moment.0) c.marks) b.caches
    ++ flat_map (λ d. d.no ∷ d.moment.0 ∷ []) b.dumps in
    all_behind P front (sealed_numbers b.outs) (all_before P (front ++ sealed_numbers b.outs) (flat_map (λ f. f.round ∷ f.position ∷ []) b.feeds) all)

pub small_first : (m : Meaning) (b : Base) → IsSound m b → IsSmall b
small_first m b sound = record {
  short = record { few = omega (arith, few_of b.outs, outs_length b, sound.short); each = short_of b.outs (sealed_within b sound.state.numbers) (omega (arith, outs_length b, sound.short)) };
  few = omega (arith, few_of b.outs, outs_length b, sound.short);
}

-- ---- journals

-- each record has a step, whose code is no shorter than what stands around it
pub records_length : (records : List (List ℕ)) (steps : List Step) → AreRecords records steps → length (open_records records) ≤ 2 * length (codes_of steps)
records_length [] steps none = omega arith
records_length (body ∷ records) steps (front, rest, splits, here, later) =
    omega (
      arith,
      ap (λ ss. length (codes_of ss)) splits,
      ap length (flat_map-append code_of_step front rest),
      length-append (codes_of front) (codes_of rest),
      ap length here.code,
      long_record front here.some,
      length-append (open_record body) (open_records records),
      length_open_record body,
      records_length records rest later,
    )
