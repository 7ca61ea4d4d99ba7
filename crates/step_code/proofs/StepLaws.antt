-- A step that is read is the step that was written, and what was written is read again.
use Rattle.std.proofs.Common.{◌≡◌, ◌≢◌, ℕ, ◌<◌, ◌≤◌, Bool, true, eqb, List, ◌++◌, Option, Some, None, refl, sym, ap, subst, ◌∙◌, append_assoc, arith}
use Rattle.std.proofs.lemmas.Option.{none-some}
use Rattle.std.proofs.lemmas.Bool.{eqb-true, eqb-false}
use Rattle.base_types.specs.declared.message.FaultNote.{FaultNote}
use Rattle.stored_types.specs.Code.{byte, moment, byte_at, moment_at, IsBlob, IsBot, IsByte, IsList, IsNumber, IsOptional}
use Rattle.stored_types.specs.Message.{IsNote}
use Rattle.base_types.specs.Name.{IsQueueName}
use Rattle.stored_types.specs.Coded.{◌>>=◌, Reader}
use Rattle.base_types.specs.Lists.{AreBytes}
use Rattle.stored_types.proofs.Readers.{bind_some, some_is, Takes, Takes-then, Law, both_law, made_law, choice_law}
use Rattle.stored_types.proofs.FieldLaws.{byte_law, u64_law, moment_law, blob_law, bot_law, queue_name_law, flag_law, optional_law, list_law}
use Rattle.stored_types.proofs.Laws.{note_law}
use Rattle.step_code.specs.declared.step.Step.{Step}
use Rattle.step_code.specs.declared.step.StepKind.{StepKind}
use Rattle.step_code.specs.declared.step.StepKind.TheVariants as kind
use Rattle.step_code.specs.Code.{send, bad_part, kind_byte, kind_fields, code_of_step, IsSend, IsBadPart, IsTried, IsWritableKind, IsWritable}
use Rattle.step_code.specs.Reading.{send_at, bad_part_at, collect_at, feed_end_at, take_at, done_at, retry_at, fail_at, reload_at, redo_at, round_at, kind_at, step_at}

pub send_law : Law send_at send IsSend
send_law = both_law queue_name_law blob_law

pub bad_part_law : Law bad_part_at bad_part IsBadPart
bad_part_law = both_law blob_law note_law

-- ---- kinds of steps

-- a kind with this byte that can be written
abbrev IsOf : ℕ → StepKind → Type 0
IsOf byte k = (kind_byte k ≡ byte) × IsWritableKind k

abbrev start_read : Reader StepKind
start_read bytes = Some (kind.Start, bytes)

start_takes : (bytes : List ℕ) (x : StepKind × List ℕ) → AreBytes bytes → start_read bytes ≡ Some x → Takes bytes (kind_fields x.0) x.1 × IsOf 1 x.0
start_takes bytes x whole e =
    subst (λ (y : StepKind × List ℕ). Takes bytes (kind_fields y.0) y.1 × IsOf 1 y.0) (some_is (kind.Start, bytes) x e) (record { parts = refl; rest_fits = whole }, (refl, tt))

start_again : (k : StepKind) (rest : List ℕ) → IsOf 1 k → start_read (kind_fields k ++ rest) ≡ Some (k, rest)
start_again kind.Start rest fit = refl
start_again k rest fit = absurd (omega (arith, fit.0))

start_law : Law start_read kind_fields (IsOf 1)
start_law = record { takes = start_takes; again = start_again }

collect_fields : (k : StepKind) → IsOf 2 k → (f : ((List ℕ × ℕ) × ℕ) × List ℕ) × (kind.Collect f.0.0.0 f.0.0.1 f.0.1 f.1 ≡ k) × (((IsBot f.0.0.0 × IsNumber f.0.0.1) × IsNumber f.0.1) × IsBlob f.1)
collect_fields (kind.Collect bot from upto piece) fit = ((((bot, from), upto), piece), refl, (((fit.1.0, fit.1.1), fit.1.2), fit.1.3))
collect_fields k fit = absurd (omega (arith, fit.0))

collect_law : Law collect_at kind_fields (IsOf 2)
unfolding collect_at
collect_law = made_law (λ (((bot, from), upto), piece). kind.Collect bot from upto piece) (both_law (both_law (both_law bot_law u64_law) u64_law) blob_law) kind_fields (IsOf 2) (λ a. refl)
    (λ a fit. (refl, (fit.0.0.0, fit.0.0.1, fit.0.1, fit.1))) collect_fields

feed_end_fields : (k : StepKind) → IsOf 3 k → (f : List ℕ × ℕ) × (kind.FeedEnd f.0 f.1 ≡ k) × (IsBot f.0 × IsNumber f.1)
feed_end_fields (kind.FeedEnd bot position) fit = ((bot, position), refl, fit.1)
feed_end_fields k fit = absurd (omega (arith, fit.0))

feed_end_law : Law feed_end_at kind_fields (IsOf 3)
unfolding feed_end_at
feed_end_law = made_law (λ (bot, position). kind.FeedEnd bot position) (both_law bot_law u64_law) kind_fields (IsOf 3) (λ a. refl) (λ a fit. (refl, fit)) feed_end_fields

take_fields : (k : StepKind) → IsOf 4 k → (f : (List ℕ × ℕ) × ℕ) × (kind.Take f.0.0 f.0.1 f.1 ≡ k) × ((IsBot f.0.0 × IsByte f.0.1) × IsNumber f.1)
take_fields (kind.Take bot instance message) fit = (((bot, instance), message), refl, ((fit.1.0, fit.1.1), fit.1.2))
take_fields k fit = absurd (omega (arith, fit.0))

take_law : Law take_at kind_fields (IsOf 4)
unfolding take_at
take_law = made_law (λ ((bot, instance), message). kind.Take bot instance message) (both_law (both_law bot_law byte_law) u64_law) kind_fields (IsOf 4) (λ a. refl) (λ a ((bot, instance), message). (refl, (bot, instance, message))) take_fields

-- the fields of a step of the fifth kind, as they are read
abbrev DoneFields : Type 0
DoneFields = (((((((List ℕ × ℕ) × ℕ) × ℕ) × List (List ℕ × List ℕ)) × List (List ℕ × FaultNote)) × Option (List ℕ)) × Bool)

abbrev done_of : DoneFields → StepKind
done_of = λ (((((((bot, instance), message), bundle), sends), dumps), key), line). kind.Done bot instance message bundle sends dumps key line

abbrev AreDone : DoneFields → Type 0
AreDone = λ (((((((bot, instance), message), bundle), sends), dumps), key), line).
    (((((((IsBot bot × IsByte instance) × IsNumber message) × IsNumber bundle) × IsList IsSend sends) × IsList IsBadPart dumps) × IsOptional key) × Unit {0})

done_fields : (k : StepKind) → IsOf 5 k → (f : DoneFields) × (done_of f ≡ k) × AreDone f
done_fields (kind.Done bot instance message bundle sends dumps key line) fit = (
  (((((((bot, instance), message), bundle), sends), dumps), key), line),
  refl,
  (((((((fit.1.bot_name, fit.1.instance_byte), fit.1.message_number), fit.1.bundle_number), fit.1.send_list), fit.1.dump_list), fit.1.key_blob), tt),
)
done_fields k fit = absurd (omega (arith, fit.0))

are_done : (f : DoneFields) → AreDone f → IsOf 5 (done_of f)
are_done f (((((((bot, instance), message), bundle), sends), dumps), key), line) =
    (refl, record { bot_name = bot; instance_byte = instance; message_number = message; bundle_number = bundle; send_list = sends; dump_list = dumps; key_blob = key })

done_law : Law done_at kind_fields (IsOf 5)
unfolding done_at
done_law = made_law done_of (both_law (both_law (both_law (both_law (both_law (both_law (both_law bot_law byte_law) u64_law) u64_law) (list_law send_law)) (list_law bad_part_law)) optional_law) flag_law)
    kind_fields (IsOf 5) (λ a. refl) are_done done_fields

-- what is read of a message that could not be processed
abbrev TriedFields : Type 0
TriedFields = (((List ℕ × ℕ) × ℕ) × ℕ) × FaultNote

abbrev AreTried : TriedFields → Type 0
AreTried = λ ((((bot, instance), message), bundle), fault). (((IsBot bot × IsByte instance) × IsNumber message) × IsNumber bundle) × IsNote fault

tried_parts : (bot : List ℕ) (instance message bundle : ℕ) (fault : FaultNote) → IsTried bot instance message bundle fault → AreTried ((((bot, instance), message), bundle), fault)
tried_parts bot instance message bundle fault fit = ((((fit.bot_name, fit.instance_byte), fit.message_number), fit.bundle_number), fit.fault_note)

is_tried : (f : TriedFields) → AreTried f → IsTried f.0.0.0.0 f.0.0.0.1 f.0.0.1 f.0.1 f.1
is_tried ((((bot, instance), message), bundle), fault) ((((a, b), c), d), e) = record { bot_name = a; instance_byte = b; message_number = c; bundle_number = d; fault_note = e }

abbrev retry_kind : TriedFields → StepKind
retry_kind = λ ((((bot, instance), message), bundle), fault). kind.Retry bot instance message bundle fault

retry_fields : (k : StepKind) → IsOf 6 k → (f : TriedFields) × (retry_kind f ≡ k) × AreTried f
retry_fields (kind.Retry bot instance message bundle fault) fit = (((((bot, instance), message), bundle), fault), refl, tried_parts bot instance message bundle fault fit.1)
retry_fields k fit = absurd (omega (arith, fit.0))

retry_law : Law retry_at kind_fields (IsOf 6)
unfolding retry_at
retry_law = made_law retry_kind (both_law (both_law (both_law (both_law bot_law byte_law) u64_law) u64_law) note_law) kind_fields (IsOf 6) (λ a. refl) (λ f fit. (refl, is_tried f fit)) retry_fields

abbrev FailFields : Type 0
FailFields = (TriedFields × List (List ℕ)) × Bool

abbrev fail_kind : FailFields → StepKind
fail_kind = λ ((((((bot, instance), message), bundle), fault), queues), halts). kind.Fail bot instance message bundle fault queues halts

abbrev AreFailed : FailFields → Type 0
AreFailed = λ ((tried, queues), halts). (AreTried tried × IsList IsQueueName queues) × Unit {0}

fail_fields : (k : StepKind) → IsOf 7 k → (f : FailFields) × (fail_kind f ≡ k) × AreFailed f
fail_fields (kind.Fail bot instance message bundle fault queues halts) fit =
    (((((((bot, instance), message), bundle), fault), queues), halts), refl, ((tried_parts bot instance message bundle fault fit.1.0, fit.1.1), tt))
fail_fields k fit = absurd (omega (arith, fit.0))

fail_law : Law fail_at kind_fields (IsOf 7)
unfolding fail_at
fail_law = made_law fail_kind (both_law (both_law (both_law (both_law (both_law (both_law bot_law byte_law) u64_law) u64_law) note_law) (list_law queue_name_law)) flag_law) kind_fields (IsOf 7)
    (λ a. refl) (λ f fit. (refl, (is_tried f.0.0 fit.0.0, fit.0.1))) fail_fields

reload_fields : (k : StepKind) → IsOf 8 k → (f : List ℕ) × (kind.Reload f ≡ k) × IsBlob f
reload_fields (kind.Reload bundle) fit = (bundle, refl, fit.1)
reload_fields k fit = absurd (omega (arith, fit.0))

reload_law : Law reload_at kind_fields (IsOf 8)
unfolding reload_at
reload_law = made_law (λ bundle. kind.Reload bundle) blob_law kind_fields (IsOf 8) (λ a. refl) (λ a fit. (refl, fit)) reload_fields

redo_fields : (k : StepKind) → IsOf 9 k → (f : ℕ) × (kind.Redo f ≡ k) × IsNumber f
redo_fields (kind.Redo dump) fit = (dump, refl, fit.1)
redo_fields k fit = absurd (omega (arith, fit.0))

redo_law : Law redo_at kind_fields (IsOf 9)
unfolding redo_at
redo_law = made_law (λ dump. kind.Redo dump) u64_law kind_fields (IsOf 9) (λ a. refl) (λ a fit. (refl, fit)) redo_fields

round_fields : (k : StepKind) → IsOf 10 k → (f : List ℕ) × (kind.Round f ≡ k) × IsBot f
round_fields (kind.Round bot) fit = (bot, refl, fit.1)
round_fields k fit = absurd (omega (arith, fit.0))

round_law : Law round_at kind_fields (IsOf 10)
unfolding round_at
round_law = made_law (λ bot. kind.Round bot) bot_law kind_fields (IsOf 10) (λ a. refl) (λ a fit. (refl, fit)) round_fields

-- no kind has another byte
kind_byte_low : (k : StepKind) → (1 ≤ kind_byte k) × (kind_byte k ≤ 10)
kind_byte_low kind.Start = (omega arith, omega arith)
kind_byte_low (kind.Collect bot from upto piece) = (omega arith, omega arith)
kind_byte_low (kind.FeedEnd bot position) = (omega arith, omega arith)
kind_byte_low (kind.Take bot instance message) = (omega arith, omega arith)
kind_byte_low (kind.Done bot instance message bundle sends dumps key line) = (omega arith, omega arith)
kind_byte_low (kind.Retry bot instance message bundle fault) = (omega arith, omega arith)
kind_byte_low (kind.Fail bot instance message bundle fault queues halts) = (omega arith, omega arith)
kind_byte_low (kind.Reload bundle) = (omega arith, omega arith)
kind_byte_low (kind.Redo dump) = (omega arith, omega arith)
kind_byte_low (kind.Round bot) = (omega arith, omega arith)

other_law : (byte : ℕ) → ((n : ℕ) → 1 ≤ n → n ≤ 10 → byte ≢ n) → Law (λ _. None) kind_fields (IsOf byte)
other_law byte other = record {
  takes = λ bytes x whole e. absurd (none-some x e);
  again = λ k rest fit. absurd (other (kind_byte k) (kind_byte_low k).0 (kind_byte_low k).1 (sym fit.0));
}

none_of : (byte : ℕ) → byte ≢ 1 → byte ≢ 2 → byte ≢ 3 → byte ≢ 4 → byte ≢ 5 → byte ≢ 6 → byte ≢ 7 → byte ≢ 8 → byte ≢ 9 → byte ≢ 10 → (n : ℕ) → 1 ≤ n → n ≤ 10 → byte ≢ n
none_of byte n1 n2 n3 n4 n5 n6 n7 n8 n9 n10 n low high e = omega (arith, n1, n2, n3, n4, n5, n6, n7, n8, n9, n10, e, low, high)

law_at : (byte n : ℕ) (read : Reader StepKind) → Law read kind_fields (IsOf n) → eqb byte n ≡ true → Law read kind_fields (IsOf byte)
law_at byte n read law e = subst (λ (b : ℕ). Law read kind_fields (IsOf b)) (sym (eqb-true byte n e)) law

kind_law : (byte : ℕ) → Law (kind_at byte) kind_fields (IsOf byte)
unfolding kind_at
kind_law byte =
    choice_law (eqb byte 1) (law_at byte 1 _ start_law) (λ n1.
    choice_law (eqb byte 2) (law_at byte 2 _ collect_law) (λ n2.
    choice_law (eqb byte 3) (law_at byte 3 _ feed_end_law) (λ n3.
    choice_law (eqb byte 4) (law_at byte 4 _ take_law) (λ n4.
    choice_law (eqb byte 5) (law_at byte 5 _ done_law) (λ n5.
    choice_law (eqb byte 6) (law_at byte 6 _ retry_law) (λ n6.
    choice_law (eqb byte 7) (law_at byte 7 _ fail_law) (λ n7.
    choice_law (eqb byte 8) (law_at byte 8 _ reload_law) (λ n8.
    choice_law (eqb byte 9) (law_at byte 9 _ redo_law) (λ n9.
    choice_law (eqb byte 10) (law_at byte 10 _ round_law) (λ n10.
    other_law byte
    (none_of byte (eqb-false _ _ n1) (eqb-false _ _ n2) (eqb-false _ _ n3) (eqb-false _ _ n4) (eqb-false _ _ n5) (eqb-false _ _ n6) (eqb-false _ _ n7) (eqb-false _ _ n8) (eqb-false _ _ n9)
    (eqb-false _ _ n10))))))))))))

-- ---- steps

step_takes : (bytes : List ℕ) (x : Step × List ℕ) → AreBytes bytes → step_at bytes ≡ Some x → Takes bytes (code_of_step x.0) x.1 × IsWritable x.0
unfolding step_at
step_takes bytes x whole e =
    let b = bind_some (byte_at bytes) (λ byte. moment_at byte.1 >>= λ moment. kind_at byte.0 moment.1 >>= λ what. Some (record { moment = moment.0; what = what.0 }, what.1)) x e in
    let m = bind_some (moment_at b.0.1) (λ moment. kind_at b.0.0 moment.1 >>= λ what. Some (record { moment = moment.0; what = what.0 }, what.1)) x b.2 in
    let k = bind_some (kind_at b.0.0 m.0.1) (λ what. Some (record { moment = m.0.0; what = what.0 }, what.1)) x m.2 in
    let s = byte_law.takes bytes b.0 whole b.1 in
    let t = moment_law.takes b.0.1 m.0 s.0.rest_fits m.1 in
    let u = (kind_law b.0.0).takes m.0.1 k.0 t.0.rest_fits k.1 in
    let head = Takes-then bytes (byte b.0.0) b.0.1 (moment m.0.0) m.0.1 s.0 t.0 in
    let joined = Takes-then bytes (byte b.0.0 ++ moment m.0.0) m.0.1 (kind_fields k.0.0) k.0.1 head u.0 in
    let coded = subst (λ (n : ℕ). Takes bytes (byte n ++ moment m.0.0 ++ kind_fields k.0.0) k.0.1) (sym u.1.0) joined in
    let made : Step × List ℕ = (record { moment = m.0.0; what = k.0.0 }, k.0.1) in
    subst (λ (y : Step × List ℕ). Takes bytes (code_of_step y.0) y.1 × IsWritable y.0) (some_is made x k.2) (coded, record { moment = t.1; what = u.1.1 })

step_again : (step : Step) (rest : List ℕ) → IsWritable step → step_at (code_of_step step ++ rest) ≡ Some (step, rest)
unfolding step_at
step_again step rest fit =
    let low : kind_byte step.what < 256 = omega (arith, kind_byte_low step.what) in
    let tail = kind_fields step.what ++ rest in
    ap step_at (append_assoc (byte (kind_byte step.what) ++ moment step.moment) (kind_fields step.what) rest ∙ append_assoc (byte (kind_byte step.what)) (moment step.moment) tail)
    ∙ rw (byte_law.again (kind_byte step.what) (moment step.moment ++ tail) low, moment_law.again step.moment tail fit.moment, (kind_law (kind_byte step.what)).again step.what rest (refl, fit.what)) refl

pub step_law : Law step_at code_of_step IsWritable
step_law = record { takes = step_takes; again = step_again }
