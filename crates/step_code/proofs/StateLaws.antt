-- A state that is read is the state that was written, and what was written is read again.
use Rattle.std.proofs.Common.{◌≡◌, ℕ, List, ◌++◌, refl, sym}
use Rattle.stored_types.specs.Code.{blob, moment, number, IsBlob, IsBot, IsList, IsMoment, IsNumber}
use Rattle.stored_types.specs.Hand.{IsHand}
use Rattle.stored_types.specs.Message.{IsDump}
use Rattle.stored_types.specs.Queue.{IsQueue}
use Rattle.stored_types.proofs.Readers.{Law, both_law, made_law}
use Rattle.stored_types.proofs.FieldLaws.{blob_law, bot_law, flag_law, list_law, moment_law, u64_law}
use Rattle.stored_types.proofs.Laws.{dump_law, hand_law, mark_law, waiting_law}
use Rattle.step_code.specs.declared.base.Base.{Base}
use Rattle.step_code.specs.declared.base.Heads.{Heads}
use Rattle.step_code.specs.Code.{cache, code_of_base, feed, first_format, output, IsCache, IsFeed, IsOutput, IsWritableBase}
use Rattle.step_code.specs.Reading.{base_at, base_of, BaseFields, cache_at, feed_at, heads_at, output_at}

cache_law : Law cache_at cache IsCache
unfolding cache_at
cache_law = made_law (λ (bot, marks). record { bot = bot; marks = marks }) (both_law bot_law (list_law mark_law)) cache IsCache (λ a. refl)
    (λ a fit. record { bot = fit.0; marks = fit.1 }) (λ c fit. ((c.bot, c.marks), refl, (fit.bot, fit.marks)))

output_law : Law output_at output IsOutput
unfolding output_at
output_law = made_law (λ (((bot, sealed_bytes), sealed_lines), lines). record { bot = bot; sealed_bytes = sealed_bytes; sealed_lines = sealed_lines; lines = lines })
    (both_law (both_law (both_law bot_law u64_law) u64_law) (list_law blob_law)) output IsOutput (λ a. refl)
    (λ a (((bot, sealed_bytes), sealed_lines), lines). record { bot = bot; sealed_bytes = sealed_bytes; sealed_lines = sealed_lines; lines = lines })
    (λ o fit. ((((o.bot, o.sealed_bytes), o.sealed_lines), o.lines), refl, (((fit.bot, fit.sealed_bytes), fit.sealed_lines), fit.lines)))

feed_law : Law feed_at feed IsFeed
unfolding feed_at
feed_law = made_law (λ (((bot, round), position), finished). record { bot = bot; round = round; position = position; finished = finished })
    (both_law (both_law (both_law bot_law u64_law) u64_law) flag_law) feed IsFeed (λ a. refl)
    (λ a (((bot, round), position), finished). record { bot = bot; round = round; position = position })
    (λ f fit. ((((f.bot, f.round), f.position), f.finished), refl, (((fit.bot, fit.round), fit.position), tt)))

-- what stands before the lists, and its code
abbrev heads : Heads → List ℕ
heads h = number h.steps ++ number h.next_message ++ number h.next_dump ++ moment h.latest ++ number h.bundle_no ++ blob h.bundle

record AreHeads (h : Heads) : Type 0 where
  steps : IsNumber h.steps
  next_message : IsNumber h.next_message
  next_dump : IsNumber h.next_dump
  latest : IsMoment h.latest
  bundle_no : IsNumber h.bundle_no
  bundle : IsBlob h.bundle

heads_law : Law heads_at heads AreHeads
unfolding heads_at
heads_law = made_law (λ (((((steps, next_message), next_dump), latest), bundle_no), bundle). record { steps = steps; next_message = next_message; next_dump = next_dump; latest = latest; bundle_no = bundle_no; bundle = bundle })
    (both_law (both_law (both_law (both_law (both_law u64_law u64_law) u64_law) moment_law) u64_law) blob_law) heads AreHeads (λ a. refl)
    (λ a (((((steps, next_message), next_dump), latest), bundle_no), bundle). record { steps = steps; next_message = next_message; next_dump = next_dump; latest = latest; bundle_no = bundle_no; bundle = bundle })
    (λ h fit. ((((((h.steps, h.next_message), h.next_dump), h.latest), h.bundle_no), h.bundle), refl, (((((fit.steps, fit.next_message), fit.next_dump), fit.latest), fit.bundle_no), fit.bundle)))

abbrev AreBase : BaseFields → Type 0
AreBase = λ (((((((head, queues), hands), caches), dumps), outs), feeds), halted).
    (((((((AreHeads head × IsList IsQueue queues) × IsList IsHand hands) × IsList IsCache caches) × IsList IsDump dumps) × IsList IsOutput outs) × IsList IsFeed feeds) × IsList IsBot halted)

fits_base : (f : BaseFields) → AreBase f → IsWritableBase first_format (base_of f)
fits_base f (((((((head, queues), hands), caches), dumps), outs), feeds), halted) = record {
  steps = head.steps;
  next_message = head.next_message;
  next_dump = head.next_dump;
  discarded = refl;
  latest = head.latest;
  bundle_no = head.bundle_no;
  bundle = head.bundle;
  queues = queues;
  hands = hands;
  caches = caches;
  dumps = dumps;
  outs = outs;
  feeds = feeds;
  halted = halted;
}

fields_of_base : (b : Base) → IsWritableBase first_format b → (f : BaseFields) × (base_of f ≡ b) × AreBase f
fields_of_base b fit =
    let head : Heads = record { steps = b.steps; next_message = b.next_message; next_dump = b.next_dump; latest = b.latest; bundle_no = b.bundle_no; bundle = b.bundle } in
    let fits : AreHeads head = record { steps = fit.steps; next_message = fit.next_message; next_dump = fit.next_dump; latest = fit.latest; bundle_no = fit.bundle_no; bundle = fit.bundle } in (
      (((((((head, b.queues), b.hands), b.caches), b.dumps), b.outs), b.feeds), b.halted),
      (λ i. record b { discarded = sym fit.discarded i }),
      (((((((fits, fit.queues), fit.hands), fit.caches), fit.dumps), fit.outs), fit.feeds), fit.halted),
    )

pub base_law : Law base_at (code_of_base first_format) (IsWritableBase first_format)
unfolding base_at
base_law = made_law base_of (both_law (both_law (both_law (both_law (both_law (both_law (both_law heads_law (list_law waiting_law)) (list_law hand_law)) (list_law cache_law)) (list_law dump_law)) (list_law output_law)) (list_law feed_law)) (list_law bot_law))
    (code_of_base first_format) (IsWritableBase first_format) (λ a. refl) fits_base fields_of_base
