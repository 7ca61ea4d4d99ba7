-- The parts of a step that is done with a message.
use Rattle.std.proofs.Common.{◌≡◌, ◌+◌, ℕ, Bool, List, ◌++◌, Option, length}
use Rattle.stored_types.specs.declared.message.Dump.{Dump}
use Rattle.base_types.specs.declared.message.FaultNote.{FaultNote}
use Rattle.base_types.specs.declared.message.Moment.{Moment}
use Rattle.step_code.specs.declared.base.Base.{Base}
use Rattle.step_code.specs.declared.rules.CacheRule.{CacheRule}
use Rattle.step_code.specs.After.{body_in_hand, cached, dumped, numbered, sent, written}
use Rattle.base_types.specs.Lists.{without}
use Rattle.stored_types.specs.Hand.{is_hand}
use Rattle.core_state.proofs.Numbered.{length-numbered}

abbrev pub sent_and_marked : List (List ℕ × List ℕ) → Option CacheRule → List ℕ → Moment → Option (List ℕ) → Base → Base
sent_and_marked sends rule bot now key b = record (sent sends b) { caches = cached rule bot now key b.caches }

abbrev pub put_aside : List Dump → Base → Base
put_aside dumps b = record b { dumps = b.dumps ++ dumps; next_message = b.next_message + length dumps; next_dump = b.next_dump + length dumps }

abbrev pub acknowledged : List ℕ → ℕ → Bool → Base → Base
acknowledged bot instance line b = record b { outs = written line bot (body_in_hand bot instance b) b.outs; hands = without (is_hand bot instance) b.hands }

-- one after the other they are the whole
pub whole : (bot : List ℕ) (instance : ℕ) (now : Moment) (rule : Option CacheRule) (sends : List (List ℕ × List ℕ)) (items : List (List ℕ × FaultNote)) (key : Option (List ℕ)) (line : Bool) (b : Base)
    → acknowledged bot instance line (put_aside (numbered (b.next_message + length sends) b.next_dump bot now items) (sent_and_marked sends rule bot now key b))
    ≡ dumped bot now items (sent sends (record b {
      caches = cached rule bot now key b.caches;
      outs = written line bot (body_in_hand bot instance b) b.outs;
      hands = without (is_hand bot instance) b.hands;
    }))
whole bot instance now rule sends items key line b =
    let count = length-numbered (b.next_message + length sends) b.next_dump bot now items in
    λ i. record (dumped bot now items (sent sends (record b {
      caches = cached rule bot now key b.caches;
      outs = written line bot (body_in_hand bot instance b) b.outs;
      hands = without (is_hand bot instance) b.hands;
    }))) { next_message = b.next_message + length sends + count i; next_dump = b.next_dump + count i }
