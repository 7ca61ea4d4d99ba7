-- Dumps stay in the order of their numbers.
use Rattle.std.proofs.Common.{◌≤◌, ◌<◌, ℕ, suc, ◌+◌, Bool, List, [], ◌∷◌, ◌++◌, length, arith}
use Rattle.std.specs.List.{AllByRecursion}
use Rattle.base_types.specs.declared.message.FaultNote.{FaultNote}
use Rattle.base_types.specs.declared.message.Moment.{Moment}
use Rattle.base_types.specs.declared.message.Msg.{Msg}
use Rattle.base_types.specs.Lists.{without}
use Rattle.base_types.proofs.Everywhere.{all-append, all_wider, all_without}
use Rattle.stored_types.specs.declared.message.Dump.{Dump}
use Rattle.step_code.specs.After.{numbered}
use Rattle.step_code.specs.Rules.{last_moment}
use Rattle.history_laws.proofs.Pairs.{Pairwise, pairs-append, pairs-without}
use Rattle.history_laws.proofs.SoundParts.{AreDumps}

abbrev rises : Dump → Dump → Type 0
rises a b = a.no < b.no

-- a number from this one on and below that one, and a moment that can be written
abbrev IsWithin : ℕ → ℕ → Dump → Type 0
IsWithin low high d = (low ≤ d.no) × (d.no < high) × (d.moment.0 ≤ last_moment)

module _ (bot : List ℕ) (now : Moment) (past : now.0 ≤ last_moment) where
  numbered_within : (next dump high : ℕ) (items : List (List ℕ × FaultNote)) → dump + length items ≤ high → AllByRecursion (IsWithin dump high) (numbered next dump bot now items)
  numbered_within next dump high [] fits = tt
  numbered_within next dump high (item ∷ items) fits =
      let lowest : dump ≤ dump = omega arith in
      let below : dump < high = omega (arith, fits) in
      let rest : suc dump + length items ≤ high = omega (arith, fits) in (
        (lowest, below, past),
        all_wider (IsWithin (suc dump) high) (IsWithin dump high) (numbered (suc next) (suc dump) bot now items)
            (λ d within. let low : dump ≤ d.no = omega (arith, within.0) in (low, within.1, within.2)) (numbered_within (suc next) (suc dump) high items rest),
      )

  numbered_rises : (next dump : ℕ) (items : List (List ℕ × FaultNote)) → Pairwise rises (numbered next dump bot now items)
  numbered_rises next dump [] = tt
  numbered_rises next dump (item ∷ items) =
      let rest : suc dump + length items ≤ suc dump + length items = omega arith in (
        all_wider (IsWithin (suc dump) (suc dump + length items)) (rises (record { no = dump; bot = bot; message = record { no = next; body = item.0 }; note = item.1; moment = now })) (numbered (suc next) (suc dump) bot now items)
            (λ d within. within.0) (numbered_within (suc next) (suc dump) (suc dump + length items) items rest),
        numbered_rises (suc next) (suc dump) items,
      )

module _ (next : ℕ) (dumps : List Dump) (sound : AreDumps next dumps) where
  added : (more : ℕ) (new : List Dump) → Pairwise rises new → AllByRecursion (IsWithin next (next + more)) new → AreDumps (next + more) (dumps ++ new)
  added more new rising within = record {
    some = omega (arith, sound.some);
    order = pairs-append rises dumps new sound.order rising
        (all_wider (IsWithin 1 next) (λ d. AllByRecursion (rises d) new) dumps (λ d old. all_wider (IsWithin next (next + more)) (rises d) new (λ other is. omega (arith, old.1, is.0)) within) sound.each);
    each = all-append (IsWithin 1 (next + more)) dumps new
        (all_wider (IsWithin 1 next) (IsWithin 1 (next + more)) dumps (λ d old. let below : d.no < next + more = omega (arith, old.1) in (old.0, below, old.2)) sound.each)
        (all_wider (IsWithin next (next + more)) (IsWithin 1 (next + more)) new (λ d is. let some : 1 ≤ d.no = omega (arith, is.0, sound.some) in (some, is.1, is.2)) within);
  }

  pub dumps_numbered : (first : ℕ) (bot : List ℕ) (now : Moment) (items : List (List ℕ × FaultNote)) → now.0 ≤ last_moment
      → AreDumps (next + length items) (dumps ++ numbered first next bot now items)
  dumps_numbered first bot now items past =
      let rest : next + length items ≤ next + length items = omega arith in
      added (length items) (numbered first next bot now items) (numbered_rises bot now past first next items) (numbered_within bot now past first next (next + length items) items rest)

  pub dumps_one : (bot : List ℕ) (message : Msg) (fault : FaultNote) (now : Moment) → now.0 ≤ last_moment
      → AreDumps (next + 1) (dumps ++ record { no = next; bot = bot; message = message; note = fault; moment = now } ∷ [])
  dumps_one bot message fault now past =
      let lowest : next ≤ next = omega arith in
      let below : next < next + 1 = omega arith in
      added 1 (record { no = next; bot = bot; message = message; note = fault; moment = now } ∷ []) (tt, tt) ((lowest, below, past), tt)

  pub dumps_without : (is : Dump → Bool) → AreDumps next (without is dumps)
  dumps_without is = record { some = sound.some; order = pairs-without rises is dumps sound.order; each = all_without (IsWithin 1 next) is dumps sound.each }
