-- Dumps that get the next numbers.
use Rattle.std.proofs.Common.{◌≡◌, ℕ, suc, ◌+◌, List, [], ◌∷◌, ◌++◌, length, refl, ◌∙◌, ap, arith}
use Rattle.stored_types.specs.declared.message.Dump.{Dump}
use Rattle.base_types.specs.declared.message.FaultNote.{FaultNote}
use Rattle.base_types.specs.declared.message.Moment.{Moment}
use Rattle.step_code.specs.After.{numbered}

abbrev pub dump_of : ℕ → ℕ → List ℕ → Moment → List ℕ × FaultNote → Dump
dump_of next dump bot now item = record { no = dump; bot = bot; message = record { no = next; body = item.0 }; note = item.1; moment = now }

pub numbered-push : (next dump : ℕ) (bot : List ℕ) (now : Moment) (items : List (List ℕ × FaultNote)) (item : List ℕ × FaultNote)
    → numbered next dump bot now (items ++ item ∷ []) ≡ numbered next dump bot now items ++ dump_of (next + length items) (dump + length items) bot now item ∷ []
numbered-push next dump bot now [] item =
    let a : next ≡ next + 0 = omega arith in
    let b : dump ≡ dump + 0 = omega arith in
    λ i. dump_of (a i) (b i) bot now item ∷ []
numbered-push next dump bot now (x ∷ items) item =
    let a : suc next + length items ≡ next + suc (length items) = omega arith in
    let b : suc dump + length items ≡ dump + suc (length items) = omega arith in
    ap (λ l. dump_of next dump bot now x ∷ l) (numbered-push (suc next) (suc dump) bot now items item
    ∙ (λ i. numbered (suc next) (suc dump) bot now items ++ dump_of (a i) (b i) bot now item ∷ []))

pub length-numbered : (next dump : ℕ) (bot : List ℕ) (now : Moment) (items : List (List ℕ × FaultNote)) → length (numbered next dump bot now items) ≡ length items
length-numbered next dump bot now [] = refl
length-numbered next dump bot now (x ∷ items) = ap suc (length-numbered (suc next) (suc dump) bot now items)
