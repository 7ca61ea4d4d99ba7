-- Bytes that begin others: the bytes that stay in front while a code is written behind them.
use Rattle.std.proofs.Common.{◌≡◌, ℕ, List, ◌++◌, length, take, drop, refl, sym, ap, ◌∙◌, arith, ◌≤◌}
use Rattle.std.specs.Prelude.{Result, Ok, Err, OnOk, OnErr}
use Rattle.std.proofs.Math.Seq.{take-length, take-append_seam}
use Rattle.std.proofs.lemmas.List.{length-take, length-take-le, take-append-drop, take-append-le}
use Rattle.stored_types.specs.Coded.{Begins}

pub begins_itself : (xs : List ℕ) → Begins xs xs
unfolding Begins
begins_itself xs = take-length xs

pub begins_more : (xs ys : List ℕ) → Begins xs (xs ++ ys)
unfolding Begins
begins_more xs ys = take-append_seam xs ys

-- bytes were put behind, or nothing has changed
pub begins_appended : {A E : Type 0} (result : Result A E) (old new bytes : List ℕ) → OnOk result (new ≡ old ++ bytes) → OnErr result (new ≡ old) → Begins old new
begins_appended (Ok x) old new bytes ok err = rw ok (begins_more old bytes)
begins_appended (Err e) old new bytes ok err = rw err (begins_itself old)

-- what begins bytes begins all that they begin
pub begins_on : (xs ys zs : List ℕ) → Begins xs ys → Begins ys zs → Begins xs zs
unfolding Begins
begins_on xs ys zs first second =
    let le : length xs ≤ length ys = omega (arith, length-take (length xs) ys, ap length first) in
    let parts : ys ++ drop (length ys) zs ≡ zs = ap (λ (front : List ℕ). front ++ drop (length ys) zs) (sym second) ∙ take-append-drop (length ys) zs in
    ap (take (length xs)) (sym parts) ∙ take-append-le (length xs) ys (drop (length ys) zs) le ∙ first

pub ruleset begins = (begins_itself, begins_appended, begins_on)

-- so many bytes in front of those that begin with them
pub begins_front : (n : ℕ) (old new : List ℕ) → n ≤ length old → Begins (take n old) new → take n new ≡ take n old
unfolding Begins
begins_front n old new le begins = ap (λ k. take k new) (sym (length-take-le n old le)) ∙ begins

pub begins_long : (n : ℕ) (old new : List ℕ) → n ≤ length old → Begins (take n old) new → n ≤ length new
unfolding Begins
begins_long n old new le begins = omega (arith, length-take-le n old le, length-take n new, ap length (begins_front n old new le begins))
