-- Giving back, instance by instance and bot by bot.
use Rattle.std.proofs.Common.{◌≡◌, ◌-◌, ◌<◌, ℕ, zero, suc, Bool, true, false, cond, not, List, [], ◌∷◌, ◌++◌, map, filter, flat_map, refl, sym, ap, arith, if◌then◌else◌}
use Rattle.std.proofs.lemmas.List.{append-nil}
use Rattle.step_code.specs.declared.base.Base.{Base}
use Rattle.step_code.specs.declared.rules.Facts.{Facts}
use Rattle.step_code.specs.After.{all_given_back, falling, given_back, instances_of}
use Rattle.step_code.specs.Rules.{collects}
use Rattle.step_code.specs.State.{is_instance}

pub falling_more : (n : ℕ) → 0 < n → falling n ≡ n ∷ falling (n - 1)
falling_more zero more = absurd (omega (arith, more))
falling_more (suc n) more =
    let less : suc n - 1 ≡ n = omega arith in
    ap (λ k. suc n ∷ falling k) (sym less)

-- first these instances, then those
pub back-append : (bots : List Facts) (xs ys : List (List ℕ × ℕ)) (s : Base) → all_given_back bots (xs ++ ys) s ≡ all_given_back bots ys (all_given_back bots xs s)
back-append bots [] ys s = refl
back-append bots (x ∷ xs) ys s = back-append bots xs ys (if is_instance bots x.0 x.1 then s else given_back x.0 x.1 s)

-- the instances of one bot
abbrev instances_by : Facts → List (List ℕ × ℕ)
instances_by f = map (λ instance. (f.bot, instance)) (falling f.instances)

-- the instances of a bot go before those of the bots behind it
pub instances-first : (f : Facts) (fs : List Facts) → instances_of (f ∷ fs) ≡ instances_of (f ∷ []) ++ instances_of fs
instances-first f fs = go (not (collects f))
  where
    go : (takes : Bool) → flat_map instances_by (cond takes (f ∷ filter (λ f. not (collects f)) fs) (filter (λ f. not (collects f)) fs))
        ≡ flat_map instances_by (cond takes (f ∷ []) []) ++ flat_map instances_by (filter (λ f. not (collects f)) fs)
    go true = ap (λ l. l ++ flat_map instances_by (filter (λ f. not (collects f)) fs)) (sym (append-nil (instances_by f)))
    go false = refl
