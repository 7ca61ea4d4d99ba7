-- Outputs of which more lines are sealed, and what steps make of them.
use Rattle.std.proofs.Common.{◌≡◌, ◌+◌, ◌&&◌, ◌||◌, ℕ, Bool, true, false, not, cond, List, [], ◌∷◌, ◌++◌, length, map, filter, sum_by, refl, sym, ap, ap₂, subst, ◌∙◌, arith, append_assoc, length-append}
use Rattle.std.proofs.lemmas.Grind.{flat_map-append}
use Rattle.std.proofs.lemmas.List.Concat.{length-flat_map}
use Rattle.std.proofs.lemmas.List.Sums.{sum_by-append}
use Rattle.std.specs.List.{list_any}
use Rattle.base_types.specs.Lists.{changed}
use Rattle.step_code.specs.declared.output.Output.{Output}
use Rattle.step_code.specs.declared.rules.Facts.{Facts}
use Rattle.step_code.specs.After.{with_outs, written}
use Rattle.step_code.specs.Rules.{writes}
use Rattle.step_code.specs.Spent.{out_length}
use Rattle.step_code.specs.State.{is_out, new_out}
use Rattle.out_files.specs.Output.{lines_text}
use Rattle.store_image.specs.Stands.{AreSealedFrom, IsSealedFrom}

-- ---- a line more

abbrev longer : List ℕ → Output → Output
longer body o = record o { lines = o.lines ++ body ∷ [] }

sealed_longer : (body : List ℕ) (w o : Output) → IsSealedFrom w o → IsSealedFrom (longer body w) (longer body o)
sealed_longer body w o seal = record {
  bot = seal.bot;
  front = seal.front;
  lines = ap (λ ls. ls ++ body ∷ []) seal.lines ∙ append_assoc seal.front o.lines (body ∷ []);
  count = seal.count;
  bytes = seal.bytes;
}

sealed_here : (here : Bool) (body : List ℕ) (w o : Output) (ws os more_ws more_os : List Output) → IsSealedFrom w o → AreSealedFrom ws os → AreSealedFrom more_ws more_os
    → AreSealedFrom (cond here (longer body w ∷ ws) (w ∷ more_ws)) (cond here (longer body o ∷ os) (o ∷ more_os))
sealed_here true body w o ws os more_ws more_os one old new = (sealed_longer body w o one, old)
sealed_here false body w o ws os more_ws more_os one old new = (one, new)

same_out : (bot : List ℕ) (w o : Output) → IsSealedFrom w o → is_out bot w ≡ is_out bot o
same_out bot w o seal = ap (λ b. is_out bot (record o { bot = b })) (sym seal.bot)

sealed_changed : (bot body : List ℕ) (ws os : List Output) → AreSealedFrom ws os → AreSealedFrom (changed (is_out bot) (longer body) ws) (changed (is_out bot) (longer body) os)
sealed_changed bot body [] os none = ap (changed (is_out bot) (longer body)) none
sealed_changed bot body (w ∷ ws) [] bad = absurd bad
sealed_changed bot body (w ∷ ws) (o ∷ os) (one, more) =
    let later = sealed_changed bot body ws os more in
    subst (λ here. AreSealedFrom (changed (is_out bot) (longer body) (w ∷ ws)) (cond here (longer body o ∷ os) (o ∷ changed (is_out bot) (longer body) os))) (same_out bot w o one)
    (sealed_here (is_out bot w) body w o ws os (changed (is_out bot) (longer body) ws) (changed (is_out bot) (longer body) os) one more later)

pub sealed_written : (line : Bool) (bot body : List ℕ) (ws os : List Output) → AreSealedFrom ws os → AreSealedFrom (written line bot body ws) (written line bot body os)
sealed_written true bot body ws os seal = sealed_changed bot body ws os seal
sealed_written false bot body ws os seal = seal

-- ---- new outputs

pub sealed_self : (os : List Output) → AreSealedFrom os os
sealed_self [] = refl
sealed_self (o ∷ os) = (record { bot = refl; front = []; lines = refl; count = omega arith; bytes = omega arith }, sealed_self os)

sealed_append : (ws os new : List Output) → AreSealedFrom ws os → AreSealedFrom (ws ++ new) (os ++ new)
sealed_append [] os new none = subst (λ l. AreSealedFrom new (l ++ new)) (sym none) (sealed_self new)
sealed_append (w ∷ ws) [] new bad = absurd bad
sealed_append (w ∷ ws) (o ∷ os) new (one, more) = (one, sealed_append ws os new more)

same_any : (bot : List ℕ) (ws os : List Output) → AreSealedFrom ws os → list_any (is_out bot) ws ≡ list_any (is_out bot) os
same_any bot [] os none = ap (list_any (is_out bot)) (sym none)
same_any bot (w ∷ ws) [] bad = absurd bad
same_any bot (w ∷ ws) (o ∷ os) (one, more) = ap₂ (λ a b. a || b) (same_out bot w o one) (same_any bot ws os more)

-- the bots that have no output yet
abbrev lacking : List Output → Facts → Bool
lacking outs f = writes f && not (list_any (is_out f.bot) outs)

pub sealed_new : (bots : List Facts) (ws os : List Output) → AreSealedFrom ws os → AreSealedFrom (with_outs bots ws) (with_outs bots os)
sealed_new bots ws os seal =
    let same : lacking ws ≡ lacking os = λ i f. writes f && not (same_any f.bot ws os seal i) in
    subst (λ (test : Facts → Bool). AreSealedFrom (with_outs bots ws) (os ++ map new_out (filter test bots))) same (sealed_append ws os (map new_out (filter (lacking ws) bots)) seal)

-- ---- two sealings in a row are one

text_on : (a b : List (List ℕ)) → length (lines_text (a ++ b)) ≡ length (lines_text a) + length (lines_text b)
text_on a b = ap length (flat_map-append (λ (line : List ℕ). line ++ 10 ∷ []) a b) ∙ length-append (lines_text a) (lines_text b)

one_on : (a b c : Output) → IsSealedFrom a b → IsSealedFrom b c → IsSealedFrom a c
one_on a b c x y = record {
  bot = y.bot ∙ x.bot;
  front = x.front ++ y.front;
  lines = x.lines ∙ ap (λ ls. x.front ++ ls) y.lines ∙ sym (append_assoc x.front y.front c.lines);
  count = omega (arith, x.count, y.count, length-append x.front y.front);
  bytes = omega (arith, x.bytes, y.bytes, text_on x.front y.front);
}

pub sealed_on : (xs ys zs : List Output) → AreSealedFrom xs ys → AreSealedFrom ys zs → AreSealedFrom xs zs
sealed_on [] ys zs none more = subst (λ (os : List Output). AreSealedFrom os zs) none more
sealed_on (x ∷ xs) [] zs bad more = absurd bad
sealed_on (x ∷ xs) (y ∷ ys) [] one more = absurd more
sealed_on (x ∷ xs) (y ∷ ys) (z ∷ zs) one more = (one_on x y z one.0 more.0, sealed_on xs ys zs one.1 more.1)

-- ---- no length sees sealing

pub text_length : (lines : List (List ℕ)) → length (lines_text lines) ≡ sum_by (λ line. length line + 1) lines
text_length lines = length-flat_map (λ (line : List ℕ). line ++ 10 ∷ []) lines ∙ (λ i. sum_by (λ (line : List ℕ). length-append line (10 ∷ []) i) lines)

one_length : (w o : Output) → IsSealedFrom w o → out_length w ≡ out_length o
one_length w o x =
    omega (arith, x.bytes, text_length x.front, sum_by-append (λ (l : List ℕ). length l + 1) x.front o.lines, ap (sum_by (λ (l : List ℕ). length l + 1)) x.lines)

pub same_lengths : (ws os : List Output) → AreSealedFrom ws os → map out_length ws ≡ map out_length os
same_lengths [] os none = ap (map out_length) (sym none)
same_lengths (w ∷ ws) [] bad = absurd bad
same_lengths (w ∷ ws) (o ∷ os) (one, more) = ap₂ (λ n ns. n ∷ ns) (one_length w o one) (same_lengths ws os more)

pub as_many : (ws os : List Output) → AreSealedFrom ws os → length ws ≡ length os
as_many [] os none = ap length (sym none)
as_many (w ∷ ws) [] bad = absurd bad
as_many (w ∷ ws) (o ∷ os) (one, more) = omega (arith, as_many ws os more)
