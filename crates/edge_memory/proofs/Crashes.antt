-- The file that a crash leaves by choice is one that it may leave.
use Rattle.std.proofs.Common.{◌≡◌, ◌≤◌, ◌<◌, ◌+◌, ◌-◌, ◌&&◌, ◌||◌, ◌==◌, ◌⊎◌, ⊎_elim, inl, inr, ℕ, min, max, Bool, true, false, if◌then◌else◌, nat_le, nat_lt, List, [], ◌∷◌, length, take, replicate, get_or, refl, sym, ap, ◌∙◌, arith, MatchBool}
use Rattle.std.proofs.Math.ListN.{get_or-append}
use Rattle.std.proofs.lemmas.Bool.{leb-true, ltb-true, cases_lt}
use Rattle.std.proofs.lemmas.List.{length-take, get_or-take}
use Rattle.std.proofs.lemmas.Grind.{common_steps}
use Rattle.edge_traits.specs.Disk.{Torn, Cut}
use Rattle.edge_memory.specs.declared.choice.Choice.{Choice}
use Rattle.edge_memory.specs.declared.change.Change.{Change}
use Rattle.edge_memory.specs.declared.change.Change.TheVariants as did
use Rattle.edge_memory.specs.declared.change.Entry.{Entry}
use Rattle.edge_traits.proofs.Outcomes.{cut_itself}
use Rattle.edge_memory.specs.Torn.{cut_take}
use Rattle.edge_memory.specs.Entries.{content, left, left_by}
use Rattle.edge_memory.specs.Crashed.{lengthened, filled, enlarged, torn, shortened, crashed_by, crashed, image, pending_by, is_pending, durable_by, durable}
use Rattle.edge_memory.specs.Moments.{content_left}

length_lengthened : (end filler : ℕ) (old : List ℕ) → length (lengthened end filler old) ≡ max (length old) end
length_lengthened end filler old = grind (arith, common_steps)

pub length_filled : (at n filler : ℕ) (old : List ℕ) → length (filled at n filler old) ≡ length old
length_filled at n filler old = grind (arith, common_steps)

torn_lengthened : (at n filler : ℕ) (old : List ℕ) → Torn at n old (lengthened (at + n) filler old)
torn_lengthened at n filler old = record {
  before = grind (arith, common_steps);
  behind = grind (arith, common_steps);
  no_shorter = omega (arith, length_lengthened (at + n) filler old);
  no_longer = omega (arith, length_lengthened (at + n) filler old);
}

torn_filled : (at n filler : ℕ) (old : List ℕ) → Torn at n old (filled at n filler old)
torn_filled at n filler old = record {
  before = grind (arith, common_steps);
  behind = grind (arith, common_steps);
  no_shorter = omega (arith, length_filled at n filler old);
  no_longer = omega (arith, length_filled at n filler old);
}

take_take : (m n : ℕ) (l : List ℕ) → m ≤ n → take m (take n l) ≡ take m l
take_take m n l le = grind (arith, common_steps)

pub torn_again : (at n : ℕ) (a b c : List ℕ) → Torn at n a b → Torn at n b c → Torn at n a c
torn_again at n a b c first second = record {
  before =
      let inner : take (min at (length a)) (take (min at (length b)) c) ≡ take (min at (length a)) c = take_take (min at (length a)) (min at (length b)) c (omega (arith, first.no_shorter)) in
      let outer : take (min at (length a)) (take at b) ≡ take (min at (length a)) b = take_take (min at (length a)) at b (omega arith) in
      sym inner ∙ ap (take (min at (length a))) second.before ∙ outer ∙ first.before;
  behind = second.behind ∙ first.behind;
  no_shorter = omega (arith, first.no_shorter, second.no_shorter);
  no_longer = omega (arith, first.no_longer, second.no_longer);
}

torn_by_choice : (longest : Bool) (at n filler : ℕ) (old : List ℕ) → Torn at n old (filled at n filler (if longest then lengthened (at + n) filler old else old))
torn_by_choice true at n filler old = torn_again at n old (lengthened (at + n) filler old) _ (torn_lengthened at n filler old) (torn_filled at n filler (lengthened (at + n) filler old))
torn_by_choice false at n filler old = torn_filled at n filler old

cut_by_choice : (longest : Bool) (len : ℕ) (old : List ℕ) → Cut len old (if longest then old else take len old)
cut_by_choice true len old = cut_itself len old
cut_by_choice false len old = cut_take len old

left_step : (choice : Choice) (change : Change) (seen : List ℕ) (before : List ℕ → Type 0) (old : List ℕ) → before old → left_by change seen before (crashed_by choice change seen old)
left_step choice (did.Write at bytes) seen before old was = (old, was, torn_by_choice choice.longest at (length bytes.items) choice.filler old)
left_step choice (did.FailedWrite at len) seen before old was = (old, was, torn_by_choice choice.longest at len choice.filler old)
left_step choice (did.Cut len) seen before old was = (old, was, cut_by_choice choice.longest len old)
left_step choice (did.FailedCut len) seen before old was = (old, was, cut_by_choice choice.longest len old)
left_step choice did.Sync seen before old was = refl
left_step choice (did.Found bytes) seen before old was = refl

pub crashed_left : (choice : Choice) (file : ℕ) (entries : List Entry) → left file entries (crashed choice file entries)
crashed_left choice file [] = refl
crashed_left choice file (e ∷ earlier) = by_test (e.file == file) (crashed_left choice file earlier)
  where
    by_test : (here : Bool) → left file earlier (crashed choice file earlier) → MatchBool here (left_by e.change (content file earlier) (left file earlier) (if here then crashed_by choice e.change (content file earlier) (crashed choice file earlier) else crashed choice file earlier)) (left file earlier (if here then crashed_by choice e.change (content file earlier) (crashed choice file earlier) else crashed choice file earlier))
    by_test true was = left_step choice e.change (content file earlier) (left file earlier) (crashed choice file earlier) was
    by_test false was = was

-- lengths

length_cut : (len : ℕ) (d c : List ℕ) → Cut len d c → length c ≤ length d
length_cut len d c is = omega (arith, ap length is.front, length-take (length c) d)

length_torn_longest : (choice : Choice) (at n : ℕ) (old : List ℕ) → choice.longest ≡ true → length (torn choice at n old) ≡ max (length old) (at + n)
length_torn_longest choice at n old e =
    length_filled at n choice.filler (enlarged choice at n old)
    ∙ ap (λ b. length (if b then lengthened (at + n) choice.filler old else old)) e
    ∙ length_lengthened (at + n) choice.filler old

length_torn_shortest : (choice : Choice) (at n : ℕ) (old : List ℕ) → choice.longest ≡ false → length (torn choice at n old) ≡ length old
length_torn_shortest choice at n old e =
    length_filled at n choice.filler (enlarged choice at n old) ∙ ap (λ b. length (if b then lengthened (at + n) choice.filler old else old)) e

longest_torn : (choice : Choice) (at n : ℕ) (old d c : List ℕ) → choice.longest ≡ true → length d ≤ length old → Torn at n d c → length c ≤ length (torn choice at n old)
longest_torn choice at n old d c e le is = omega (arith, is.no_longer, length_torn_longest choice at n old e)

shortest_torn : (choice : Choice) (at n : ℕ) (old d c : List ℕ) → choice.longest ≡ false → length old ≤ length d → Torn at n d c → length (torn choice at n old) ≤ length c
shortest_torn choice at n old d c e le is = omega (arith, is.no_shorter, length_torn_shortest choice at n old e)

longest_cut : (choice : Choice) (len : ℕ) (old d c : List ℕ) → choice.longest ≡ true → length d ≤ length old → Cut len d c → length c ≤ length (shortened choice len old)
longest_cut choice len old d c e le is =
    omega (arith, length_cut len d c is, ap (λ b. length (if b then old else take len old)) e)

shortest_cut : (choice : Choice) (len : ℕ) (old d c : List ℕ) → choice.longest ≡ false → length old ≤ length d → Cut len d c → length (shortened choice len old) ≤ length c
shortest_cut choice len old d c e le is =
    omega (arith, is.no_shorter, ap (λ b. length (if b then old else take len old)) e, length-take len old)

longest_step : (choice : Choice) → choice.longest ≡ true → (change : Change) (seen : List ℕ) (before : List ℕ → Type 0) (old c : List ℕ) → ((d : List ℕ) → before d → length d ≤ length old) → left_by change seen before c → length c ≤ length (crashed_by choice change seen old)
longest_step choice e (did.Write at bytes) seen before old c below (d, was, is) = longest_torn choice at (length bytes.items) old d c e (below d was) is
longest_step choice e (did.FailedWrite at len) seen before old c below (d, was, is) = longest_torn choice at len old d c e (below d was) is
longest_step choice e (did.Cut len) seen before old c below (d, was, is) = longest_cut choice len old d c e (below d was) is
longest_step choice e (did.FailedCut len) seen before old c below (d, was, is) = longest_cut choice len old d c e (below d was) is
longest_step choice e did.Sync seen before old c below is = omega (arith, ap length is)
longest_step choice e (did.Found bytes) seen before old c below is = omega (arith, ap length is)

shortest_step : (choice : Choice) → choice.longest ≡ false → (change : Change) (seen : List ℕ) (before : List ℕ → Type 0) (old c : List ℕ) → ((d : List ℕ) → before d → length old ≤ length d) → left_by change seen before c → length (crashed_by choice change seen old) ≤ length c
shortest_step choice e (did.Write at bytes) seen before old c below (d, was, is) = shortest_torn choice at (length bytes.items) old d c e (below d was) is
shortest_step choice e (did.FailedWrite at len) seen before old c below (d, was, is) = shortest_torn choice at len old d c e (below d was) is
shortest_step choice e (did.Cut len) seen before old c below (d, was, is) = shortest_cut choice len old d c e (below d was) is
shortest_step choice e (did.FailedCut len) seen before old c below (d, was, is) = shortest_cut choice len old d c e (below d was) is
shortest_step choice e did.Sync seen before old c below is = omega (arith, ap length is)
shortest_step choice e (did.Found bytes) seen before old c below is = omega (arith, ap length is)

-- no file that the crash may leave is longer
pub crashed_longest : (choice : Choice) → choice.longest ≡ true → (file : ℕ) (entries : List Entry) (c : List ℕ) → left file entries c → length c ≤ length (crashed choice file entries)
crashed_longest choice e file [] c is = omega (arith, ap length is)
crashed_longest choice e file (entry ∷ earlier) c now = by_test (entry.file == file) now (crashed_longest choice e file earlier)
  where
    by_test : (here : Bool) → MatchBool here (left_by entry.change (content file earlier) (left file earlier) c) (left file earlier c) → ((d : List ℕ) → left file earlier d → length d ≤ length (crashed choice file earlier)) → length c ≤ length (if here then crashed_by choice entry.change (content file earlier) (crashed choice file earlier) else crashed choice file earlier)
    by_test true is below = longest_step choice e entry.change (content file earlier) (left file earlier) (crashed choice file earlier) c below is
    by_test false is below = below c is

-- and none is shorter
pub crashed_shortest : (choice : Choice) → choice.longest ≡ false → (file : ℕ) (entries : List Entry) (c : List ℕ) → left file entries c → length (crashed choice file entries) ≤ length c
crashed_shortest choice e file [] c is = omega (arith, ap length is)
crashed_shortest choice e file (entry ∷ earlier) c now = by_test (entry.file == file) now (crashed_shortest choice e file earlier)
  where
    by_test : (here : Bool) → MatchBool here (left_by entry.change (content file earlier) (left file earlier) c) (left file earlier c) → ((d : List ℕ) → left file earlier d → length (crashed choice file earlier) ≤ length d) → length (if here then crashed_by choice entry.change (content file earlier) (crashed choice file earlier) else crashed choice file earlier) ≤ length c
    by_test true is below = shortest_step choice e entry.change (content file earlier) (left file earlier) (crashed choice file earlier) c below is
    by_test false is below = below c is

-- fillers

-- each byte that passes is the filler
abbrev IsFilled : (ℕ → Bool) → ℕ → List ℕ → Type 0
IsFilled passes filler bytes = (k : ℕ) → k < length bytes → passes k ≡ true → get_or bytes k 0 ≡ filler

get_filled_in : (at n filler : ℕ) (b : List ℕ) (k : ℕ) → at ≤ k → k < at + n → k < length b → get_or (filled at n filler b) k 0 ≡ filler
get_filled_in at n filler b k from upto within = grind (arith, common_steps)

get_filled_before : (at n filler : ℕ) (b : List ℕ) (k : ℕ) → k < at → k < length b → get_or (filled at n filler b) k 0 ≡ get_or b k 0
get_filled_before at n filler b k before within = grind (arith, common_steps)

get_filled_behind : (at n filler : ℕ) (b : List ℕ) (k : ℕ) → at + n ≤ k → k < length b → get_or (filled at n filler b) k 0 ≡ get_or b k 0
get_filled_behind at n filler b k behind within = grind (arith, common_steps)

get_lengthened : (end filler : ℕ) (old : List ℕ) (k : ℕ) → length old ≤ k → k < end → get_or (lengthened end filler old) k 0 ≡ filler
get_lengthened end filler old k behind within = grind (arith, common_steps)

filled_lengthened : (passes : ℕ → Bool) (end filler : ℕ) (old : List ℕ) → IsFilled passes filler old → IsFilled passes filler (lengthened end filler old)
filled_lengthened passes end filler old was k within passed =
    ⊎_elim (λ inside. get_or-append old (replicate (end - length old) filler) 0 k inside ∙ was k inside passed) (λ outside. get_lengthened end filler old k outside (omega (arith, length_lengthened end filler old))) (cases_lt k (length old))

filled_enlarged : (longest : Bool) (passes : ℕ → Bool) (end filler : ℕ) (old : List ℕ) → IsFilled passes filler old → IsFilled passes filler (if longest then lengthened end filler old else old)
filled_enlarged true passes end filler old was = filled_lengthened passes end filler old was
filled_enlarged false passes end filler old was = was

-- outside the range the byte passed before
passed_before : (at n k : ℕ) (passed : Bool) → (k < at) ⊎ (at + n ≤ k) → ((nat_le at k && nat_lt k (at + n)) || passed) ≡ true → passed ≡ true
passed_before at n k passed outside both = by_test (nat_le at k) (nat_lt k (at + n)) refl refl both
  where
    by_test : (a b : Bool) → a ≡ nat_le at k → b ≡ nat_lt k (at + n) → ((a && b) || passed) ≡ true → passed ≡ true
    by_test true true e f either =
        let from : at ≤ k = leb-true at k (sym e) in
        let upto : k < at + n = ltb-true k (at + n) (sym f) in
        ⊎_elim (λ before. absurd (omega arith)) (λ behind. absurd (omega arith)) outside
    by_test true false e f either = either
    by_test false b e f either = either

filled_torn : (choice : Choice) (at n : ℕ) (passes : ℕ → Bool) (old : List ℕ) → IsFilled passes choice.filler old → IsFilled (λ k. (nat_le at k && nat_lt k (at + n)) || passes k) choice.filler (torn choice at n old)
filled_torn choice at n passes old was k within passed =
    ⊎_elim (λ before. get_filled_before at n choice.filler b k before inside ∙ base k inside (passed_before at n k (passes k) (inl before) passed)) (λ from. ⊎_elim (λ upto. get_filled_in at n choice.filler b k from upto inside) (λ behind. get_filled_behind at n choice.filler b k behind inside ∙ base k inside (passed_before at n k (passes k) (inr behind) passed)) (cases_lt k (at + n))) (cases_lt k at)
  where
    b : List ℕ
    b = enlarged choice at n old

    base : IsFilled passes choice.filler (enlarged choice at n old)
    base = filled_enlarged choice.longest passes (at + n) choice.filler old was

    inside : k < length (enlarged choice at n old)
    inside = omega (arith, length_filled at n choice.filler (enlarged choice at n old))

filled_shortened : (choice : Choice) (len : ℕ) (passes : ℕ → Bool) (old : List ℕ) → IsFilled passes choice.filler old → IsFilled passes choice.filler (shortened choice len old)
filled_shortened choice len passes old was = by_test choice.longest
  where
    by_test : (longest : Bool) → IsFilled passes choice.filler (if longest then old else take len old)
    by_test true = was
    by_test false = λ k within passed.
        let inside : k < min len (length old) = omega (arith, length-take len old) in
        get_or-take len old k 0 (omega arith) ∙ was k (omega arith) passed

filled_step : (choice : Choice) (change : Change) (seen : List ℕ) (before : ℕ → Bool) (old : List ℕ) → IsFilled before choice.filler old → IsFilled (λ k. pending_by change (before k) k) choice.filler (crashed_by choice change seen old)
filled_step choice (did.Write at bytes) seen before old was = filled_torn choice at (length bytes.items) before old was
filled_step choice (did.FailedWrite at len) seen before old was = filled_torn choice at len before old was
filled_step choice (did.Cut len) seen before old was = filled_shortened choice len before old was
filled_step choice (did.FailedCut len) seen before old was = filled_shortened choice len before old was
filled_step choice did.Sync seen before old was = λ k within passed. absurd (cc)
filled_step choice (did.Found bytes) seen before old was = λ k within passed. absurd (cc)

-- each pending byte is the filler
pub crashed_filled : (choice : Choice) (file : ℕ) (entries : List Entry) → IsFilled (is_pending file entries) choice.filler (crashed choice file entries)
crashed_filled choice file [] = λ k within passed. absurd (cc)
crashed_filled choice file (entry ∷ earlier) = by_test (entry.file == file) (crashed_filled choice file earlier)
  where
    by_test : (here : Bool) → IsFilled (is_pending file earlier) choice.filler (crashed choice file earlier) → IsFilled (λ k. if here then pending_by entry.change (is_pending file earlier k) k else is_pending file earlier k) choice.filler (if here then crashed_by choice entry.change (content file earlier) (crashed choice file earlier) else crashed choice file earlier)
    by_test true was = filled_step choice entry.change (content file earlier) (is_pending file earlier) (crashed choice file earlier) was
    by_test false was = was

-- the rest

-- each byte is the filler, or stood there in what was durable
abbrev IsRest : List ℕ → ℕ → List ℕ → Type 0
IsRest whole filler bytes = (k : ℕ) → k < length bytes → (get_or bytes k 0 ≡ filler) ⊎ ((k < length whole) × (get_or bytes k 0 ≡ get_or whole k 0))

-- so does each byte of which the same is known
rest_as : (whole : List ℕ) (filler b c k : ℕ) → b ≡ c → (c ≡ filler) ⊎ ((k < length whole) × (c ≡ get_or whole k 0)) → (b ≡ filler) ⊎ ((k < length whole) × (b ≡ get_or whole k 0))
rest_as whole filler b c k same (inl is) = inl (same ∙ is)
rest_as whole filler b c k same (inr is) = inr (is.0, same ∙ is.1)

rest_lengthened : (whole : List ℕ) (end filler : ℕ) (old : List ℕ) → IsRest whole filler old → IsRest whole filler (lengthened end filler old)
rest_lengthened whole end filler old was k within =
    ⊎_elim (λ inside. rest_as whole filler _ _ k (get_or-append old (replicate (end - length old) filler) 0 k inside) (was k inside)) (λ outside. inl (get_lengthened end filler old k outside (omega (arith, length_lengthened end filler old)))) (cases_lt k (length old))

rest_enlarged : (longest : Bool) (whole : List ℕ) (end filler : ℕ) (old : List ℕ) → IsRest whole filler old → IsRest whole filler (if longest then lengthened end filler old else old)
rest_enlarged true whole end filler old was = rest_lengthened whole end filler old was
rest_enlarged false whole end filler old was = was

rest_torn : (choice : Choice) (at n : ℕ) (whole old : List ℕ) → IsRest whole choice.filler old → IsRest whole choice.filler (torn choice at n old)
rest_torn choice at n whole old was k within =
    ⊎_elim (λ before. rest_as whole choice.filler _ _ k (get_filled_before at n choice.filler b k before inside) (base k inside)) (λ from. ⊎_elim (λ upto. inl (get_filled_in at n choice.filler b k from upto inside)) (λ behind. rest_as whole choice.filler _ _ k (get_filled_behind at n choice.filler b k behind inside) (base k inside)) (cases_lt k (at + n))) (cases_lt k at)
  where
    b : List ℕ
    b = enlarged choice at n old

    base : IsRest whole choice.filler (enlarged choice at n old)
    base = rest_enlarged choice.longest whole (at + n) choice.filler old was

    inside : k < length (enlarged choice at n old)
    inside = omega (arith, length_filled at n choice.filler (enlarged choice at n old))

rest_shortened : (choice : Choice) (len : ℕ) (whole old : List ℕ) → IsRest whole choice.filler old → IsRest whole choice.filler (shortened choice len old)
rest_shortened choice len whole old was = by_test choice.longest
  where
    by_test : (longest : Bool) → IsRest whole choice.filler (if longest then old else take len old)
    by_test true = was
    by_test false = λ k within.
        let inside : k < min len (length old) = omega (arith, length-take len old) in
        rest_as whole choice.filler _ _ k (get_or-take len old k 0 (omega arith)) (was k (omega arith))

rest_step : (choice : Choice) (change : Change) (seen whole old : List ℕ) → IsRest whole choice.filler old → IsRest (durable_by change seen whole) choice.filler (crashed_by choice change seen old)
rest_step choice (did.Write at bytes) seen whole old was = rest_torn choice at (length bytes.items) whole old was
rest_step choice (did.FailedWrite at len) seen whole old was = rest_torn choice at len whole old was
rest_step choice (did.Cut len) seen whole old was = rest_shortened choice len whole old was
rest_step choice (did.FailedCut len) seen whole old was = rest_shortened choice len whole old was
rest_step choice did.Sync seen whole old was = λ k within. inr (within, refl)
rest_step choice (did.Found bytes) seen whole old was = λ k within. inr (within, refl)

pub crashed_rest : (choice : Choice) (file : ℕ) (entries : List Entry) → IsRest (durable file entries) choice.filler (crashed choice file entries)
crashed_rest choice file [] = λ k within. absurd (omega (arith, within))
crashed_rest choice file (entry ∷ earlier) = by_test (entry.file == file) (crashed_rest choice file earlier)
  where
    by_test : (here : Bool) → IsRest (durable file earlier) choice.filler (crashed choice file earlier) → IsRest (if here then durable_by entry.change (content file earlier) (durable file earlier) else durable file earlier) choice.filler (if here then crashed_by choice entry.change (content file earlier) (crashed choice file earlier) else crashed choice file earlier)
    by_test true was = rest_step choice entry.change (content file earlier) (durable file earlier) (crashed choice file earlier) was
    by_test false was = was

-- the same of what the crash leaves by choice

pub image_left : (choice : Choice) (file : ℕ) (entries : List Entry) → left file entries (image choice file entries)
image_left choice file entries = by_test choice.keep
  where
    by_test : (keep : Bool) → left file entries (if keep then content file entries else crashed choice file entries)
    by_test true = content_left file entries
    by_test false = crashed_left choice file entries

pub image_kept : (choice : Choice) (file : ℕ) (entries : List Entry) → choice.keep ≡ true → image choice file entries ≡ content file entries
image_kept choice file entries e = ap (λ b. if b then content file entries else crashed choice file entries) e

pub image_crashed : (choice : Choice) (file : ℕ) (entries : List Entry) → choice.keep ≡ false → image choice file entries ≡ crashed choice file entries
image_crashed choice file entries e = ap (λ b. if b then content file entries else crashed choice file entries) e
