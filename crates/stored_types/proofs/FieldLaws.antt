-- A field that is read is the field that was written, and what was written is read again.
use Rattle.std.proofs.Common.{◌≡◌, ℕ, zero, suc, ◌-◌, ◌^◌, ◌<◌, ◌≤◌, ◌&&◌, Bool, true, false, ltb, List, [], ◌∷◌, ◌++◌, length, take, drop, Option, Some, None, refl, sym, ap, subst, ◌∙◌, append_assoc, arith}
use Rattle.std.specs.Prelude.{IfSome, IsUtf8}
use Rattle.std.specs.Int.{Width, w16, w32, w64, byte_len, from_be_bytes, to_be_bytes}
use Rattle.std.specs.List.{flat_map, AllByRecursion}
use Rattle.std.specs.Str.{bytes_eq, is_utf8}
use Rattle.std.proofs.lemmas.Bool.{ltb-false, le-ltb, leb-true}
use Rattle.std.proofs.lemmas.List.{take_at, drop_at, take-append-drop, length-append, length-take}
use Rattle.std.proofs.lemmas.List.Concat.{flat_map-cons}
use Rattle.std.proofs.lemmas.Nat.{be_bytes_2, be_bytes_4, be_bytes_8, from_be_bytes-to_be_bytes_2, from_be_bytes-to_be_bytes_4, from_be_bytes-to_be_bytes_8}
use Rattle.std.proofs.lemmas.Slice.Eq.{bytes_eq-Decides}
use Rattle.std.proofs.lemmas.Str.{IsUtf8-from_is_utf8, is_utf8-from_IsUtf8}
use Rattle.base_types.specs.Name.{is_bot_name, queue_ending, IsQueueName}
use Rattle.stored_types.specs.Code.{byte, name, number, moment, blob, flag, list, optional, IsBot, IsBlob, IsByte, IsMoment, IsNumber, IsOptional, IsText, IsList, byte_at, moment_at, number_at, front_at, framed_at, bot_at, is_queue_name, queue_at, text_at, flag_at, optional_at, items_at, list_at}
use Rattle.stored_types.specs.Coded.{◌>>=◌, Reader}
use Rattle.base_types.specs.Lists.{AreBytes}
use Rattle.stored_types.proofs.Readers.{AreBytes-drop, AreBytes-take, AreBytes-rest, bind_some, guard_none, made_law, some_is, Law, Takes, Takes-then, tested_law}

-- ---- bytes and numbers

byte_takes : (bytes : List ℕ) (x : ℕ × List ℕ) → AreBytes bytes → byte_at bytes ≡ Some x → Takes bytes (x.0 ∷ []) x.1 × (x.0 < 256)
unfolding byte_at
byte_takes [] x fits e = absurd cc
byte_takes (b ∷ bytes) x fits e =
    subst (λ (y : ℕ × List ℕ). Takes (b ∷ bytes) (y.0 ∷ []) y.1 × (y.0 < 256)) (some_is (b, bytes) x e) (record { parts = refl; rest_fits = AreBytes-rest b bytes fits }, fits 0)

byte_again : (b : ℕ) (rest : List ℕ) → b < 256 → byte_at ((b ∷ []) ++ rest) ≡ Some (b, rest)
unfolding byte_at
byte_again b rest lt = refl

pub byte_law : Law byte_at byte IsByte
byte_law = record { takes = byte_takes; again = byte_again }

pub record IsWide (w : Width) (limit : ℕ) : Type 0 where
  pub len : (n : ℕ) → length (to_be_bytes w n) ≡ byte_len w
  pub back : (bytes : List ℕ) → length bytes ≡ byte_len w → AreBytes bytes → to_be_bytes w (from_be_bytes w bytes) ≡ bytes
  pub again : (n : ℕ) → n < limit → from_be_bytes w (to_be_bytes w n) ≡ n
  pub below : (bytes : List ℕ) → AreBytes bytes → from_be_bytes w bytes < limit

pub wide16 : IsWide w16 (2 ^ 16)
wide16 = record {
  len = λ n. refl;
  back = λ bytes len fits. be_bytes_2 bytes _ len fits refl;
  again = λ n lt. from_be_bytes-to_be_bytes_2 n lt;
  below = λ bytes fits. omega (arith, fits 0, fits 1);
}

pub wide32 : IsWide w32 (2 ^ 32)
wide32 = record {
  len = λ n. refl;
  back = λ bytes len fits. be_bytes_4 bytes _ len fits refl;
  again = λ n lt. from_be_bytes-to_be_bytes_4 n lt;
  below = λ bytes fits. omega (arith, fits 0, fits 1, fits 2, fits 3);
}

pub wide64 : IsWide w64 (2 ^ 64)
wide64 = record {
  len = λ n. refl;
  back = λ bytes len fits. be_bytes_8 bytes _ len fits refl;
  again = λ n lt. from_be_bytes-to_be_bytes_8 n lt;
  below = λ bytes fits. omega (arith, fits 0, fits 1, fits 2, fits 3, fits 4, fits 5, fits 6, fits 7);
}

number_takes : (w : Width) (limit : ℕ) (wide : IsWide w limit) (bytes : List ℕ) (x : ℕ × List ℕ) → AreBytes bytes → number_at w bytes ≡ Some x → Takes bytes (to_be_bytes w x.0) x.1 × (x.0 < limit)
unfolding number_at
number_takes w limit wide bytes x fits e =
    let g = guard_none (ltb (length bytes) (byte_len w)) (from_be_bytes w (take (byte_len w) bytes), drop (byte_len w) bytes) x e in
    let long : byte_len w ≤ length bytes = ltb-false _ _ g.0 in
    let few : AreBytes (take (byte_len w) bytes) = AreBytes-take (byte_len w) bytes fits in
    let front : to_be_bytes w (from_be_bytes w (take (byte_len w) bytes)) ≡ take (byte_len w) bytes = wide.back (take (byte_len w) bytes) (omega (arith, length-take (byte_len w) bytes)) few in
    let parts : bytes ≡ to_be_bytes w (from_be_bytes w (take (byte_len w) bytes)) ++ drop (byte_len w) bytes = rw front (sym (take-append-drop (byte_len w) bytes)) in
    subst (λ (y : ℕ × List ℕ). Takes bytes (to_be_bytes w y.0) y.1 × (y.0 < limit)) g.1 (record { parts = parts; rest_fits = AreBytes-drop (byte_len w) bytes fits }, wide.below (take (byte_len w) bytes) few)

number_again : (w : Width) (limit : ℕ) (wide : IsWide w limit) (n : ℕ) (rest : List ℕ) → n < limit → number_at w (to_be_bytes w n ++ rest) ≡ Some (n, rest)
unfolding number_at
number_again w limit wide n rest lt =
    let len = wide.len n in
    let long : ltb (length (to_be_bytes w n ++ rest)) (byte_len w) ≡ false = le-ltb _ _ (omega (arith, length-append (to_be_bytes w n) rest)) in
    rw (long, take_at (to_be_bytes w n) rest (byte_len w) len, drop_at (to_be_bytes w n) rest (byte_len w) len, wide.again n lt) refl

pub number_law : (w : Width) (limit : ℕ) → IsWide w limit → Law (number_at w) (to_be_bytes w) (λ n. n < limit)
number_law w limit wide = record { takes = number_takes w limit wide; again = number_again w limit wide }

pub u64_law : Law (number_at w64) number IsNumber
u64_law = number_law w64 (2 ^ 64) wide64

pub moment_law : Law moment_at moment IsMoment
unfolding moment_at
moment_law = made_law (λ n. record { 0 = n }) u64_law moment IsMoment (λ a. refl) (λ a fit. fit) (λ m fit. (m.0, refl, fit))

-- ---- bytes behind their length

front_takes : (n : ℕ) (bytes : List ℕ) (x : List ℕ × List ℕ) → AreBytes bytes → front_at n bytes ≡ Some x → Takes bytes x.0 x.1 × (length x.0 ≡ n)
unfolding front_at
front_takes n bytes x fits e =
    let g = guard_none (ltb (length bytes) n) (take n bytes, drop n bytes) x e in
    let long : n ≤ length bytes = ltb-false _ _ g.0 in
    subst (λ (y : List ℕ × List ℕ). Takes bytes y.0 y.1 × (length y.0 ≡ n)) g.1 (record { parts = sym (take-append-drop n bytes); rest_fits = AreBytes-drop n bytes fits }, omega (arith, length-take n bytes))

front_again : (text rest : List ℕ) → front_at (length text) (text ++ rest) ≡ Some (text, rest)
unfolding front_at
front_again text rest =
    let long : ltb (length (text ++ rest)) (length text) ≡ false = le-ltb _ _ (omega (arith, length-append text rest)) in
    rw (long, take_at text rest (length text) refl, drop_at text rest (length text) refl) refl

framed_takes : (w : Width) (limit : ℕ) (wide : IsWide w limit) (bytes : List ℕ) (x : List ℕ × List ℕ) → AreBytes bytes → framed_at w bytes ≡ Some x
    → Takes bytes (to_be_bytes w (length x.0) ++ x.0) x.1 × (length x.0 < limit)
unfolding framed_at
framed_takes w limit wide bytes x fits e =
    let b = bind_some (number_at w bytes) (λ n. front_at n.0 n.1) x e in
    let t = number_takes w limit wide bytes b.0 fits b.1 in
    let f = front_takes b.0.0 b.0.1 x t.0.rest_fits b.2 in
    let whole = Takes-then bytes (to_be_bytes w b.0.0) b.0.1 x.0 x.1 t.0 f.0 in
    (subst (λ (k : ℕ). Takes bytes (to_be_bytes w k ++ x.0) x.1) (sym f.1) whole, omega (arith, f.1, t.1))

framed_again : (w : Width) (limit : ℕ) (wide : IsWide w limit) (text rest : List ℕ) → length text < limit → framed_at w ((to_be_bytes w (length text) ++ text) ++ rest) ≡ Some (text, rest)
unfolding framed_at
framed_again w limit wide text rest lt =
    ap (framed_at w) (append_assoc (to_be_bytes w (length text)) text rest) ∙ rw (number_again w limit wide (length text) (text ++ rest) lt) (front_again text rest)

pub framed_law : (w : Width) (limit : ℕ) → IsWide w limit → Law (framed_at w) (λ text. to_be_bytes w (length text) ++ text) (λ text. length text < limit)
framed_law w limit wide = record { takes = framed_takes w limit wide; again = framed_again w limit wide }

pub blob_law : Law (framed_at w32) blob IsBlob
blob_law = framed_law w32 (2 ^ 32) wide32

-- ---- names and texts

no_test : (b : Bool) → (b ≡ true → ⊥) → b ≡ false
no_test true h = absurd (h refl)
no_test false h = refl

both_true : (x y : Bool) → (x && y) ≡ true → (x ≡ true) × (y ≡ true)
both_true true y e = (refl, e)
both_true false y e = absurd cc

pub queue_test : (bytes : List ℕ) → IsQueueName bytes → is_queue_name bytes ≡ true
unfolding is_queue_name
queue_test bytes (bot, is, e) =
    let n = length bytes - 6 in
    let len : length bot ≡ n = omega (arith, ap length e, length-append bot queue_ending) in
    let front : take n bytes ≡ bot = ap (take n) e ∙ take_at bot queue_ending n len in
    let end : drop n bytes ≡ queue_ending = ap (drop n) e ∙ drop_at bot queue_ending n len in
    ap (λ (t : List ℕ). bytes_eq t queue_ending && is_bot_name (take n bytes)) end ∙ ap is_bot_name front ∙ is

pub queue_from_test : (bytes : List ℕ) → is_queue_name bytes ≡ true → IsQueueName bytes
unfolding is_queue_name
queue_from_test bytes e =
    let n = length bytes - 6 in
    let b = both_true _ _ e in
    let end : drop n bytes ≡ queue_ending = (bytes_eq-Decides (drop n bytes) queue_ending).0 b.0 in
    (take n bytes, b.1, sym (take-append-drop n bytes) ∙ ap (λ (t : List ℕ). take n bytes ++ t) end)

pub queue_no_test : (bytes : List ℕ) → (IsQueueName bytes → ⊥) → is_queue_name bytes ≡ false
queue_no_test bytes bad = no_test (is_queue_name bytes) (λ e. bad (queue_from_test bytes e))

pub utf8_no_test : (bytes : List ℕ) → (IsUtf8 bytes → ⊥) → is_utf8 bytes ≡ false
utf8_no_test bytes bad = no_test (is_utf8 bytes) (λ e. bad (IsUtf8-from_is_utf8 bytes e))

-- a bot's name is short
short_bot : (bytes : List ℕ) → IsBot bytes → length bytes ≤ 64
short_bot bytes is = leb-true _ _ (both_true _ _ (both_true _ _ (both_true _ _ is).0).0).1

short_queue : (bytes : List ℕ) → IsQueueName bytes → length bytes < 2 ^ 16
short_queue bytes (bot, is, e) = omega (arith, ap length e, length-append bot queue_ending, short_bot bot is)

pub bot_law : Law bot_at name IsBot
unfolding bot_at
bot_law = tested_law is_bot_name (framed_law w16 (2 ^ 16) wide16) (λ n is. (omega (arith, short_bot n is), is)) (λ n short test. test)

pub queue_name_law : Law queue_at name IsQueueName
unfolding queue_at
queue_name_law = tested_law is_queue_name (framed_law w16 (2 ^ 16) wide16) (λ n is. (short_queue n is, queue_test n is)) (λ n short test. queue_from_test n test)

pub text_law : Law text_at blob IsText
unfolding text_at
text_law = tested_law is_utf8 blob_law (λ t p. (p.0, is_utf8-from_IsUtf8 t p.1)) (λ t short test. (short, IsUtf8-from_is_utf8 t test))

-- ---- flags

flag_takes : (bytes : List ℕ) (x : Bool × List ℕ) → AreBytes bytes → flag_at bytes ≡ Some x → Takes bytes (flag x.0) x.1 × Unit {0}
unfolding flag_at
flag_takes [] x fits e = absurd cc
flag_takes (zero ∷ bytes) x fits e =
    subst (λ (y : Bool × List ℕ). Takes (0 ∷ bytes) (flag y.0) y.1 × Unit {0}) (some_is (false, bytes) x e) (record { parts = refl; rest_fits = AreBytes-rest 0 bytes fits }, tt)
flag_takes (suc zero ∷ bytes) x fits e =
    subst (λ (y : Bool × List ℕ). Takes (1 ∷ bytes) (flag y.0) y.1 × Unit {0}) (some_is (true, bytes) x e) (record { parts = refl; rest_fits = AreBytes-rest 1 bytes fits }, tt)
flag_takes (suc (suc b) ∷ bytes) x fits e = absurd cc

flag_again : (b : Bool) (rest : List ℕ) → Unit {0} → flag_at (flag b ++ rest) ≡ Some (b, rest)
unfolding flag_at
flag_again false rest h = refl
flag_again true rest h = refl

pub flag_law : Law flag_at flag (λ _. Unit {0})
flag_law = record { takes = flag_takes; again = flag_again }

optional_takes : (bytes : List ℕ) (x : Option (List ℕ) × List ℕ) → AreBytes bytes → optional_at bytes ≡ Some x → Takes bytes (optional x.0) x.1 × IfSome x.0 IsBlob
unfolding optional_at
optional_takes [] x fits e = absurd cc
optional_takes (zero ∷ bytes) x fits e =
    subst (λ (y : Option (List ℕ) × List ℕ). Takes (0 ∷ bytes) (optional y.0) y.1 × IfSome y.0 IsBlob) (some_is (None, bytes) x e) (record { parts = refl; rest_fits = AreBytes-rest 0 bytes fits }, tt)
optional_takes (suc zero ∷ bytes) x fits e =
    let b = bind_some (framed_at w32 bytes) (λ b. Some (Some b.0, b.1)) x e in
    let t = blob_law.takes bytes b.0 (AreBytes-rest 1 bytes fits) b.1 in
    let made : Option (List ℕ) × List ℕ = (Some b.0.0, b.0.1) in
    subst (λ (y : Option (List ℕ) × List ℕ). Takes (1 ∷ bytes) (optional y.0) y.1 × IfSome y.0 IsBlob) (some_is made x b.2) (record { parts = ap (λ (w : List ℕ). 1 ∷ w) t.0.parts; rest_fits = t.0.rest_fits }, t.1)
optional_takes (suc (suc b) ∷ bytes) x fits e = absurd cc

optional_again : (o : Option (List ℕ)) (rest : List ℕ) → IfSome o IsBlob → optional_at (optional o ++ rest) ≡ Some (o, rest)
unfolding optional_at
optional_again None rest h = refl
optional_again (Some b) rest h = rw (blob_law.again b rest h) refl

pub optional_law : Law optional_at optional IsOptional
optional_law = record { takes = optional_takes; again = optional_again }

-- ---- lists

module _ {A : Type 0} {item : Reader A} {code : A → List ℕ} {fits : A → Type 0} (law : Law item code fits) where
  items_take : (n : ℕ) (bytes : List ℕ) (x : List A × List ℕ) → AreBytes bytes → items_at item n bytes ≡ Some x → Takes bytes (flat_map code x.0) x.1 × (length x.0 ≡ n) × AllByRecursion fits x.0
  unfolding items_at
  items_take zero bytes x whole e =
      let none : List A × List ℕ = ([], bytes) in
      subst (λ (y : List A × List ℕ). Takes bytes (flat_map code y.0) y.1 × (length y.0 ≡ 0) × AllByRecursion fits y.0) (some_is none x e) (record { parts = refl; rest_fits = whole }, refl, tt)
  items_take (suc n) bytes x whole e =
      let a = bind_some (item bytes) (λ first. items_at item n first.1 >>= λ others. Some (first.0 ∷ others.0, others.1)) x e in
      let b = bind_some (items_at item n a.0.1) (λ others. Some (a.0.0 ∷ others.0, others.1)) x a.2 in
      let first = law.takes bytes a.0 whole a.1 in
      let second = items_take n a.0.1 b.0 first.0.rest_fits b.1 in
      let joined = Takes-then bytes (code a.0.0) a.0.1 (flat_map code b.0.0) b.0.1 first.0 second.0 in
      let made : List A × List ℕ = (a.0.0 ∷ b.0.0, b.0.1) in
      subst (λ (y : List A × List ℕ). Takes bytes (flat_map code y.0) y.1 × (length y.0 ≡ suc n) × AllByRecursion fits y.0) (some_is made x b.2) (rw flat_map-cons joined, ap suc second.1, (first.1, second.2))

  items_again : (items : List A) (rest : List ℕ) → AllByRecursion fits items → items_at item (length items) (flat_map code items ++ rest) ≡ Some (items, rest)
  unfolding items_at
  items_again [] rest fit = refl
  items_again (a ∷ items) rest fit =
      let regrouped : flat_map code (a ∷ items) ++ rest ≡ code a ++ (flat_map code items ++ rest) = ap (λ (x : List ℕ). x ++ rest) (flat_map-cons code a items) ∙ append_assoc (code a) (flat_map code items) rest in
      ap (items_at item (suc (length items))) regrouped ∙ rw (law.again a (flat_map code items ++ rest) fit.0, items_again items rest fit.1) refl

  list_takes : (bytes : List ℕ) (x : List A × List ℕ) → AreBytes bytes → list_at item bytes ≡ Some x → Takes bytes (list code x.0) x.1 × IsList fits x.0
  unfolding list_at
  list_takes bytes x whole e =
      let b = bind_some (number_at w32 bytes) (λ n. items_at item n.0 n.1) x e in
      let t = (number_law w32 (2 ^ 32) wide32).takes bytes b.0 whole b.1 in
      let f = items_take b.0.0 b.0.1 x t.0.rest_fits b.2 in
      let joined = Takes-then bytes (to_be_bytes w32 b.0.0) b.0.1 (flat_map code x.0) x.1 t.0 f.0 in
      (subst (λ (k : ℕ). Takes bytes (to_be_bytes w32 k ++ flat_map code x.0) x.1) (sym f.1) joined, (omega (arith, f.1, t.1), f.2))

  list_again : (items : List A) (rest : List ℕ) → IsList fits items → list_at item (list code items ++ rest) ≡ Some (items, rest)
  unfolding list_at
  list_again items rest fit =
      ap (list_at item) (append_assoc (to_be_bytes w32 (length items)) (flat_map code items) rest) ∙ rw ((number_law w32 (2 ^ 32) wide32).again (length items) (flat_map code items ++ rest) fit.0) (items_again items rest fit.1)

  pub list_law : Law (list_at item) (list code) (IsList fits)
  list_law = record { takes = list_takes; again = list_again }
