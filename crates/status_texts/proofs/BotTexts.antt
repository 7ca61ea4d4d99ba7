-- The name of a bot is a text.
use Rattle.std.proofs.Common.{◌≡◌, ◌<◌, ◌≤◌, ⊎_elim, ◌==◌, ◌&&◌, ◌||◌, nat_le, ℕ, zero, suc, List, [], ◌∷◌, true, Result, Ok, Err, MatchResult, refl, arith}
use Rattle.std.specs.List.{list_all}
use Rattle.std.specs.Result.{IsOk}
use Rattle.std.specs.Str.{IsUtf8, IsAscii}
use Rattle.std.proofs.lemmas.Bool.{and_parts, or_cases, leb-true, eqb-true}
use Rattle.std.proofs.lemmas.Str.{IsUtf8-from_ascii}
use Rattle.base_types.specs.Name.{is_bot_name, is_name_byte}

in_range : (low high b : ℕ) → (nat_le low b && nat_le b high) ≡ true → b ≤ high
in_range low high b is = leb-true b high (and_parts (nat_le low b) (nat_le b high) is).1

small_byte : (b : ℕ) → is_name_byte b ≡ true → b < 128
small_byte b is =
    ⊎_elim
    (λ is5. ⊎_elim
    (λ is4. ⊎_elim
    (λ is3. ⊎_elim
    (λ is2. ⊎_elim
    (λ lower. omega (arith, in_range 97 122 b lower))
    (λ upper. omega (arith, in_range 65 90 b upper))
    (or_cases (nat_le 97 b && nat_le b 122) (nat_le 65 b && nat_le b 90) is2))
    (λ digit. omega (arith, in_range 48 57 b digit))
    (or_cases ((nat_le 97 b && nat_le b 122) || (nat_le 65 b && nat_le b 90)) (nat_le 48 b && nat_le b 57) is3))
    (λ minus. omega (arith, eqb-true b 45 minus))
    (or_cases (((nat_le 97 b && nat_le b 122) || (nat_le 65 b && nat_le b 90)) || (nat_le 48 b && nat_le b 57)) (b == 45) is4))
    (λ line. omega (arith, eqb-true b 95 line))
    (or_cases ((((nat_le 97 b && nat_le b 122) || (nat_le 65 b && nat_le b 90)) || (nat_le 48 b && nat_le b 57)) || (b == 45)) (b == 95) is5))
    (λ dot. omega (arith, eqb-true b 46 dot))
    (or_cases (((((nat_le 97 b && nat_le b 122) || (nat_le 65 b && nat_le b 90)) || (nat_le 48 b && nat_le b 57)) || (b == 45)) || (b == 95)) (b == 46) is)

all_ascii : (bytes : List ℕ) → list_all is_name_byte bytes ≡ true → IsAscii bytes
all_ascii [] is i = omega arith
all_ascii (b ∷ bs) is zero = small_byte b (and_parts (is_name_byte b) (list_all is_name_byte bs) is).0
all_ascii (b ∷ bs) is (suc i) = all_ascii bs (and_parts (is_name_byte b) (list_all is_name_byte bs) is).1 i

-- a name is ASCII, and so a text
pub name_is_text : (name : List ℕ) → is_bot_name name ≡ true → IsUtf8 name
name_is_text name is = IsUtf8-from_ascii name (all_ascii name (and_parts _ _ (and_parts _ _ is).0).1)

pub read_ok : {T E : Type 0} (r : Result T E) (P : T → Type 0) (Q : E → Type 0) → MatchResult r P Q → ((e : E) → Q e → ⊥) → IsOk r
read_ok (Ok x) P Q is never = refl
read_ok (Err e) P Q is never = absurd (never e is)
