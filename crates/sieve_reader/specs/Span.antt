-- Spans of time.
use Rattle.std.specs.Prelude.{ℕ, ◌*◌, ◌||◌, ◌&&◌, ◌==◌, not, nat_le, Bool, false, List, [], ◌∷◌, Option, Some, None, option_and_then, option_map, codes, if◌then◌else◌}
use Rattle.std.specs.List.{after_first, before_first}
use Rattle.std.specs.Str.{bytes_eq}
use Rattle.base_types.specs.Digits.{digits_in}

abbrev pub is_space : ℕ → Bool
is_space b = b == 32

-- the unit, or several
abbrev pub is_unit : List ℕ → List ℕ → List ℕ → Bool
is_unit one several word = bytes_eq word one || bytes_eq word several

-- the seconds of a unit of time
abbrev pub unit_in : List ℕ → Option ℕ
unit_in word =
    if is_unit (codes "minute") (codes "minutes") word then Some 60
    else if is_unit (codes "hour") (codes "hours") word then Some 3600
    else if is_unit (codes "day") (codes "days") word then Some 86400
    else if is_unit (codes "week") (codes "weeks") word then Some 604800
    else None

abbrev pub begins_with_zero : List ℕ → Bool
begins_with_zero [] = false
begins_with_zero (b ∷ bs) = b == 48

-- a number from 1 to 1000000 with no needless zero
abbrev pub count_in : List ℕ → Option ℕ
count_in digits =
    option_and_then (λ n. if not (begins_with_zero digits) && nat_le n 1000000 then Some n else None) (digits_in 7 digits)

-- the seconds that a text writes: such a number, one space and a unit
unfoldable pub span_in : List ℕ → Option ℕ
span_in text =
    option_and_then (λ n. option_map (λ seconds. n * seconds) (unit_in (after_first is_space text))) (count_in (before_first is_space text))
