-- URLs that are seen at once to be canonical: of a web page, at a host with a name in lower case.
use Rattle.std.specs.Prelude.{ℕ, Bool, true, false, ◌||◌, ◌==◌, List, [], ◌∷◌}
use Rattle.std.specs.Int.{is_in_range}

-- a lower-case letter, a digit, or one of `-._`
abbrev pub is_host_byte : ℕ → Bool
is_host_byte b = is_in_range 97 122 b || is_in_range 48 57 b || b == 45 || b == 46 || b == 95

abbrev pub begins_with_letter : List ℕ → Bool
begins_with_letter [] = false
begins_with_letter (b ∷ label) = is_in_range 97 122 b

-- a path, a query or a fragment begins here, or nothing follows
abbrev pub ends_host : List ℕ → Bool
ends_host [] = true
ends_host (b ∷ more) = b == 47 || b == 63 || b == 35
