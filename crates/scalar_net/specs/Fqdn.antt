-- Fully qualified domain names.
use Rattle.std.specs.Prelude.{ℕ, ◌-◌, Bool, not, ◌&&◌, ◌||◌, ◌==◌, nat_le, List, length, take, slice_index, is_some, Option, option_and_then, if◌then◌else◌}
use Rattle.std.specs.List.{list_all, list_any, slice_split}
use Rattle.std.specs.Int.{is_in_range}
use Rattle.std.specs.Net.Reader.{read_ipv4, whole_value}
use Rattle.idna.specs.declared.deny_list.TheConstants.AsciiDenyList.{EMPTY}
use Rattle.idna.specs.Uts46.{domain_to_ascii, if_passes}

-- the text without one dot at its end
abbrev pub without_final_dot : List ℕ → List ℕ
without_final_dot text = if slice_index text (length text - 1) == 46 then take (length text - 1) text else text

-- a lower-case letter, a digit, a hyphen or an underscore
abbrev pub is_label_byte : ℕ → Bool
is_label_byte b = is_in_range 97 122 b || is_in_range 48 57 b || (b == 45) || (b == 95)

-- a hyphen is the first byte or the last
abbrev pub has_end_hyphen : List ℕ → Bool
has_end_hyphen label = (slice_index label 0 == 45) || (slice_index label (length label - 1) == 45)

-- a label: 1 to 63 such bytes, with no hyphen at an end (RFC 1035, 2.3.1, with digits and underscores anywhere)
abbrev pub is_label : List ℕ → Bool
is_label label =
    is_in_range 1 63 (length label) && list_all is_label_byte label && not (has_end_hyphen label)

-- the text writes an IPv4 address: four decimal numbers below 256 with dots between them and no needless zero
abbrev pub is_ipv4 : List ℕ → Bool
is_ipv4 text = is_some (whole_value (read_ipv4 text))

-- labels with dots between them, of which there is one at least, at most 253 bytes in all (RFC 1035, 2.3.4), and no IPv4
-- address
abbrev pub is_domain_name : List ℕ → Bool
is_domain_name name =
    nat_le (length name) 253 && list_any (λ b. b == 46) name && list_all is_label (slice_split (λ b. b == 46) name)
    && not (is_ipv4 name)

-- The canonical name of a text, if it has one: what UTS 46's ToASCII, with nothing denied, gives of the text without its
-- final dot, where that is a domain name.
unfoldable pub fqdn : List ℕ → Option (List ℕ)
fqdn text = option_and_then (if_passes is_domain_name) (domain_to_ascii EMPTY (without_final_dot text))
