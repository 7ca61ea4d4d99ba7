-- Values that are one word of a list.
use Rattle.std.specs.Prelude.{ℕ, List, [], ◌∷◌, ◌++◌, map, Option, Some, None, codes, option_map, if◌then◌else◌, Bool, ◌||◌}
use Rattle.std.specs.Str.{bytes_eq, str_eq_ignore_ascii_case}

-- the word that the text spells, in any case
abbrev pub spelled : List (List ℕ) → List ℕ → Option (List ℕ)
spelled [] text = None
spelled (word ∷ words) text = if str_eq_ignore_ascii_case word text then Some word else spelled words text

-- the marks of the Traffic Light Protocol, 2.0 and before
abbrev pub tlp_words : List (List ℕ)
tlp_words = codes "RED" ∷ codes "AMBER" ∷ codes "AMBER+STRICT" ∷ codes "GREEN" ∷ codes "CLEAR" ∷ codes "WHITE" ∷ []

abbrev pub tlp_of : List ℕ → Option (List ℕ)
tlp_of text = spelled tlp_words text

-- the regional Internet registries and their spellings
abbrev pub registry_words : List (List ℕ)
registry_words =
    codes "AFRINIC" ∷ codes "APNIC" ∷ codes "ARIN" ∷ codes "LACNIC" ∷ codes "RIPE" ∷ codes "RIPE-NCC" ∷ codes "RIPENCC" ∷ []

-- the name of a registry for a spelling of it
abbrev pub registry_name : List ℕ → List ℕ
registry_name word = if bytes_eq word (codes "RIPE-NCC") || bytes_eq word (codes "RIPENCC") then codes "RIPE" else word

abbrev pub registry_of : List ℕ → Option (List ℕ)
registry_of text = option_map registry_name (spelled registry_words text)

-- the spellings of flags
abbrev pub flag_words : List (List ℕ)
flag_words = codes "true" ∷ codes "yes" ∷ codes "1" ∷ codes "false" ∷ codes "no" ∷ codes "0" ∷ []

-- these types, each with the taxonomy
abbrev pub of_taxonomy : List ℕ → List (List ℕ) → List (List ℕ × List ℕ)
of_taxonomy taxonomy types = map (λ type. (type, taxonomy)) types

-- the table of types, each with its taxonomy (Reference Security Incident Taxonomy)
abbrev pub classes : List (List ℕ × List ℕ)
classes =
    of_taxonomy (codes "abusive-content") (codes "harmful-speech" ∷ codes "spam" ∷ codes "violence" ∷ []) ++
    of_taxonomy (codes "availability") (codes "ddos" ∷ codes "dos" ∷ codes "misconfiguration" ∷ codes "outage" ∷ codes "sabotage" ∷ []) ++
    of_taxonomy (codes "fraud") (codes "copyright" ∷ codes "masquerade" ∷ codes "phishing" ∷ codes "unauthorized-use-of-resources" ∷ []) ++
    of_taxonomy (codes "information-content-security") (codes "data-leak" ∷ codes "data-loss" ∷ codes "unauthorised-information-access" ∷ codes "unauthorised-information-modification" ∷ []) ++
    of_taxonomy (codes "information-gathering") (codes "scanner" ∷ codes "sniffing" ∷ codes "social-engineering" ∷ []) ++
    of_taxonomy (codes "intrusion-attempts") (codes "brute-force" ∷ codes "exploit" ∷ codes "ids-alert" ∷ []) ++
    of_taxonomy (codes "intrusions") (codes "application-compromise" ∷ codes "burglary" ∷ codes "privileged-account-compromise" ∷ codes "system-compromise" ∷ codes "unprivileged-account-compromise" ∷ []) ++
    of_taxonomy (codes "malicious-code") (codes "c2-server" ∷ codes "infected-system" ∷ codes "malware-configuration" ∷ codes "malware-distribution" ∷ []) ++
    of_taxonomy (codes "other") (codes "blacklist" ∷ codes "dga-domain" ∷ codes "malware" ∷ codes "other" ∷ codes "proxy" ∷ codes "tor" ∷ codes "undetermined" ∷ []) ++
    of_taxonomy (codes "test") (codes "test" ∷ []) ++
    of_taxonomy (codes "vulnerable") (codes "ddos-amplifier" ∷ codes "information-disclosure" ∷ codes "potentially-unwanted-accessible" ∷ codes "vulnerable-system" ∷ codes "weak-crypto" ∷ [])

-- the type that the text spells, in any case
abbrev pub class_in : List (List ℕ × List ℕ) → List ℕ → Option (List ℕ)
class_in [] text = None
class_in (row ∷ rows) text = if str_eq_ignore_ascii_case row.0 text then Some row.0 else class_in rows text

-- the word of a row, if it is the text as it stands
abbrev pub if_word : List ℕ → List ℕ × List ℕ → Option (List ℕ)
if_word text row = if bytes_eq row.0 text then Some row.0 else None

-- the taxonomy that the text spells, in any case
abbrev pub taxonomy_word_in : List (List ℕ × List ℕ) → List ℕ → Option (List ℕ)
taxonomy_word_in [] text = None
taxonomy_word_in (row ∷ rows) text = if str_eq_ignore_ascii_case row.1 text then Some row.1 else taxonomy_word_in rows text

-- the taxonomy in the row of that type
abbrev pub taxonomy_in : List (List ℕ × List ℕ) → List ℕ → Option (List ℕ)
taxonomy_in [] class = None
taxonomy_in (row ∷ rows) class = if bytes_eq row.0 class then Some row.1 else taxonomy_in rows class

-- the flag of a word
abbrev pub is_yes : List ℕ → Bool
is_yes word = bytes_eq word (codes "true") || bytes_eq word (codes "yes") || bytes_eq word (codes "1")

-- the flag that the text spells, in any case
abbrev pub flag_of : List ℕ → Option Bool
flag_of text = option_map is_yes (spelled flag_words text)
