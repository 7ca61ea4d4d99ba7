-- Patterns: regular expressions in the syntax of the kit's regex.
use Rattle.std.specs.Prelude.{ℕ, List, Option, Some, None, nat_le, if◌then◌else◌, option_and_then, chars}
use Rattle.regex.specs.Patterns.{Re, default_config}
use Rattle.regex_syntax.specs.Grammar.{Names, read}
use Rattle.regex_syntax.specs.Brackets.{Nested}

-- nested at most 250 deep
abbrev pub within_depth : Nested Re × Names → Option Re
within_depth found = if nat_le found.0.depth 250 then Some found.0.value else None

-- the pattern that a text reads as, if it does
unfoldable pub pattern_of : List ℕ → Option Re
pattern_of text = option_and_then within_depth (read default_config (chars text))
