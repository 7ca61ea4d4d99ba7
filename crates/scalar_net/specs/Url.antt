-- URLs as texts.
use Rattle.std.specs.Prelude.{ℕ, Bool, false, ◌&&◌, ◌||◌, nat_eq, List, ◌++◌, drop, codes, Option, Some, None, Result, Ok, Err, if◌then◌else◌}
use Rattle.std.specs.List.{starts_with}
use Rattle.std.specs.Str.{is_utf8}
use Rattle.url.specs.declared.error.ParseError.{ParseError}
use Rattle.url.specs.Parts.{Parts, has_host}
use Rattle.url.specs.Parser.{parse_url}

-- the text begins with `hxxp://` or `hxxps://`
abbrev pub is_defanged : List ℕ → Bool
is_defanged text =
    starts_with nat_eq text (codes "hxx")
    && (starts_with nat_eq (drop 3 text) (codes "p://") || starts_with nat_eq (drop 3 text) (codes "ps://"))

-- the text with `tt` for the `xx` of such a beginning
unfoldable pub refanged : List ℕ → List ℕ
refanged text = if is_defanged text then codes "htt" ++ drop 3 text else text

-- there is a URL, and it has a host that isn't empty
abbrev pub names_host : Result Parts ParseError → Bool
names_host (Ok url) = has_host url
names_host (Err e) = false

-- The canonical text of a URL, if the text is one: the text after that change, where the parser of the URL Standard reads
-- a URL with a host from it.
unfoldable pub url_text : List ℕ → Option (List ℕ)
url_text text = if is_utf8 text && names_host (parse_url None (refanged text)) then Some (refanged text) else None
