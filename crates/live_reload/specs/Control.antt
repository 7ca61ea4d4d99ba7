-- What a line of control asks for.
use Rattle.std.specs.Prelude.{ℕ, List, ◌&&◌, take, drop, codes, if◌then◌else◌}
use Rattle.std.specs.Str.{bytes_eq, is_utf8}
use Rattle.command_words.specs.Values.{is_name}
use Rattle.live_reload.specs.declared.control.Control.{Control}
use Rattle.live_reload.specs.declared.control.Control.TheVariants as control

-- a name is a text of 1 to 255 bytes in UTF-8
abbrev pub name_in : List ℕ → Control
name_in name = if is_name name && is_utf8 name then control.Reload name else control.Bad

-- what stands behind `reload` and a space is the name of a bundle
abbrev pub reload_in : List ℕ → Control
reload_in line = if bytes_eq (take 7 line) (codes "reload ") then name_in (drop 7 line) else control.Bad

-- a line without its newline is `round`, `stop`, `reload` with a name, or none of them
abbrev pub control_in : List ℕ → Control
control_in line =
    if bytes_eq line (codes "round") then control.Round
    else if bytes_eq line (codes "stop") then control.Stop
    else reload_in line
