use Rattle.std.proofs.Common.{◌≡◌, ◌++◌, take, flat_map}
use Rattle.base_types.specs.JsonText.{escaped}
use Rattle.base_types.proofs.json_text.push_content.Given as goal

abbrev pub invariant-bytes : goal.invariant-bytes
invariant-bytes l = l.out.items ≡ l.fn.out.items ++ flat_map escaped (take l.byte-index l.text)
