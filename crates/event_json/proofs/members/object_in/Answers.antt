use Rattle.std.proofs.Common.{◌≡◌, ◌∷◌, length, Some, ap, sym, ◌∙◌, arith}
use Rattle.json.specs.Json.{members, object, parse_map, value}
use Rattle.json.specs.Reads.{token_of}
use Rattle.json.specs.Value.{members_view}
use Rattle.json.proofs.Grammar.{value-begin_object}
use Rattle.event_json.proofs.Slices.{of_some}
use Rattle.event_json.proofs.members.object_in.Goals as goal

pub returns : goal.returns
returns c =
    let ts = c.next.new.self in
    let ms = c.in-Some.members in
    let behind = c.members_ahead.new.reader in
    let read = of_some _ ms (λ found. members (value 125) (length ts) ts ≡ Some (members_view found.items, behind)) c.in-Some.is c.in_ok-members.ensures in
    ap (value 126) (sym c.in-Ok.ensures.ok ∙ c.in-Some-BeginObject.ensures.value ∙ ap (λ t. token_of t ∷ ts) c.in-Some-BeginObject.field-0-is)
    ∙ value-begin_object 126 ts (omega arith)
    ∙ ap (parse_map object) (read ∙ ap (λ rest. Some (members_view ms.items, rest)) c.in-None.ensures.value.0)
