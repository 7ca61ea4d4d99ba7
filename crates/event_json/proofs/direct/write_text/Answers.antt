use Rattle.std.proofs.Common.{◌≡◌, [], Some, ap, sym, ◌∙◌}
use Rattle.json.specs.Json.{object, value}
use Rattle.json.specs.Lex.{tokens}
use Rattle.json.specs.Value.{members_view}
use Rattle.event_json.specs.Direct.{ended}
use Rattle.event_json.proofs.Reading.{all_read}
use Rattle.event_json.proofs.Slices.{of_some}
use Rattle.event_json.proofs.direct.write_text.Goals as goal

pub returns : goal.returns
returns c =
    let members = c.in-Some.members in
    let found = of_some _ members (λ ms. value 126 (tokens c.args.text.now) ≡ Some (object (members_view ms.items), [])) c.in-Some.is c.in_ok-members.ensures in
    let read = found ∙ ap (λ ms. Some (object (members_view ms), [])) (sym c.deref.ensures.value) in
    all_read c.args.text.now (ended c.write_members.new.line) (members_view c.deref.result.now) c.write_members.result read c.write_members.ensures
