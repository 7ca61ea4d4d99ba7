use Rattle.std.proofs.Common.{◌≡◌, ◌<◌, ◌-◌, length, Some, None, option_map, ap, sym, ◌∙◌, arith}
use Rattle.json.specs.Json.{members, parse_map, read_key, value}
use Rattle.json.specs.Value.{value_view}
use Rattle.json.proofs.Grammar.{members_end, members_more, read_key-shorter}
use Rattle.json.proofs.Trees.{members_before, members_before-no_members, one_more_member}
use Rattle.event_json.proofs.Slices.{of_some}
use Rattle.event_json.proofs.members.members_ahead.Goals as goal

pub returns-in_default-next : goal.returns-in_default-next
returns-in_default-next c =
    let so_far = c.members.invariant in
    let found = c.members.found.items in
    let rest = c.next_key.new.self in
    let brace : read_key c.members.reader ≡ Some (None, rest) = c.in-Ok.ensures.value ∙ ap (λ name. Some (option_map (λ s. s.now) name, rest)) c.in_default-next.is in
    so_far.2 ∙ ap (parse_map (members_before found)) (members_end (value 125) so_far.0 c.members.reader rest so_far.1 brace) ∙ ap (λ ms. Some (ms, rest)) (members_before-no_members found)

pub members-preserved : goal.members-preserved
members-preserved c =
    let so_far = c.members.invariant in
    let turns = so_far.0 in
    let found = c.members.found.items in
    let name = c.in-Some.name in
    let v = c.in-Some-2.value in
    let behind_name = c.next_key.new.self in
    let behind = c.next_value.new.reader in
    let named : read_key c.members.reader ≡ Some (Some name.now, behind_name) = c.in-Ok.ensures.value ∙ ap (λ o. Some (option_map (λ s. s.now) o, behind_name)) c.in-Some.is in
    let read = of_some _ v (λ w. value 125 behind_name ≡ Some (value_view w, behind)) c.in-Some-2.is c.in_ok-value.ensures.value in
    let shorter = of_some _ v (λ w. length behind < length behind_name) c.in-Some-2.is c.in_ok-value.ensures.shorter in
    let passed = read_key-shorter c.members.reader (Some name.now) behind_name named in (
      turns - 1,
      omega (arith, so_far.1, shorter, passed),
      so_far.2
          ∙ ap (parse_map (members_before found)) (members_more (value 125) turns name.now c.members.reader behind_name behind (value_view v) (omega (arith, so_far.1, passed)) named read)
          ∙ one_more_member found (name, v) _
          ∙ ap (λ ms. parse_map (members_before ms) (members (value 125) (turns - 1) behind)) (sym c.in_ok-push.ensures.items),
    )
