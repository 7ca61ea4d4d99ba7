use Rattle.std.proofs.Common.{◌+◌, ◌-◌, length, take, drop, arith, ap, length-drop}
use Rattle.std.proofs.lemmas.List.{take_rest}
use Rattle.event_text.specs.Decode.{string_end, escape_end}
use Rattle.event_text.proofs.Ends.{end_then, end_at, end_found, keeps_backslash, never_closed}
use Rattle.event_text.proofs.string.string_end.Goals as goal

pub returns-then-rest-at-eq34 : goal.returns-then-rest-at-eq34
returns-then-rest-at-eq34 c =
    end_found c.args.inside.now c.escapes.rest.now c.in-Some.at c.escapes.invariant.0 c.in-Some.ensures c.if-rest-at-eq34.true

pub escapes-preserved : goal.escapes-preserved
escapes-preserved c =
    let rest = c.escapes.rest.now in let at = c.in-Some.at in
    let behind = take (length rest - (at + 1)) (drop (at + 1) rest) in let after = c.behind_escape-rest.result.now in
    let back = end_at string_end escape_end rest rest (at + 1) (keeps_backslash rest at c.in-Some.ensures c.if-rest-at-eq34.false) in (
      end_then string_end string_end string_end c.args.inside.now rest after c.escapes.invariant.0
          (end_then string_end escape_end string_end rest behind after back c.behind_escape-rest.ensures.kept),
      omega (arith, c.behind_escape-rest.ensures.shorter, ap length (take_rest rest (at + 1)), length-drop (at + 1) rest, c.escapes.invariant.1),
    )

pub returns : goal.returns
returns c = never_closed c.args.inside.now c.escapes.rest.now c.escapes.invariant.0 c.in_default.ensures
