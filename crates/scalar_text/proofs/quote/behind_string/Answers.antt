use Rattle.std.proofs.Common.{◌+◌, ◌-◌, length, take, drop, [], ap, arith, length-drop}
use Rattle.std.proofs.lemmas.List.{take_rest}
use Rattle.scalar_text.specs.Quote.{quote, quote_escape, quote_string}
use Rattle.scalar_text.proofs.Quoted.{keeps_then, behind_at, keeps_end, keeps_backslash, keeps_open}
use Rattle.scalar_text.proofs.quote.behind_string.Goals as goal

pub returns-then-rest-at-eq34-clause-kept : goal.returns-then-rest-at-eq34-clause-kept
returns-then-rest-at-eq34-clause-kept c =
    let rest = c.escapes.rest.now in let at = c.in-Some.at in
    keeps_then quote_string quote_string quote c.args.inside.now rest (take (length rest - (at + 1)) (drop (at + 1) rest)) c.escapes.invariant.0
    (behind_at quote_string quote rest rest (at + 1) (keeps_end rest at c.in-Some.ensures c.if-rest-at-eq34.true))

pub escapes-preserved : goal.escapes-preserved
escapes-preserved c =
    let rest = c.escapes.rest.now in let at = c.in-Some.at in
    let behind = take (length rest - (at + 1)) (drop (at + 1) rest) in let after = c.behind_escape-rest.result.now in
    let back = behind_at quote_string quote_escape rest rest (at + 1) (keeps_backslash rest at c.in-Some.ensures c.if-rest-at-eq34.false) in (
      keeps_then quote_string quote_string quote_string c.args.inside.now rest after c.escapes.invariant.0
          (keeps_then quote_string quote_escape quote_string rest behind after back c.behind_escape-rest.ensures.kept),
      omega (arith, c.behind_escape-rest.ensures.shorter, ap length (take_rest rest (at + 1)), length-drop (at + 1) rest, c.escapes.invariant.1),
    )

pub returns-clause-kept : goal.returns-clause-kept
returns-clause-kept c =
    let rest = c.escapes.rest.now in
    keeps_then quote_string quote_string quote c.args.inside.now rest [] c.escapes.invariant.0 (keeps_open rest c.in_default.ensures)
