use Rattle.std.proofs.Common.{IfOk, IsUtf8, true, ◌≡◌, subst, ◌∙◌}
use Rattle.std.proofs.lemmas.Str.{is_utf8-from_IsUtf8}
use Rattle.event_json.specs.Direct.{written, PutsPair, Written}
use Rattle.event_json.proofs.Pushed.{put_after, typed_after}
use Rattle.event_json.proofs.message_line.MessageLine.push.Goals as goal

pub invariant_of-self : goal.invariant_of-self
invariant_of-self c =
    typed_after c.push.result c.in_ok-name.name c.args.name.now c.args.value c.self.inside.fields c.push.new.self (c.in_ok-name.ensures ∙ c.as_str.ensures) c.requires
    (is_utf8-from_IsUtf8 c.args.name.now (subst IsUtf8 c.as_str.ensures c.as_str.utf8)) c.prove_utf8_value.ensures c.push.ensures.ok c.push.ensures.err c.self.invariant

pub returns : goal.returns
returns c =
    subst (λ (old : Written). IfOk c.push.result (λ is_above. is_above ≡ true → PutsPair (c.args.name.now, c.args.value) old (written c.self.inside.kind c.push.new.self))) c.self.view_is
    (put_after c.push.result c.in_ok-name.name c.args.name.now c.args.value c.self.inside.kind c.self.inside.fields c.push.new.self (c.in_ok-name.ensures ∙ c.as_str.ensures) c.requires
    (is_utf8-from_IsUtf8 c.args.name.now (subst IsUtf8 c.as_str.ensures c.as_str.utf8)) c.prove_utf8_value.ensures c.push.ensures.ok)
