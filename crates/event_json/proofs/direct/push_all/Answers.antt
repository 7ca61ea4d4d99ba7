use Rattle.std.proofs.Common.{◌≡◌, length, arith, sym, ap, ◌∙◌}
use Rattle.event_json.specs.Quoted.{quoted_view}
use Rattle.event_json.specs.Direct.{named_values}
use Rattle.event_json.proofs.Placing.{named-length}
use Rattle.event_json.proofs.Putting.{all_end, all_more}
use Rattle.event_json.proofs.Slices.{first_of}
use Rattle.event_json.proofs.direct.push_all.Goals as goal

pub members-preserved : goal.members-preserved
members-preserved c =
    let rest = c.members.rest.now in
    let m = c.member-item.result in
    all_more (named_values c.args.members.now) (named_values rest) _ (m.0, quoted_view m.1.now) _ _ _ (ap named_values (first_of rest m c.in-len1-up.len_at_least c.member-item.is))
    (c.in_ok-push_member.ensures c.if-not-branch.false) c.members.invariant

pub returns : goal.returns
returns c = λ taken.
    let none : length c.members.rest.now ≡ 0 = omega arith in
    all_end (named_values c.args.members.now) (named_values c.members.rest.now) c.args.line.now c.members.line (sym (named-length c.members.rest.now) ∙ none) c.members.invariant
