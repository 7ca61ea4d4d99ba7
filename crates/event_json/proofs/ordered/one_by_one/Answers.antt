use Rattle.event_json.proofs.Placing.{one_more, still_sorted}
use Rattle.event_json.proofs.Slices.{first_of}
use Rattle.event_json.proofs.ordered.one_by_one.Goals as goal

pub members-preserved : goal.members-preserved
members-preserved c =
    let rest = c.members.rest.now in
    let m = c.member-item.result in
    let puts = c.in_ok-put.ensures c.if-not-branch.false in (
      still_sorted _ _ _ _ puts c.members.invariant.0,
      one_more c.args.members.now rest _ m _ _ _ (first_of rest m c.in-len1-up.len_at_least c.member-item.is) c.new.ensures puts c.members.invariant.1,
    )
