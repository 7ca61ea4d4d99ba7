use Rattle.scalar_net.proofs.Systems.{asn_in-none, asn_in-other, asn_in-some}
use Rattle.scalar_net.proofs.asn.read_asn.Goals as goal

pub returns-in_default-clause-value : goal.returns-in_default-clause-value
returns-in_default-clause-value c = asn_in-none c.args.text.now c.behind_as.result.now c.behind_as.ensures c.in_default.ensures.value

pub returns-then-not-is_asn-clause-value : goal.returns-then-not-is_asn-clause-value
returns-then-not-is_asn-clause-value c =
    asn_in-other c.args.text.now c.behind_as.result.now c.in-Some.number c.behind_as.ensures c.in-Some.ensures.value (cc)

pub returns-clause-value : goal.returns-clause-value
returns-clause-value c =
    asn_in-some c.args.text.now c.behind_as.result.now c.in-Some.number c.behind_as.ensures c.in-Some.ensures.value (cc)
