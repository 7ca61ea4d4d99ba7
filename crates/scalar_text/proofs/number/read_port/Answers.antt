use Rattle.std.proofs.Common.{arith}
use Rattle.scalar_text.proofs.Ports.{port_in-none, port_in-past, port_in-some}
use Rattle.scalar_text.proofs.number.read_port.Goals as goal

pub returns-in_default-clause-value : goal.returns-in_default-clause-value
returns-in_default-clause-value c = port_in-none c.args.text.now c.in_default.ensures.value

pub returns-then-number-clause-value : goal.returns-then-number-clause-value
returns-then-number-clause-value c = port_in-past c.args.text.now c.in-Some.number c.in-Some.ensures.value (omega (arith, c.if-number.true))

pub returns-clause-value : goal.returns-clause-value
returns-clause-value c = port_in-some c.args.text.now c.in-Some.number (c.in-Some.ensures.value, omega (arith, c.if-number.false))
