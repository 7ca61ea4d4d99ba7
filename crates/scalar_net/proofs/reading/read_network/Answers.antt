use Rattle.std.proofs.Common.{sym, arith}
use Rattle.base_types.proofs.Numerals.{digits_in-some, digits_in-none}
use Rattle.scalar_net.proofs.Networks.{no_network_without_slash, no_network_without_address, no_network_without_length, no_network_past_width, is_network, network_in-none, network_in-no_address, network_in-no_length, network_in-past, network_in-of}
use Rattle.scalar_net.proofs.reading.read_network.Goals as goal

pub returns-in_default-clause-writes : goal.returns-in_default-clause-writes
returns-in_default-clause-writes c = no_network_without_slash c.args.text.now c.in_default.ensures

pub returns-in_default-read_ip-clause-writes : goal.returns-in_default-read_ip-clause-writes
returns-in_default-read_ip-clause-writes c =
    no_network_without_address c.args.text.now c.in-Some.address.now c.in-Some.digits.now c.in-Some.ensures c.in_default-read_ip.ensures.writes

pub returns-in_default-read_digits-clause-writes : goal.returns-in_default-read_digits-clause-writes
returns-in_default-read_digits-clause-writes c =
    no_network_without_length c.args.text.now c.in-Some.address.now c.in-Some.digits.now c.in-Some.ensures c.in_default-read_digits.ensures.value

pub returns-then-len-from-clause-writes : goal.returns-then-len-from-clause-writes
returns-then-len-from-clause-writes c =
    no_network_past_width c.args.text.now c.in-Some.address.now c.in-Some.digits.now c.in-Ok.ip c.in-Some-read_digits.len c.in-Some.ensures c.in-Ok.ensures.writes c.in-Some-read_digits.ensures.value (λ h. omega arith)

pub returns-clause-writes : goal.returns-clause-writes
returns-clause-writes c =
    is_network c.args.text.now c.in-Some.address.now c.in-Some.digits.now c.in-Ok.ip c.in-Some-read_digits.len c.network_of.result c.in-Some.ensures c.in-Ok.ensures.writes c.in-Some-read_digits.ensures.value (omega arith) c.network_of.ensures

pub returns-in_default-clause-value : goal.returns-in_default-clause-value
returns-in_default-clause-value c = sym (network_in-none c.args.text.now c.in_default.ensures)

pub returns-in_default-read_ip-clause-value : goal.returns-in_default-read_ip-clause-value
returns-in_default-read_ip-clause-value c =
    sym (network_in-no_address c.args.text.now c.in-Some.address.now c.in-Some.digits.now c.in-Some.ensures (sym c.in_default-read_ip.ensures.value))

pub returns-in_default-read_digits-clause-value : goal.returns-in_default-read_digits-clause-value
returns-in_default-read_digits-clause-value c =
    let none = digits_in-none 3 c.in-Some.digits.now c.in_default-read_digits.ensures.value in
    sym (network_in-no_length c.args.text.now c.in-Some.address.now c.in-Some.digits.now c.in-Ok.ip.six c.in-Ok.ip.bits c.in-Some.ensures (sym c.in-Ok.ensures.value) none)

pub returns-then-len-from-clause-value : goal.returns-then-len-from-clause-value
returns-then-len-from-clause-value c =
    let len = digits_in-some 3 c.in-Some.digits.now c.in-Some-read_digits.len c.in-Some-read_digits.ensures.value in
    sym (network_in-past c.args.text.now c.in-Some.address.now c.in-Some.digits.now c.in-Ok.ip.six c.in-Ok.ip.bits c.in-Some-read_digits.len c.in-Some.ensures (sym c.in-Ok.ensures.value) len (omega arith))

pub returns-clause-value : goal.returns-clause-value
returns-clause-value c =
    let len = digits_in-some 3 c.in-Some.digits.now c.in-Some-read_digits.len c.in-Some-read_digits.ensures.value in
    network_in-of c.args.text.now c.in-Some.address.now c.in-Some.digits.now c.in-Ok.ip c.in-Some-read_digits.len c.network_of.result c.in-Some.ensures (sym c.in-Ok.ensures.value) len (omega arith) c.network_of.ensures
