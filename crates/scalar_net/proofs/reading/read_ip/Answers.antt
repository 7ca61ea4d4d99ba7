use Rattle.std.proofs.Common.{true, false, Some, sym, ap, ◌∙◌}
use Rattle.scalar_net.proofs.Addresses.{no_ip}
use Rattle.scalar_net.proofs.WholeTexts.{ip_in-ipv4, ip_in-ipv6, ip_in-none}
use Rattle.scalar_net.proofs.Texts.{four_text}
use Rattle.scalar_net.proofs.reading.read_ip.Goals as goal

pub returns-in-Ok-clause-value : goal.returns-in-Ok-clause-value
returns-in-Ok-clause-value c =
    ap (λ n. Some (false, n)) c.to_bits.ensures ∙ sym (ip_in-ipv4 c.args.text.now c.in-Ok.four c.in-Ok.ensures)

pub returns-in-Ok-parse_ascii-clause-value : goal.returns-in-Ok-parse_ascii-clause-value
returns-in-Ok-parse_ascii-clause-value c =
    ap (λ n. Some (true, n)) c.to_bits-in-Ok-parse_ascii.ensures ∙ sym (ip_in-ipv6 c.args.text.now c.in-Ok-parse_ascii.six c.in_default.ensures c.in-Ok-parse_ascii.ensures)

pub returns-in-Err-clause-writes : goal.returns-in-Err-clause-writes
returns-in-Err-clause-writes c = no_ip c.args.text.now c.in_default.ensures c.in-Err.ensures

pub returns-in-Err-clause-value : goal.returns-in-Err-clause-value
returns-in-Err-clause-value c = sym (ip_in-none c.args.text.now c.in_default.ensures c.in-Err.ensures)

pub returns-in-Ok-clause-four : goal.returns-in-Ok-clause-four
returns-in-Ok-clause-four c = λ _. four_text c.args.text.now c.in-Ok.four c.to_bits.result c.to_bits.ensures c.in-Ok.ensures
