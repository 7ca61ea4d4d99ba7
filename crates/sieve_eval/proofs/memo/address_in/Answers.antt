use Rattle.std.proofs.Common.{option_map, ◌∙◌, ap}
use Rattle.field_types.proofs.Written.{parts, read_address}
use Rattle.sieve_eval.proofs.memo.address_in.Goals as goal

pub returns : goal.returns
returns c = read_address c.args.text.now c.ok.result (ap (option_map parts) c.ok.ensures.value ∙ c.read_ip.ensures.value)
