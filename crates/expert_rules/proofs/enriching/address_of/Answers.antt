use Rattle.std.proofs.Common.{Some, None, sym, ◌∙◌, ap}
use Rattle.expert_rules.specs.Enrich.{address_of}
use Rattle.field_types.specs.Written.{address_in}
use Rattle.field_types.proofs.Written.{read_address}
use Rattle.expert_rules.proofs.enriching.address_of.Goals as goal

pub returns-in-Ok : goal.returns-in-Ok
returns-in-Ok c = read_address c.bytes.result.now (Some c.in-Ok.ip) c.in-Ok.ensures.value ∙ ap address_in c.bytes.ensures ∙ sym (ap address_of c.in-Text.is)

pub returns-in-Err : goal.returns-in-Err
returns-in-Err c = read_address c.bytes.result.now None c.in-Err.ensures.value ∙ ap address_in c.bytes.ensures ∙ sym (ap address_of c.in-Text.is)
