use Rattle.std.proofs.Common.{◌+◌, ◌-◌, option_map, take, drop, length, refl}
use Rattle.store_audit.proofs.Generations.{first_and_rest, gone_wrong, leads_on}
use Rattle.store_audit.proofs.generation.go_through_bodies.Goals as goal

pub returns-in-Ok-go_through-clause-right : goal.returns-in-Ok-go_through-clause-right
returns-in-Ok-go_through-clause-right g c = λ files told has.
    let bodies = c.args.bodies.now in
    let records = take (length bodies - 1) (drop 1 bodies) in
    leads_on g.R.Rules.meaning files c.args.generation (option_map (λ core. core.now.state) c.args.before) bodies c.args.cut c.bytes-body.result.now records
    (first_and_rest bodies c.body-item.result c.bytes-body.result.now c.in-len1-up.len_at_least c.body-item.is c.bytes-body.ensures) c.in-Ok.core.state (c.in-Ok.ensures.begun files told) c.go_through.new.core.state has c.in-Ok-go_through.ensures.through

pub returns-in-Err-go_through-clause-wrong : goal.returns-in-Err-go_through-clause-wrong
returns-in-Err-go_through-clause-wrong g c = λ files told.
    let bodies = c.args.bodies.now in
    let records = take (length bodies - 1) (drop 1 bodies) in
    gone_wrong g.R.Rules.meaning files c.args.generation (option_map (λ core. core.now.state) c.args.before) bodies c.args.cut c.bytes-body.result.now records
    (first_and_rest bodies c.body-item.result c.bytes-body.result.now c.in-len1-up.len_at_least c.body-item.is c.bytes-body.ensures) c.in-Ok.core.state (c.in-Ok.ensures.begun files told) (25 + length c.bytes-body.result.now) refl c.in-Err-go_through.end
    c.in-Err-go_through.ensures.wrong
