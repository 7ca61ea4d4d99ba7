use Rattle.std.proofs.Common.{ap, subst, ◌∙◌}
use Rattle.base_types.specs.Text.{IsTextFaultOf}
use Rattle.base_types.specs.declared.text.TextFault.{TextFault}
use Rattle.base_types.specs.declared.text.TextFault.TheVariants as text
use Rattle.live_reload.specs.declared.control.Control.TheVariants as control
use Rattle.live_reload.proofs.Names.{named, unnamed}
use Rattle.live_reload.proofs.control.read_name.Goals as goal

pub returns-in-Ok : goal.returns-in-Ok
returns-in-Ok c = ap control.Reload c.in-Ok.ensures.text ∙ named c.args.name.now (cc) c.in-Ok.ensures.utf8

pub returns-in-Err-Utf8 : goal.returns-in-Err-Utf8
returns-in-Err-Utf8 c =
    let none : IsTextFaultOf c.args.name.now (text.Utf8 c.in-Err-Utf8.field-0-0) = subst (λ (fault : TextFault). IsTextFaultOf c.args.name.now fault) c.in-Err-Utf8.field-0-is c.in-Err-Utf8.ensures.fault in
    unnamed c.args.name.now (cc) none.0
