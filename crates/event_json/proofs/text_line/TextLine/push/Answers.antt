use Rattle.std.proofs.Common.{sym}
use Rattle.event_json.specs.Direct.{last_name}
use Rattle.event_json.proofs.Lines.{pair_put}
use Rattle.event_json.proofs.text_line.TextLine.push.Goals as goal

pub returns : goal.returns
returns c = λ taken.
    pair_put c.args.name.now c.self.inside.text.items (last_name c.self.inside.known c.self.inside.last.items) c.push_value.new.out.items c.args.value.now c.args.self.now c.enter.new.self
    (c.in_ok-enter.ensures.name c.if-not-branch.false) (sym c.self.view_is) c.in_ok-enter.ensures.utf8 c.in_ok-push_value.ensures.utf8 c.in_ok-push_value.ensures.text
