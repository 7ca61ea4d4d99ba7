use Rattle.std.proofs.Common.{◌≡◌}
use Rattle.serde_json.specs.View.{members_view}
use Rattle.event_model.proofs.Written.{in_front}
use Rattle.runtime_text.specs.Runtime.{routes_in}
use Rattle.runtime_text.proofs.bot.routes_in.Given as goal

abbrev pub invariant-members : goal.invariant-members
invariant-members l = routes_in (members_view l.members.entries) ≡ in_front l.routes.items (routes_in (members_view l.path-iterator))
