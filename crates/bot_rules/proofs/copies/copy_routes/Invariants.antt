use Rattle.std.proofs.Common.{◌≡◌, take}
use Rattle.bot_rules.proofs.copies.copy_routes.Given as goal

abbrev pub invariant-routes : goal.invariant-routes
invariant-routes l = l.copied.items ≡ take l.route-index l.routes
