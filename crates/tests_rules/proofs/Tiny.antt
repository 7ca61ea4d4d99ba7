-- What a bot of the tests gives, by its role.
use Rattle.std.proofs.Common.{◌≡◌, ℕ, List, Option, Some, None, option_map, ap}
use Rattle.step_code.specs.declared.rules.Facts.{Facts}
use Rattle.step_code.specs.declared.rules.Role.{Role}
use Rattle.tests_rules.specs.Tiny.{given_as, given_by}

pub given_of : (bot : Option Facts) (role : Role) (body : List ℕ) → option_map (λ f. f.role) bot ≡ Some role → given_by role body ≡ given_as bot body
given_of None role body is = absurd (cc)
given_of (Some f) role body is = ap (λ r. given_by r body) (cc is)
