use Rattle.std.proofs.Common.{rules, nat_cmp, is_lt}
use Rattle.std.specs.Cmp.Lexicographic.{slice_cmp}
use Rattle.std.proofs.lemmas.Fn.{always_returns_same}
use Rattle.sound_states.proofs.distinct.ascend.Goals as goal

pub returns : goal.returns
returns c = c.is_sorted_by.ensures.cases (λ x y. is_lt (slice_cmp nat_cmp x.now y.now)) (always_returns_same _ _ _ (λ a r f' k. search rules))
