use Rattle.std.proofs.Common.{◌≡◌, subst}
use Rattle.std.specs.List.{IsAllAdjacentAnswer}
use Rattle.std.specs.Ordering.{is_lt, nat_cmp}
use Rattle.std.specs.Cmp.Lexicographic.{slice_cmp}
use Rattle.sound_states.proofs.Apart.{names_Decides}
use Rattle.sound_states.proofs.distinct.are_distinct.Goals as goal

pub returns : goal.returns
returns c = names_Decides c.args.names.items c.sort_unstable.new.self.items c.ascend.result c.sort_unstable.ensures.permutation c.sort_unstable.ensures.sorted (subst (λ names. IsAllAdjacentAnswer (λ x y b. b ≡ is_lt (slice_cmp nat_cmp x.now y.now)) names c.ascend.result) c.deref.ensures.value c.ascend.ensures)
