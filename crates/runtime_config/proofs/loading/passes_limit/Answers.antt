use Rattle.std.proofs.Common.{◌≡◌, Bool, true, false, length, [], ◌∷◌, ◌++◌, ◌||◌, sym, ap, subst, ◌∙◌}
use Rattle.std.specs.Prelude.{nat_lt, IfOk}
use Rattle.runtime_config.specs.Faults.{most_patterns, pass_together, passes_own, passes_patterns}
use Rattle.runtime_config.proofs.Loads.{sums_over}
use Rattle.runtime_config.specs.Whole.{place_of}
use Rattle.runtime_text.specs.Read.{entries_of, entry_of}
use Rattle.sieve_tree.specs.SieveView.{SieveView}
use Rattle.runtime_config.proofs.loading.passes_limit.Goals as goal

pub returns-then-has_many_patterns-clause-past : goal.returns-then-has_many_patterns-clause-past
returns-then-has_many_patterns-clause-past c =
    let p = place_of c.args.at.now in
    let numbers = passes_own p.bundle p.runtime.global p.bot || pass_together p.bundle p.runtime.global (p.before ++ p.bot ∷ []) in
    let many : passes_patterns p.bundle p.runtime.global p.bot ≡ true =
    sym (ap (λ (s : SieveView). nat_lt most_patterns (length s.patterns)) c.requires.sieve) ∙ sym c.has_many_patterns.ensures ∙ c.if-has_many_patterns.true in
    sym (ap (λ (b : Bool). b || numbers) many)

pub returns-clause-past : goal.returns-clause-past
returns-clause-past c =
    let p = place_of c.args.at.now in
    let numbers = passes_own p.bundle p.runtime.global p.bot || pass_together p.bundle p.runtime.global (p.before ++ p.bot ∷ []) in
    let few : passes_patterns p.bundle p.runtime.global p.bot ≡ false =
    sym (ap (λ (s : SieveView). nat_lt most_patterns (length s.patterns)) c.requires.sieve) ∙ sym c.has_many_patterns.ensures ∙ c.if-has_many_patterns.false in
    subst (λ (b : Bool). IfOk c.is_past_limit.result (λ past. past ≡ (b || numbers))) (sym few) c.is_past_limit.ensures.past

pub returns-clause-sums : goal.returns-clause-sums
returns-clause-sums c =
    let at = c.args.at.now in
    sums_over at.whole.now (entries_of at.before.now ++ entry_of at.bot.now ∷ []) c.is_past_limit.new.sums c.is_past_limit.result c.is_past_limit.ensures.sums c.is_past_limit.ensures.small

pub is_past_limit-requires-clause-sums : goal.is_past_limit-requires-clause-sums
is_past_limit-requires-clause-sums c = c.requires.sums.sums

pub is_past_limit-requires-clause-small : goal.is_past_limit-requires-clause-small
is_past_limit-requires-clause-small c = c.requires.sums.small
