use Rattle.std.proofs.Common.{◌≡◌, ◌+◌, [], ◌∷◌, ◌++◌, false, ◌||◌, length, ap, sym, subst, ◌∙◌, arith, length-append}
use Rattle.std.proofs.lemmas.List.{length-map}
use Rattle.runtime_config.proofs.Adding.{own_passes, sums_added, together}
use Rattle.runtime_config.specs.Faults.{pass_together, passes_own}
use Rattle.runtime_text.specs.Read.{entries_of, entry_of, members_of}
use Rattle.runtime_config.specs.Sums.{AreSums}
use Rattle.runtime_config.specs.declared.limits.Sums.{Sums}
use Rattle.runtime_config.proofs.limits.is_past_limit.Goals as goal

pub returns-clause-past : goal.returns-clause-past
returns-clause-past c =
    let bundle = c.args.bundle.now in
    let global = members_of c.args.global.now in
    let bot = entry_of c.args.bot.now in
    let before = entries_of c.args.before.now in
    let bots = before ++ bot ∷ [] in
    let sums = subst (λ (s : Sums). AreSums bundle global bots s) (sym c.in_ok-add.ensures) (sums_added bundle global before bot c.args.sums.now c.in_ok-numbers.numbers c.requires.sums c.in_ok-numbers.ensures) in
    let counted : length c.args.before.now + 1 ≡ length bots = omega (arith, length-append before (bot ∷ []), length-map c.args.before.now entry_of) in
    let own : passes_own bundle global bot ≡ false = sym (own_passes bundle global bot c.in_ok-numbers.numbers c.in_ok-numbers.ensures) ∙ sym c.in_ok-passes_own.ensures ∙ c.if-branch.false in
    c.are_past.ensures ∙ together bundle global bots c.add.new.self (length c.args.before.now + 1) sums counted
    ∙ sym (ap (λ b. b || pass_together bundle global bots) own)

pub returns-clause-sums : goal.returns-clause-sums
returns-clause-sums c = λ none.
    subst (λ (s : Sums). AreSums c.args.bundle.now (members_of c.args.global.now) (entries_of c.args.before.now ++ entry_of c.args.bot.now ∷ []) s) (sym c.in_ok-add.ensures)
    (sums_added c.args.bundle.now (members_of c.args.global.now) (entries_of c.args.before.now) (entry_of c.args.bot.now) c.args.sums.now c.in_ok-numbers.numbers c.requires.sums c.in_ok-numbers.ensures)
