use Rattle.std.proofs.Common.{◌≡◌, ◌++◌, ◌∷◌, [], ℕ, List, length, get_or, position, sym, ap, subst, ◌∙◌, arith}
use Rattle.std.specs.List.{All}
use Rattle.std.specs.Str.{bytes_eq}
use Rattle.std.proofs.lemmas.List.Elements.{All-push}
use Rattle.std.proofs.lemmas.List.Quantifiers.{position-Some}
use Rattle.std.proofs.lemmas.Slice.Eq.{bytes_eq-Decides}
use Rattle.std.proofs.Math.Seq.{get_or-append_seam}
use Rattle.bot_works.specs.declared.works.Ready.{Ready}
use Rattle.bot_works.proofs.works.place_of.Goals as goal

pub returns-in-Some-clause-bot : goal.returns-in-Some-clause-bot
returns-in-Some-clause-bot g c = λ d.
    let found = ap (position (λ ready. bytes_eq ready.bot c.args.bot.now)) (sym c.deref.ensures.value) ∙ sym c.ready_at.ensures ∙ c.in-Some.is in
    (bytes_eq-Decides _ _).0 (position-Some (λ ready. bytes_eq ready.bot c.args.bot.now) c.args.works.now.items c.in-Some.place d found).1

pub returns-clause-ready : goal.returns-clause-ready
returns-clause-ready g c =
    let P : Ready _ → Type 0 = λ r. g.R.Rules.task_of r.work ≡ record { bundle = c.args.core.now.state.bundle; bot = r.bot } in
    let here = c.in_ok-work.ensures ∙ ap (λ (b : List ℕ). record { bundle = b; bot = c.args.bot.now }) c.plan.ensures.bundle in
    subst (All P) (sym c.in_ok-push.ensures.items) (All-push P c.args.works.now.items (record { bot = c.args.bot.now; work = c.in_ok-work.work }) c.requires.ready here)

pub returns-clause-bot : goal.returns-clause-bot
returns-clause-bot g c = λ d.
    let new : Ready _ = record { bot = c.args.bot.now; work = c.in_ok-work.work } in
    let len : c.len-place.result ≡ length c.args.works.now.items = omega (arith, c.len-place.ensures, c.args.works.now.ok) in
    ap (λ (xs : List (Ready _)). (get_or xs c.len-place.result d).bot) c.in_ok-push.ensures.items
    ∙ ap (λ (n : ℕ). (get_or (c.args.works.now.items ++ new ∷ []) n d).bot) len
    ∙ ap (λ (r : Ready _). r.bot) (get_or-append_seam c.args.works.now.items new [] d)
