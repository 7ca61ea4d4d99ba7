use Rattle.std.proofs.Common.{◌≡◌, ◌++◌, [], ◌∷◌, ℕ, List, Option, None, Result, Ok, Err, OnOk, OnErr, refl, sym, ◌∙◌, ap, subst, ◌≤◌, Bool, false}
use Rattle.edge_traits.specs.Disk.{DiskView}
use Rattle.step_code.specs.declared.base.Base.{Base}
use Rattle.step_code.specs.declared.step.Step.{Step}
use Rattle.step_code.specs.declared.step.StepKind.{StepKind}
use Rattle.step_code.specs.After.{after}
use Rattle.step_code.specs.Content.{May}
use Rattle.step_code.specs.Fits.{Fits}
use Rattle.step_code.specs.Rules.{last_moment, Meaning}
use Rattle.store_image.specs.Stands.{Origin}
use Rattle.journal_book.specs.declared.stage_refusal.StageRefusal.{StageRefusal}
use Rattle.journal_book.specs.Book.{BookView, IsKept}
use Rattle.journal_book.specs.Staged.{cause_of, staged, stamp, step_cause, IsMove}
use Rattle.journal_book.proofs.OneMore.{kept_staged, may_stage, nothing_refuses}
use Rattle.journal_book.proofs.book.Book.stage.Goals as goal

-- a committed step is one more, and a refused one leaves the book
kept_either : {D R : Type 0} (disk : D → DiskView) (m : Meaning) (origin : Origin) (past : List Step) (old new : BookView D R) (step : Step) (state : Base) (result : Result ℕ StageRefusal)
    → OnOk result (new ≡ record old { state = state; steps = old.steps ++ step ∷ [] }) → OnErr result (new ≡ old) → IsKept disk m origin past old → IsKept disk m origin past new
kept_either disk m origin past old new step state (Ok number) made left kept = subst (λ (b : BookView _ _). IsKept disk m origin past b) (sym made) (kept_staged disk m origin past old step state kept)
kept_either disk m origin past old new step state (Err refusal) made left kept = subst (λ (b : BookView _ _). IsKept disk m origin past b) (sym left) kept

on_any : {P : Type 0} (result : Result ℕ StageRefusal) → P → OnOk result P
on_any (Ok number) p = p
on_any (Err refusal) p = tt

-- what the rules gave of a move shows that its step may be taken, as nothing refuses it
allowed : (m : Meaning) (format : ℕ) (s now : Base) (steps : List Step) (limit moment : ℕ) (what : StepKind) (step : Step) (whole : Bool) → s ≡ now → s.latest.0 ≤ last_moment → whole ≡ false
    → step_cause m now steps limit (staged m now moment what) ≡ None → step ≡ staged m now moment what
    → (whole ≡ false → Fits m now (staged m now moment what) → IsMove m format now (stamp now moment).0 what) → May m now step
allowed m format s now steps limit moment what step whole same latest sound causes is content =
    let fits = (nothing_refuses m now steps limit (staged m now moment what) causes).0 in
    let early : now.latest.0 ≤ last_moment = subst (λ (b : Base). b.latest.0 ≤ last_moment) same latest in
    subst (λ (it : Step). May m now it) (sym is) (may_stage m format now moment what early fits (content sound fits))

none_stops : (broken : Bool) (step : Option StageRefusal) → broken ≡ false → step ≡ None → cause_of broken step ≡ None
none_stops broken step whole none = subst (λ b. cause_of b step ≡ None) (sym whole) none

pub returns-in-Ok-clause-causes : goal.returns-in-Ok-clause-causes
returns-in-Ok-clause-causes g c =
    let i = c.self.inside in
    let m = g.R.Rules.meaning in
    let whole = sym (ap (λ b. b.broken) c.self.view_is) ∙ c.if-self.false in
    on_any c.commit.result
    (none_stops c.args.self.now.broken _ whole
    (subst (λ (b : BookView g.row.D.Denot g.row.R.Denot). step_cause m b.state b.steps b.limit (staged m b.state c.args.now c.args.what) ≡ None) c.self.view_is
    (c.in-Ok.ensures.ok i.steps c.code_len.ensures)))

pub commit-requires-clause-may : goal.commit-requires-clause-may
commit-requires-clause-may g c =
    let i = c.self.inside in
    allowed g.R.Rules.meaning c.args.self.now.format i.core.state c.args.self.now.state i.steps i.limit c.args.now c.args.what c.in-Ok.step c.args.self.now.broken (ap (λ b. b.state) c.self.view_is) c.self.invariant.1.latest
    (sym (ap (λ b. b.broken) c.self.view_is) ∙ c.if-self.false)
    (subst (λ (s : Base). step_cause g.R.Rules.meaning s i.steps i.limit (staged g.R.Rules.meaning s c.args.now c.args.what) ≡ None) (ap (λ b. b.state) c.self.view_is) (c.in-Ok.ensures.ok i.steps c.code_len.ensures))
    (c.in-Ok.ensures.step ∙ ap (λ (s : Base). staged g.R.Rules.meaning s c.args.now c.args.what) (ap (λ b. b.state) c.self.view_is)) c.requires.content

pub returns-in-Ok-clause-may : goal.returns-in-Ok-clause-may
returns-in-Ok-clause-may g c =
    let i = c.self.inside in
    on_any c.commit.result
    (allowed g.R.Rules.meaning c.args.self.now.format i.core.state c.args.self.now.state i.steps i.limit c.args.now c.args.what _ c.args.self.now.broken (ap (λ b. b.state) c.self.view_is) c.self.invariant.1.latest
    (sym (ap (λ b. b.broken) c.self.view_is) ∙ c.if-self.false)
    (subst (λ (s : Base). step_cause g.R.Rules.meaning s i.steps i.limit (staged g.R.Rules.meaning s c.args.now c.args.what) ≡ None) (ap (λ b. b.state) c.self.view_is) (c.in-Ok.ensures.ok i.steps c.code_len.ensures))
    refl c.requires.content)

pub returns-in-Ok-clause-kept : goal.returns-in-Ok-clause-kept
returns-in-Ok-clause-kept g c = λ origin past kept. kept_either g.D.Disk.disk g.R.Rules.meaning origin past c.args.self.now c.commit.new.self c.in-Ok.step (after g.R.Rules.meaning c.args.self.now.state c.in-Ok.step) c.commit.result c.commit.ensures.ok c.commit.ensures.err kept
