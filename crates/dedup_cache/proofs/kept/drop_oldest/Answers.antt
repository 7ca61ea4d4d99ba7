use Rattle.std.proofs.Common.{ℕ, List, None, subst}
use Rattle.stored_types.specs.declared.mark.Mark.{Mark}
use Rattle.dedup_cache.specs.Kept.{Changes, KeepMarks}
use Rattle.dedup_cache.proofs.KeptMarks.{kept_popped}
use Rattle.dedup_cache.proofs.Rows.{lost_none, lost_one}
use Rattle.dedup_cache.proofs.kept.drop_oldest.Goals as goal

pub returns-in_default-clause-marks : goal.returns-in_default-clause-marks
returns-in_default-clause-marks c = (lost_none c.args.marks.now c.pop.new.self c.pop.result c.in_default.is c.pop.ensures).marks

pub returns-in_default-clause-kept : goal.returns-in_default-clause-kept
returns-in_default-clause-kept c = rw (lost_none c.args.marks.now c.pop.new.self c.pop.result c.in_default.is c.pop.ensures).same c.requires.kept

pub returns-in-Some-clause-marks : goal.returns-in-Some-clause-marks
returns-in-Some-clause-marks c = (lost_one c.args.marks.now c.pop.new.self c.pop.result c.in-Some.mark c.in-Some.is c.pop.ensures).marks

pub returns-in-Some-clause-pushed : goal.returns-in-Some-clause-pushed
returns-in-Some-clause-pushed c = (lost_one c.args.marks.now c.pop.new.self c.pop.result c.in-Some.mark c.in-Some.is c.pop.ensures).pushed

pub returns-in-Some-clause-kept : goal.returns-in-Some-clause-kept
returns-in-Some-clause-kept c =
    let old = c.args.moments.now in
    let new = c.remove.new.self in
    let lost = lost_one c.args.marks.now c.pop.new.self c.pop.result c.in-Some.mark c.in-Some.is c.pop.ensures in
    kept_popped old new c.in-Some.mark c.pop.new.self.marks (subst (λ (l : List Mark). KeepMarks l old) lost.all c.requires.kept)
    (subst (λ (key : List ℕ). Changes key None old new) c.bytes.ensures c.remove.ensures.gone)
