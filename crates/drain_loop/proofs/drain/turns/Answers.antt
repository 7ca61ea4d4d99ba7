use Rattle.std.proofs.Common.{ℕ, List, refl, sym, subst, ◌∙◌, arith}
use Rattle.drain_turns.specs.Drained.{Ends}
use Rattle.bot_works.specs.Works.{AreReady}
use Rattle.drain_loop.specs.Calls.{outside, place_of}
use Rattle.drain_loop.specs.Turning.{OneStep}
use Rattle.drain_loop.proofs.Looked.{looked_further, none_looked, same_files}
use Rattle.drain_loop.proofs.Turning.{none_ready, run_ends, run_none, turn_more}
use Rattle.drain_loop.proofs.drain.turns.Goals as goal

pub turns-init : goal.turns-init
turns-init g c = record {
  run = λ first told. run_none (outside g.R.Rules.meaning first (g.C.Clock.told c.args.clock.now) c.args.book.now.limit) (place_of c.args.book.now c.args.left) c.args.book.now (g.met.D.Disk.only_now c.args.book.now.disk);
  whole = c.requires.whole;
  bundle = refl;
  limit = refl;
  looked = none_looked c.args.feeds.now (g.H.Shelf.shelf c.args.shelf.now) c.requires.ready;
  works = none_ready g.R.Rules.task_of c.args.book.now.state.bundle c.new-works.result.items c.new-works.ensures.items;
  untold = λ none. none;
  count = omega arith;
}

pub turns-preserved : goal.turns-preserved
turns-preserved g c =
    let inv = c.turns.invariant in
    let m = g.R.Rules.meaning in
    let one = c.in-Ok.ensures.made (g.H.Shelf.shelf c.turns.shelf) refl in
    record {
      run = λ first told.
          let o = outside m first (g.C.Clock.told c.args.clock.now) c.args.book.now.limit in
          turn_more o (place_of c.args.book.now c.args.left) c.turns.left c.one_less-left.result c.args.book.now c.turns.book c.turn.new.book (sym inv.limit) (inv.run first told)
          (subst (λ (n : ℕ). OneStep g.D.Disk.disk (outside m first (g.C.Clock.told c.args.clock.now) n) c.turns.left c.turns.book c.turn.new.book) inv.limit
          (c.in-Ok.ensures.made first (told ∙ sym inv.looked.shelf.told)))
          c.one_less-left.ensures;
      whole = c.in-Ok.ensures.whole;
      bundle = c.turn.ensures.bundle ∙ inv.bundle;
      limit = one.goes_on.same.1 ∙ inv.limit;
      looked = looked_further c.args.feeds.now c.turns.feeds c.turn.new.feeds (g.H.Shelf.shelf c.args.shelf.now) (g.H.Shelf.shelf c.turns.shelf) (g.H.Shelf.shelf c.turn.new.shelf) inv.looked c.turn.ensures.looked
          (λ name differ. same_files c.args.feeds.now c.turns.feeds name inv.looked.same differ);
      works = subst (λ (b : List ℕ). AreReady g.R.Rules.task_of b c.turn.new.works.items) inv.bundle c.turn.ensures.works;
      untold = λ none. c.turn.ensures.untold (inv.untold none);
      count = omega (arith, inv.count, c.turn.ensures.disk_count);
    }

pub returns-in-Err-clause-drained : goal.returns-in-Err-clause-drained
returns-in-Err-clause-drained g c = λ first told.
    let inv = c.turns.invariant in
    let m = g.R.Rules.meaning in
    let o = outside m first (g.C.Clock.told c.args.clock.now) c.args.book.now.limit in
    run_ends o c.args.left c.turns.left c.args.book.now c.turns.book c.turn.new.book c.in-Err.end (inv.run first told)
    (subst (λ (n : ℕ). Ends (outside m first (g.C.Clock.told c.args.clock.now) n) (place_of c.turns.book c.turns.left) c.in-Err.end) inv.limit (c.in-Err.ensures.ends first (told ∙ sym inv.looked.shelf.told)))
    c.in-Err.ensures.still

pub returns-in-Err-clause-looked : goal.returns-in-Err-clause-looked
returns-in-Err-clause-looked g c =
    let inv = c.turns.invariant in
    looked_further c.args.feeds.now c.turns.feeds c.turn.new.feeds (g.H.Shelf.shelf c.args.shelf.now) (g.H.Shelf.shelf c.turns.shelf) (g.H.Shelf.shelf c.turn.new.shelf) inv.looked c.turn.ensures.looked
    (λ name differ. same_files c.args.feeds.now c.turns.feeds name inv.looked.same differ)

pub returns-in-Err-clause-undamaged : goal.returns-in-Err-clause-undamaged
returns-in-Err-clause-undamaged g c = λ files told.
    let inv = c.turns.invariant in
    let now = ((inv.run (g.H.Shelf.shelf c.args.shelf.now) refl).goes_on.others files told).told files told in
    c.in-Err.ensures.undamaged now.0 now.1
