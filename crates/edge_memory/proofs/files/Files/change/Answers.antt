use Rattle.std.proofs.Common.{refl}
use Rattle.std.proofs.lemmas.Result.{on_ok_weaker, on_err_weaker}
use Rattle.edge_memory.proofs.Presents.{changed_here, kept_here, first_here}
use Rattle.edge_memory.proofs.files.Files.change.Goals as goal

pub returns-in-Some-clause-ok : goal.returns-in-Some-clause-ok
returns-in-Some-clause-ok c =
    on_ok_weaker c.change.result (λ bytes. changed_here c.args.entry.now c.args.self.now.held.items c.deref.result.now c.place_of.result c.deref.ensures.value c.place_of.ensures c.in-Some.i c.index_mut.result.now _ c.in-Some.is c.index_mut.ensures.value refl bytes) c.change.ensures.ok

pub returns-in-Some-clause-err : goal.returns-in-Some-clause-err
returns-in-Some-clause-err c =
    on_err_weaker c.change.result (λ bytes. kept_here c.args.entry.now c.args.self.now.held.items c.deref.result.now c.place_of.result c.deref.ensures.value c.place_of.ensures c.in-Some.i c.index_mut.result.now _ c.in-Some.is c.index_mut.ensures.value refl bytes) c.change.ensures.err

pub returns-in_ok-push-in-None-clause-ok : goal.returns-in_ok-push-in-None-clause-ok
returns-in_ok-push-in-None-clause-ok c =
    first_here c.args.entry.now c.args.self.now.held.items c.deref.result.now c.place_of.result c.deref.ensures.value c.place_of.ensures c.push.new.self.items _ c.new-bytes.result.items c.in-None.is refl c.new-bytes.ensures.items c.in_ok-change-in-None.ensures.ok c.in_ok-push-in-None.ensures.items
