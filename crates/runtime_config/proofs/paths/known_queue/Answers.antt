use Rattle.std.proofs.Common.{◌<◌, subst}
use Rattle.std.proofs.lemmas.List.{length-map}
use Rattle.runtime_text.proofs.Owners.{owner_inside}
use Rattle.runtime_config.proofs.KnownPaths.{queue_known, queue_unknown}
use Rattle.runtime_text.specs.Read.{entries_of, entry_of}
use Rattle.runtime_config.proofs.paths.known_queue.Goals as goal

pub queue_at-requires : goal.queue_at-requires
queue_at-requires c =
    subst (λ n. c.in-Some.i < n) (length-map c.args.bots.now entry_of) (owner_inside (entries_of c.args.bots.now) c.args.queue.now c.in-Some.i c.in-Some.ensures)

pub returns-in-Some : goal.returns-in-Some
returns-in-Some c = queue_known (entries_of c.args.bots.now) c.args.queue.now c.in-Some.i c.queue_at.result c.in-Some.ensures c.queue_at.ensures

pub returns-in-None : goal.returns-in-None
returns-in-None c = queue_unknown (entries_of c.args.bots.now) c.args.queue.now c.in-None.ensures
