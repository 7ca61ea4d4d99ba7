use Rattle.std.proofs.Common.{sym, ◌∙◌}
use Rattle.edge_memory.proofs.Presents.{found_here, none_here}
use Rattle.edge_memory.proofs.files.Files.get.Goals as goal

pub returns-in-Some : goal.returns-in-Some
returns-in-Some c =
    c.deref-in-Some.ensures.value ∙ sym (found_here c.args.file c.args.self.now.held.items c.deref.result.now c.in-Some.i c.index.result.now c.place_of.result c.deref.ensures.value c.place_of.ensures c.in-Some.is c.index.ensures)

pub returns-in-None : goal.returns-in-None
returns-in-None c = sym (none_here c.args.file c.args.self.now.held.items c.deref.result.now c.place_of.result c.deref.ensures.value c.place_of.ensures c.in-None.is)
