use Rattle.std.proofs.Common.{arith}
use Rattle.std.proofs.lemmas.List.Concat.{length-flat_map}
use Rattle.stored_types.proofs.coded.ListOfCoded.code_len.Goals as goal

pub returns : goal.returns
returns g c = rw (length-flat_map g.T.Coded.code c.args.self.now) (grind (arith, c.codes_len.ensures, c.saturating_add.ensures))
