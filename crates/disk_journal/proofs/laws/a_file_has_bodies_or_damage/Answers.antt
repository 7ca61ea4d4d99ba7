use Rattle.disk_journal.proofs.Either.{bodies_or_damage}
use Rattle.disk_journal.proofs.laws.a_file_has_bodies_or_damage.Goals as goal

pub returns : goal.returns
returns c heading file has_none is_whole = bodies_or_damage heading file has_none is_whole
