use Rattle.journal_book.specs.Staged.{stamp}
use Rattle.table_holds.proofs.Knowing.{if_done, if_place, if_ready, if_sight}
use Rattle.table_holds.proofs.playing.Play.make.Goals as goal

pub commit-requires-clause-content : goal.commit-requires-clause-content
commit-requires-clause-content c = λ fits. c.requires.plain c.args.self.now.locked.book.format (stamp c.args.self.now.locked.book.state 1000).0

pub returns-in-Ok : goal.returns-in-Ok
returns-in-Ok c =
    let old = c.args.self.now.locked in let new = c.commit.new.self in let prefix = c.commit.ensures.grows in let is = c.requires.playing in
    record { ready = if_ready old new _ _ prefix is.ready; done = if_done old new _ _ prefix is.done; place = if_place old new _ _ _ prefix is.place; sight = if_sight old new _ _ _ prefix is.sight }

pub returns-in-Err-Half : goal.returns-in-Err-Half
returns-in-Err-Half c =
    let old = c.args.self.now.locked in let new = c.commit.new.self in let prefix = c.commit.ensures.grows in let is = c.requires.playing in
    record { ready = if_ready old new _ _ prefix is.ready; done = if_done old new _ _ prefix is.done; place = if_place old new _ _ _ prefix is.place; sight = if_sight old new _ _ _ prefix is.sight }

pub returns-in-Err-Disk : goal.returns-in-Err-Disk
returns-in-Err-Disk c =
    let old = c.args.self.now.locked in let new = c.commit.new.self in let prefix = c.commit.ensures.grows in let is = c.requires.playing in
    record { ready = if_ready old new _ _ prefix is.ready; done = if_done old new _ _ prefix is.done; place = if_place old new _ _ _ prefix is.place; sight = if_sight old new _ _ _ prefix is.sight }

pub returns-in-Err-Refused : goal.returns-in-Err-Refused
returns-in-Err-Refused c =
    let old = c.args.self.now.locked in let new = c.commit.new.self in let prefix = c.commit.ensures.grows in let is = c.requires.playing in
    record { ready = if_ready old new _ _ prefix is.ready; done = if_done old new _ _ prefix is.done; place = if_place old new _ _ _ prefix is.place; sight = if_sight old new _ _ _ prefix is.sight }
