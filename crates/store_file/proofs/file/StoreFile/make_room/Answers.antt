use Rattle.store_file.proofs.Writing.{still_shut}
use Rattle.store_file.proofs.file.StoreFile.make_room.Goals as goal

pub returns-then-has_room-clause-any_moment : goal.returns-then-has_room-clause-any_moment
returns-then-has_room-clause-any_moment g c told cells was = still_shut c.args.self.now (g.D.Disk.view c.args.disk.now) 1 cells was
