use Rattle.std.proofs.Common.{rules, ◌+◌, refl, sym, subst}
use Rattle.store_file.specs.Open.{OpenStore, IsFilling}
use Rattle.store_file.proofs.Writing.{put_filling}
use Rattle.store_file.proofs.file.StoreFile.fill.Goals as goal

pub returns-in_err-make_room-clause-puts_in : goal.returns-in_err-make_room-clause-puts_in
returns-in_err-make_room-clause-puts_in g c told cells was = record { filling = search rules; never_there = c.make_room.ensures.any_moment told cells was }

pub returns-clause-puts_in : goal.returns-clause-puts_in
returns-clause-puts_in g c told cells was =
    let o : OpenStore = record { name = c.self.inside.name; scope = c.self.inside.scope; family = c.self.inside.family; from = c.self.inside.from; to = c.self.inside.to; count = c.self.inside.count; filled = c.self.inside.filled; at = c.self.inside.at; bytes = c.self.inside.buffer } in
    let now : OpenStore = record { name = o.name; scope = o.scope; family = o.family; from = o.from; to = o.to; count = o.count; filled = o.filled + 1; at = o.at; bytes = c.add_pair.new.self } in
    let v = g.D.Disk.view c.make_room.new.disk in
    record {
      filling = put_filling o now v cells (c.args.number, c.args.cell.now) (record { name = refl; scope = refl; family = refl; from = refl; to = refl; count = refl }) refl c.add_pair.ensures.bytes refl
          (subst (λ (l : OpenStore). IsFilling l v cells) (sym c.self.view_is) (c.in_ok-make_room.ensures.filled told cells was));
      never_there = c.make_room.ensures.any_moment told cells was;
    }
