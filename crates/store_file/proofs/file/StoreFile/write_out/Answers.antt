use Rattle.std.proofs.Common.{[], ◌∷◌, ◌+◌, length, refl, sym, subst}
use Rattle.std.proofs.Math.Logic.{∥∥₁_map}
use Rattle.store_file.specs.Open.{OpenStore, IsFilling}
use Rattle.store_file.proofs.Writing.{still_shut, written_filling, ShutMoments, write_moments}
use Rattle.store_file.proofs.file.StoreFile.write_out.Goals as goal

pub returns-then-is_empty-clause-any_moment : goal.returns-then-is_empty-clause-any_moment
returns-then-is_empty-clause-any_moment g c told cells was = still_shut c.args.self.now (g.D.Disk.view c.args.disk.now) 1 cells was

pub write_behind-requires-clause-filled : goal.write_behind-requires-clause-filled
write_behind-requires-clause-filled g c told =
    ∥∥₁_map (c.requires told) (λ r.
    let was = subst (λ (o : OpenStore). IsFilling o (g.D.Disk.view c.args.disk.now) r.0) (sym c.self.view_is) r.1 in
    (0 ∷ [], 0 ∷ was.written, was.file, was.at))

pub returns-in_err-write_behind-clause-any_moment : goal.returns-in_err-write_behind-clause-any_moment
returns-in_err-write_behind-clause-any_moment g c told =
    let o : OpenStore = record { name = c.self.inside.name; scope = c.self.inside.scope; family = c.self.inside.family; from = c.self.inside.from; to = c.self.inside.to; count = c.self.inside.count; filled = c.self.inside.filled; at = c.self.inside.at; bytes = c.self.inside.buffer } in
    let v = g.D.Disk.view c.args.disk.now in
    let w = g.D.Disk.view c.write_behind.new.disk in
    subst (λ (l : OpenStore). ShutMoments l v w) c.self.view_is (write_moments o v w (c.write_behind.ensures.any_moment told))

pub returns-clause-filled : goal.returns-clause-filled
returns-clause-filled g c told cells was =
    let o : OpenStore = record { name = c.self.inside.name; scope = c.self.inside.scope; family = c.self.inside.family; from = c.self.inside.from; to = c.self.inside.to; count = c.self.inside.count; filled = c.self.inside.filled; at = c.self.inside.at; bytes = c.self.inside.buffer } in
    let now : OpenStore = record { name = o.name; scope = o.scope; family = o.family; from = o.from; to = o.to; count = o.count; filled = o.filled; at = o.at + length c.as_slice-bytes.result.now; bytes = c.clear.new.self } in
    let v = g.D.Disk.view c.args.disk.now in
    written_filling o now v (g.D.Disk.view c.write_behind.new.disk) c.as_slice-bytes.result.now cells (record { name = refl; scope = refl; family = refl; from = refl; to = refl; count = refl }) c.as_slice-bytes.ensures.value
    (c.in_ok-write_behind.ensures.filled told) refl c.clear.ensures refl
    (subst (λ (l : OpenStore). IsFilling l v cells) (sym c.self.view_is) was)

pub returns-clause-any_moment : goal.returns-clause-any_moment
returns-clause-any_moment g c told =
    let o : OpenStore = record { name = c.self.inside.name; scope = c.self.inside.scope; family = c.self.inside.family; from = c.self.inside.from; to = c.self.inside.to; count = c.self.inside.count; filled = c.self.inside.filled; at = c.self.inside.at; bytes = c.self.inside.buffer } in
    let v = g.D.Disk.view c.args.disk.now in
    let w = g.D.Disk.view c.write_behind.new.disk in
    subst (λ (l : OpenStore). ShutMoments l v w) c.self.view_is (write_moments o v w (c.write_behind.ensures.any_moment told))
