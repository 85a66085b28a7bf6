use Rattle.std.proofs.Common.{rules, ◌≡◌, sym, ap, ◌∙◌}
use Rattle.std.proofs.Math.Logic.{∥∥₁_map}
use Rattle.cell_model.specs.declared.form.Form.TheVariants.{Tagged}
use Rattle.log_model.specs.StoreText.{store_text}
use Rattle.store_file.specs.Open.{OpenStore, store_of}
use Rattle.store_file.proofs.Writing.{written_file, stored_whole, moments_whole, moments_none}
use Rattle.store_file.proofs.file.StoreFile.commit.Goals as goal

pub write_out-requires : goal.write_out-requires
write_out-requires g c told = ∥∥₁_map (c.requires.store told) (λ r. (r.0, r.1))

pub commit_filled-requires : goal.commit_filled-requires
commit_filled-requires g c told =
    let o : OpenStore = c.args.self in
    let now : OpenStore = c.write_out.new.self in
    let u = g.D.Disk.view c.args.disk.now in
    let v = g.D.Disk.view c.write_out.new.disk in
    let same = c.write_out.ensures.shape in
    let named : c.store.inside.name ≡ o.name = ap (λ (l : OpenStore). l.name) c.store.view_is ∙ same.name in
    ∥∥₁_map (c.requires.store told) (λ r.
    let filling = c.in_ok-write_out.ensures.filled told r.0 r.1 in
    (filling.written, written_file o now c.store.inside.name u v v same named c.in_ok-write_out.ensures.«empty» r.0 filling))

pub returns-in_err-write_out-clause-commits : goal.returns-in_err-write_out-clause-commits
returns-in_err-write_out-clause-commits g c told cells was = record {
  durable = search rules;
  atomic = moments_none c.args.self (store_text Tagged (store_of c.args.self cells)) (g.D.Disk.view c.args.disk.now) (g.D.Disk.view c.write_out.new.disk) (c.write_out.ensures.any_moment told cells was);
}

pub returns-in_err-commit_filled-clause-commits : goal.returns-in_err-commit_filled-clause-commits
returns-in_err-commit_filled-clause-commits g c told cells was =
    let o : OpenStore = c.args.self in
    let now : OpenStore = c.write_out.new.self in
    let same = c.write_out.ensures.shape in
    let named : c.store.inside.name ≡ o.name = ap (λ (l : OpenStore). l.name) c.store.view_is ∙ same.name in
    record {
      durable = search rules;
      atomic = moments_whole o now c.store.inside.name (g.D.Disk.view c.args.disk.now) (g.D.Disk.view c.write_out.new.disk) (g.D.Disk.view c.commit_filled.new.disk) same named c.in_ok-write_out.ensures.«empty»
          cells (sym was.filled ∙ c.requires.full) (c.in_ok-write_out.ensures.filled told cells was) (c.write_out.ensures.any_moment told cells was) (c.commit_filled.ensures.any_moment told);
    }

pub returns-clause-commits : goal.returns-clause-commits
returns-clause-commits g c told cells was =
    let o : OpenStore = c.args.self in
    let now : OpenStore = c.write_out.new.self in
    let same = c.write_out.ensures.shape in
    let named : c.store.inside.name ≡ o.name = ap (λ (l : OpenStore). l.name) c.store.view_is ∙ same.name in
    record {
      durable = stored_whole o now c.store.inside.name (g.D.Disk.view c.args.disk.now) (g.D.Disk.view c.write_out.new.disk) (g.D.Disk.view c.commit_filled.new.disk) same named c.in_ok-write_out.ensures.«empty»
          cells (sym was.filled ∙ c.requires.full) (c.in_ok-write_out.ensures.filled told cells was) (c.in_ok-commit_filled.ensures.stored told);
      atomic = moments_whole o now c.store.inside.name (g.D.Disk.view c.args.disk.now) (g.D.Disk.view c.write_out.new.disk) (g.D.Disk.view c.commit_filled.new.disk) same named c.in_ok-write_out.ensures.«empty»
          cells (sym was.filled ∙ c.requires.full) (c.in_ok-write_out.ensures.filled told cells was) (c.write_out.ensures.any_moment told cells was) (c.commit_filled.ensures.any_moment told);
    }
