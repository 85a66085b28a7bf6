use Rattle.std.proofs.Common.{rules, ◌∙◌, ◌≡◌, ◌<◌, sym, subst, ap}
use Rattle.wal_split.specs.Flushed.{alone_in, raised_in}
use Rattle.wal_split.proofs.Keys.{raised_put}
use Rattle.wal_split.proofs.flushed.raise_alone.Goals as goal

pub returns : goal.returns
returns c f =
    let key = c.in_ok-key.key in
    let is : key.items ≡ c.args.family.now = c.in_ok-key.ensures.items_if_clones_equal (search rules) in
    let lower : alone_in c.args.alone.now.entries key.items < c.args.to = subst (λ l. alone_in c.args.alone.now.entries l < c.args.to) (sym is) (search rules) in
    ap (λ es. alone_in es f) c.in_ok-insert.ensures.entries ∙ raised_put key c.args.to c.args.alone.now.entries lower f ∙ ap (λ l. raised_in l c.args.to c.args.alone.now.entries f) is
