use Rattle.std.proofs.Common.{◌≡◌, subst, rules}
use Rattle.marks.specs.Twice.{restored, Added}
use Rattle.marks.proofs.twice.add_turned_twice.Goals as goal

pub returns : goal.returns
returns g c =
    let m : c.map.result ≡ restored c.add.result = search rules in
    let h = c.turned_twice.ensures.every.add c.turned_twice.result.inner.inner c.args.lag c.add.result c.add.ensures in
    rw m (subst (λ (t : g.row.M.Denot). Added g.M.Mark t c.args.lag (restored c.add.result)) c.turned_twice.ensures.value h)
