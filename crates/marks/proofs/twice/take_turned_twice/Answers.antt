use Rattle.std.proofs.Common.{◌≡◌, subst, rules}
use Rattle.marks.specs.Twice.{restored, Taken}
use Rattle.marks.proofs.twice.take_turned_twice.Goals as goal

pub returns : goal.returns
returns g c =
    let m : c.map.result ≡ restored c.take.result = search rules in
    let h = c.turned_twice.ensures.every.take c.turned_twice.result.inner.inner c.args.lag c.take.result c.take.ensures in
    rw m (subst (λ (t : g.row.M.Denot). Taken g.M.Mark t c.args.lag (restored c.take.result)) c.turned_twice.ensures.value h)
