use Rattle.marks.proofs.Turning.{made_turned, unmade_turned}
use Rattle.marks.proofs.turned.TurnedMark.make_total.Goals as goal

pub returns-in_err-inner : goal.returns-in_err-inner
returns-in_err-inner g c =
    let h = rw c.opposites-turned.ensures at c.in_err-inner.ensures in
    rw c.from_residual.ensures (unmade_turned g.M.Mark.WIDTH c.args.parts.now h)

pub returns : goal.returns
returns g c =
    let h = rw c.opposites-turned.ensures at c.in_ok-inner.ensures in
    made_turned g.M.Mark.WIDTH c.args.parts.now (g.M.Mark.row c.in_ok-inner.inner) h
