use Rattle.std.proofs.Common.{arith}
use Rattle.solver.proofs.Rotating.{written_is}
use Rattle.solver.proofs.walk.write_loop.Goals as goal

pub returns : goal.returns
returns c =
    written_is _ _ _ _ _ _ _ c.in_ok-first.ensures.twice c.in_ok-first.ensures.holds (omega (arith, c.in_ok-first.ensures.twice.short)) c.write_circle.ensures
