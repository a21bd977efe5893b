use Rattle.std.proofs.Common.{slice_index}
use Rattle.schedules.specs.Tables.{times}
use Rattle.solver.proofs.Raising.{Following}
use Rattle.solver.proofs.rounds.follow_lags.Given as goal

abbrev pub invariant-loop-to : goal.invariant-loop-to
invariant-loop-to g l =
    let row = g.N.Kind.Mark.row in
    Following (g.N.Network.size l.net) (g.N.Network.weight l.net) l.from (row l.total) (times row l.fn.next) (times row l.next) (slice_index l.fn.sources) (slice_index l.sources) l.rest l.risen

abbrev pub decreases-loop-to : goal.decreases-loop-to
decreases-loop-to g l = l.rest
