use Rattle.std.proofs.Common.{slice_index}
use Rattle.schedules.specs.Tables.{times}
use Rattle.solver.proofs.Raising.{Raising}
use Rattle.solver.proofs.rounds.raise_all.Given as goal

abbrev pub invariant-loop-from : goal.invariant-loop-from
invariant-loop-from g l =
    let row = g.N.Kind.Mark.row in
    Raising (g.N.Network.size l.net) (g.N.Network.weight l.net) (times row l.totals) (times row l.next) (slice_index l.sources) l.rest l.changed

abbrev pub decreases-loop-from : goal.decreases-loop-from
decreases-loop-from g l = l.rest
