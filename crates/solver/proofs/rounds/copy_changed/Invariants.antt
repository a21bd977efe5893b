use Rattle.std.proofs.Common.{None}
use Rattle.solver.proofs.Copying.{Copying}
use Rattle.solver.proofs.rounds.copy_changed.Given as goal

abbrev pub invariant-loop-event : goal.invariant-loop-event
invariant-loop-event g l =
    Copying None l.changed l.rest l.next l.fn.totals l.totals × Copying 0 l.changed l.rest l.sources l.fn.came l.came

abbrev pub decreases-loop-event : goal.decreases-loop-event
decreases-loop-event g l = l.rest
