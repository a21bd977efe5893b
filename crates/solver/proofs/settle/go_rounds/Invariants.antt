use Rattle.std.proofs.Common.{◌≡◌, ◌<◌, length, slice_index}
use Rattle.rows.specs.Limits.{most_events}
use Rattle.schedules.specs.Tables.{times}
use Rattle.solver.specs.Solving.{InStep}
use Rattle.solver.specs.Working.{SameRows}
use Rattle.solver.proofs.Going.{Going}
use Rattle.solver.proofs.settle.go_rounds.Given as goal

abbrev pub invariant-loop-done : goal.invariant-loop-done
invariant-loop-done g l =
    let row = g.N.Kind.Mark.row in
    Going (g.N.Network.size l.net) (g.N.Network.weight l.net) (times row l.fn.work.totals.now) (times row l.work.totals.now) (slice_index l.came) l.sources l.changed l.done × InStep g.N.Network g.N.Kind.Mark l.net l.work.totals.now l.work.next.now × SameRows l.work l.fn.work × (l.loop_row ≡ l.fn.loop_row) × (l.done < g.N.Network.size l.net) × (length l.sources ≡ most_events)
