use Rattle.std.proofs.Common.{length, ◌≡◌}
use Rattle.plan.specs.Repairing.{LeastFromZero}
use Rattle.solver.specs.Working.{HasRoom, SameRows}
use Rattle.trials.proofs.reading.read_lags.Given as goal

abbrev pub invariant-loop-to : goal.invariant-loop-to
invariant-loop-to g l =
    (length l.table ≡ length l.fn.table) × LeastFromZero g.K.Mark l.stages l.table l.standing l.work.totals.now × HasRoom l.count l.work × SameRows l.work l.fn.work × (length l.loop_row ≡ length l.fn.loop_row)
