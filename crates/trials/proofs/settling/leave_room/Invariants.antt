use Rattle.schedules.specs.Tables.{times}
use Rattle.trials.proofs.Room.{Near}
use Rattle.trials.proofs.settling.leave_room.Given as goal

abbrev pub invariant-loop-total : goal.invariant-loop-total
invariant-loop-total g l = Near l.total-index (times g.K.Mark.row l.totals)
