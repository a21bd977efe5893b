use Rattle.schedules.specs.Tables.{lags}
use Rattle.trials.proofs.Noting.{FromNoted}
use Rattle.trials.proofs.settling.note_from.Given as goal

abbrev pub invariant-loop-to : goal.invariant-loop-to
invariant-loop-to g l =
    FromNoted (lags g.K.Mark.amount l.net.count l.net.places.now) l.from l.to l.fn.standing l.standing
