use Rattle.solver.specs.Words.{KnownEvents}
use Rattle.solver.proofs.settle.known_events.Given as goal

abbrev pub invariant-loop-event : goal.invariant-loop-event
invariant-loop-event g l = KnownEvents l.event l.totals l.known
