use Rattle.plan.proofs.Voiding.{ClearedBelow}
use Rattle.plan.proofs.calls.void.clear_event.Given as goal

abbrev pub invariant-loop-other : goal.invariant-loop-other
invariant-loop-other g l = ClearedBelow l.count l.event l.other l.initial.table l.table
