use Rattle.std.proofs.Common.{◌≤◌}
use Rattle.plan.specs.Holding.{HeldFrom}
use Rattle.plan.proofs.standing.last_of.Given as goal

abbrev pub invariant-loop-k : goal.invariant-loop-k
invariant-loop-k g l = record {
  left : l.from ≤ l.k;
  held : HeldFrom l.places l.count l.first l.step l.k l.word;
}
