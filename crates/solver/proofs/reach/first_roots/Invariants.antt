use Rattle.solver.proofs.Rooting.{Rooting}
use Rattle.solver.proofs.reach.first_roots.Given as goal

abbrev pub invariant-loop-event : goal.invariant-loop-event
invariant-loop-event g l = Rooting (g.N.Network.size l.net) (g.N.Network.weight l.net) l.word l.left l.seen l.roots

abbrev pub decreases-loop-event : goal.decreases-loop-event
decreases-loop-event g l = l.left
