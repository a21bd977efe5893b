use Rattle.std.proofs.Common.{◌-◌, ◌^◌}
use Rattle.solver.proofs.Visiting.{Visiting}
use Rattle.solver.proofs.reach.reach_over.Given as goal

abbrev pub invariant-loop-from : goal.invariant-loop-from
invariant-loop-from g l = Visiting (g.N.Network.size l.net) (g.N.Network.weight l.net) l.over l.event l.reached l.visited

-- each event visited makes the word of the visited a larger number
abbrev pub decreases-loop-from : goal.decreases-loop-from
decreases-loop-from g l = 2 ^ 64 - l.visited
