use Rattle.std.proofs.Common.{◌*◌}
use Rattle.plan.specs.Holding.{HeldFrom}
use Rattle.plan.proofs.standing.word_of.Given as goal

abbrev pub invariant-loop-three : goal.invariant-loop-three
invariant-loop-three g l = HeldFrom l.places l.count l.first l.step (3 * l.three) l.word
