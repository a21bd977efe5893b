use Rattle.solver.proofs.Rooting.{roots_of_roots}
use Rattle.solver.proofs.reach.roots_of.Goals as goal

pub returns : goal.returns
returns g c = roots_of_roots _ _ _ _ _ c.first_roots-roots.ensures c.first_roots.ensures
