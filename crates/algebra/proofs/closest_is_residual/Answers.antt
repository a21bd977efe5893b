use Rattle.algebra.proofs.Answering.{closest_is_half}
use Rattle.algebra.proofs.closest_is_residual.Goals as goal

pub returns : goal.returns
returns c = closest_is_half
