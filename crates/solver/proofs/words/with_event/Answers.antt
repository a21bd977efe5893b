use Rattle.solver.proofs.Bits.{added}
use Rattle.solver.proofs.words.with_event.Goals as goal

pub returns : goal.returns
returns c = added _ _ c.requires
