use Rattle.solver.proofs.Bits.{first_are}
use Rattle.solver.proofs.words.first_events.Goals as goal

pub returns : goal.returns
returns c = first_are _ c.requires.1
