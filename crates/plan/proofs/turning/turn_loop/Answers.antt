use Rattle.plan.proofs.TurningLoops.{loop_turned}
use Rattle.plan.proofs.turning.turn_loop.Goals as goal

pub returns : goal.returns
returns c = loop_turned _ _ _ c.requires.0 c.requires.1 c.reverse.ensures.after
