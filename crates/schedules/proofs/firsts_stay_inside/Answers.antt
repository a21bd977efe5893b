use Rattle.schedules.proofs.Inside.{firsts_inside}
use Rattle.schedules.proofs.firsts_stay_inside.Goals as goal

pub returns : goal.returns
returns c = firsts_inside
