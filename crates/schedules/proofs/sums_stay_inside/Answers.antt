use Rattle.schedules.proofs.Inside.{opening_stays_inside, everywhere_stays_inside}
use Rattle.schedules.proofs.sums_stay_inside.Goals as goal

pub returns : goal.returns
returns c = (opening_stays_inside, everywhere_stays_inside)
