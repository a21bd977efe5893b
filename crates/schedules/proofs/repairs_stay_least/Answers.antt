use Rattle.schedules.proofs.Repairs.{lag_asks_more, repaired_inside, repaired_least}
use Rattle.schedules.proofs.repairs_stay_least.Goals as goal

pub returns : goal.returns
returns c = record { asks_more = lag_asks_more; least = repaired_least; inside = repaired_inside }
