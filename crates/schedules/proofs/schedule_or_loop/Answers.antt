use Rattle.schedules.proofs.Chains.{schedule_not_loop}
use Rattle.schedules.proofs.Settled.{settled_schedule}
use Rattle.schedules.proofs.Changes.{schedule_or_loop}
use Rattle.schedules.proofs.schedule_or_loop.Goals as goal

pub returns : goal.returns
returns c = record { one = schedule_or_loop; never_both = schedule_not_loop; settled = settled_schedule }
