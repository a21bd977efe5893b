use Rattle.schedules.proofs.Flows.{flows_lags}
use Rattle.schedules.proofs.flows_are_lags.Goals as goal

pub returns : goal.returns
returns c = flows_lags
