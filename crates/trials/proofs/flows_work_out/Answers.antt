use Rattle.trials.proofs.WorkedFlows.{worked_flows}
use Rattle.trials.proofs.flows_work_out.Goals as goal

pub returns : goal.returns
returns c = worked_flows
