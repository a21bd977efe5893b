use Rattle.std.proofs.Common.{rules}
use Rattle.plan.specs.Passing.{lags_of}
use Rattle.plan.proofs.FlowWords.{reversed_flow_stands}
use Rattle.plan.proofs.calls.flow.views.FlowingReversedNetwork.stand.Goals as goal

pub returns : goal.returns
returns g c =
    let plan = c.args.self.now.plan in
    reversed_flow_stands plan.table.stages plan.table.count plan.flow (lags_of plan.table) plan.table.laid plan.table.few c.words_of-words.result c.note_stages.new.standing c.note_stages.ensures (search rules)
