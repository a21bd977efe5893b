use Rattle.std.proofs.Common.{arith}
use Rattle.plan.proofs.FlowWords.{none_noted, noted_more}
use Rattle.plan.proofs.calls.flow.views.note_stages.Goals as goal

pub loop-k-init : goal.loop-k-init
loop-k-init c = none_noted c.args.to c.args.from c.args.standing.now

pub loop-k-preserved : goal.loop-k-preserved
loop-k-preserved c =
    noted_more c.args.to c.args.from c.loop-k.k c.args.standing.now c.loop-k.standing c.note_lag.new.standing c.note_lag.ensures (omega (arith, c.note_lag.array_long, c.requires.few, c.requires.from)) c.loop-k.invariant
