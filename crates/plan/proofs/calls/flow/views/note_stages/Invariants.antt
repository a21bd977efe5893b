use Rattle.plan.specs.FlowSteps.{StagesNoted}
use Rattle.plan.proofs.calls.flow.views.note_stages.Given as goal

abbrev pub invariant-loop-k : goal.invariant-loop-k
invariant-loop-k l = StagesNoted l.k l.to l.from l.fn.standing l.standing
