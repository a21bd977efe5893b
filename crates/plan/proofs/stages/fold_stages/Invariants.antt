use Rattle.plan.specs.Filling.{Chosen}
use Rattle.plan.proofs.stages.fold_stages.Given as goal

abbrev pub invariant-loop-k : goal.invariant-loop-k
invariant-loop-k g l = Chosen g.K.Mark.row (goal.C-post g l.choose) (goal.F-post g l.time_of) l.stages l.k l.chosen
