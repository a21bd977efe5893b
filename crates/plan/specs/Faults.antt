-- What each fault of a plan names: the number and the layer of the check that was missed.
use Rattle.std.specs.Prelude.{ℕ}
use Rattle.marks.specs.declared.fault.Layer.{Layer}
use Rattle.marks.specs.declared.fault.Layer.TheVariants.{Plan}
use Rattle.marks.specs.Faults.{Refusal, mark_number, mark_layer}
use Rattle.plan.specs.declared.fault.PlanFault.{PlanFault}
use Rattle.plan.specs.declared.fault.PlanFault.TheVariants.{Stages, Table, Row, Event, Mark, Total, Unserved, Loop}

abbrev pub plan_number : PlanFault → ℕ
plan_number Stages = 3
plan_number Table = 4
plan_number Row = 5
plan_number Event = 9
plan_number (Mark fault) = mark_number fault
plan_number Total = 12
plan_number Unserved = 13
plan_number (Loop len) = 14

abbrev pub plan_layer : PlanFault → Layer
plan_layer Stages = Plan
plan_layer Table = Plan
plan_layer Row = Plan
plan_layer Event = Plan
plan_layer (Mark fault) = mark_layer fault
plan_layer Total = Plan
plan_layer Unserved = Plan
plan_layer (Loop len) = Plan

-- what a caller learns of the check that was missed
abbrev pub refusal_of : PlanFault → Refusal
refusal_of fault = record { number = plan_number fault; layer = plan_layer fault }
