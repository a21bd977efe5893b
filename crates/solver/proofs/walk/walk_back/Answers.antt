use Rattle.std.proofs.Common.{arith}
use Rattle.solver.proofs.Backing.{apart_more, has_before, has_more, holds_more, met_at, next_in}
use Rattle.solver.proofs.walk.walk_back.Goals as goal

pub find_on-requires-clause-event : goal.find_on-requires-clause-event
find_on-requires-clause-event c =
    omega (arith, next_in _ _ _ _ c.loop-last.last _ (omega arith) (omega arith) (omega arith) c.loop-last.invariant.0 c.from-from.ensures _ c.requires.leads)

pub find_on-requires-clause-met : goal.find_on-requires-clause-met
find_on-requires-clause-met c =
    has_before _ _ _ _ c.loop-last.last _ (omega arith) (omega arith) (omega arith) c.loop-last.invariant.0 c.from-from.ensures _ c.loop-last.invariant.2

pub returns-in-Some : goal.returns-in-Some
returns-in-Some c =
    met_at _ _ _ _ c.loop-last.last _ (omega arith) (omega arith) (omega arith) c.loop-last.invariant.0 c.from-from.ensures c.loop-last.invariant.1 _ c.in-Some.ensures

pub with_event-met-requires-in-loop-last : goal.with_event-met-requires-in-loop-last
with_event-met-requires-in-loop-last c =
    omega (arith, next_in _ _ _ _ c.loop-last.last _ (omega arith) (omega arith) (omega arith) c.loop-last.invariant.0 c.from-from.ensures _ c.requires.leads)

pub loop-last-preserved : goal.loop-last-preserved
loop-last-preserved c = (
  λ i le. holds_more _ _ _ _ c.loop-last.last _ (omega arith) (omega arith) (omega arith) c.loop-last.invariant.0 c.from-from.ensures i (omega arith),
  apart_more _ _ _ _ c.loop-last.last _ (omega arith) (omega arith) (omega arith) c.loop-last.invariant.0 c.from-from.ensures c.loop-last.invariant.1 c.in_default.ensures,
  has_more _ _ _ _ c.loop-last.last _ (omega arith) (omega arith) (omega arith) c.loop-last.invariant.0 c.from-from.ensures _ c.loop-last.invariant.2 _ c.with_event-met-in-loop-last.ensures,
)

pub returns-in_default : goal.returns-in_default
returns-in_default c i j lt le =
    apart_more _ _ _ _ c.loop-last.last _ (omega arith) (omega arith) (omega arith) c.loop-last.invariant.0 c.from-from.ensures c.loop-last.invariant.1 c.in_default.ensures i j lt (omega arith)
