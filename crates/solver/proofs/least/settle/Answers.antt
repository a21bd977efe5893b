use Rattle.schedules.proofs.Chains.{schedule_not_loop}
use Rattle.solver.proofs.Opening.{settled_least}
use Rattle.solver.proofs.least.settle.Goals as goal

pub unreachable-requires : goal.unreachable-requires
unreachable-requires g c = schedule_not_loop _ _ _ c.requires.schedule _ c.in-Some.ensures.ends.1

pub returns-clause-least : goal.returns-clause-least
returns-clause-least g c =
    settled_least _ _ _ (g.met.N.Network.sound c.args.net.now) g.met.N.Kind.Mark.wide_low c.requires.schedule _ c.in-None.ensures.ends.0.0 c.in-None.ensures.ends.0.1
