use Rattle.std.proofs.Common.{rules}
use Rattle.solver.proofs.Raising.{beats_is, is_lt_before}
use Rattle.solver.proofs.rounds.is_after.Goals as goal

pub returns : goal.returns
returns g c = beats_is g.K.Mark.row _ _ _ _ (λ x q. search (rules, is_lt_before)) c.is_none_or.ensures
