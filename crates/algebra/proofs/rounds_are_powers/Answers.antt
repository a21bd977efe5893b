use Rattle.algebra.proofs.Stars.{opening_powers}
use Rattle.algebra.proofs.rounds_are_powers.Goals as goal

pub returns : goal.returns
returns c = opening_powers
