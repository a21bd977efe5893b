use Rattle.schedules.proofs.Rounds.{WideTotals-from}
use Rattle.algebra.proofs.Powers.{rounds_product}
use Rattle.algebra.proofs.rounds_are_products.Goals as goal

pub returns : goal.returns
returns c = λ w m A b wide wide_b. rounds_product w m A wide b (WideTotals-from w m b wide_b)
