use Rattle.schedules.proofs.Rounds.{WideTotals-from}
use Rattle.algebra.proofs.Firsts.{least_product}
use Rattle.algebra.proofs.Stars.{kept_star, settled_product}
use Rattle.algebra.proofs.least_from_is_star.Goals as goal

pub returns : goal.returns
returns c = λ w m A b wide wide_b first x t. record {
  star = kept_star w m A wide first x t;
  settled = λ S is k e e_in f. settled_product w m A wide b (WideTotals-from w m b wide_b) S is k e e_in f;
  least = λ S some is. least_product w m A wide first b (WideTotals-from w m b wide_b) x t S some is;
}
