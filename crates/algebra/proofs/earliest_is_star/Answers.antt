use Rattle.algebra.proofs.Stars.{star, least_entry}
use Rattle.algebra.proofs.earliest_is_star.Goals as goal

pub returns : goal.returns
returns c = λ w m A wide first p. record {
  star = star w m A wide first p;
  earliest = λ S some is. least_entry w m A wide first S some p is;
}
