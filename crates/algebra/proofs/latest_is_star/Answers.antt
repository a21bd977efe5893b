use Rattle.algebra.proofs.Stars.{transposed_star, greatest_entry}
use Rattle.algebra.proofs.latest_is_star.Goals as goal

pub returns : goal.returns
returns c = λ w m A wide first p. record {
  star = transposed_star w m A wide first p;
  latest = λ S some is. greatest_entry w m A S wide some first p is;
}
