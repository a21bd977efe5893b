use Rattle.std.proofs.Common.{arith}
use Rattle.marks.proofs.Turning.{all_opposite_at}
use Rattle.marks.proofs.turned.opposites.Goals as goal

pub returns : goal.returns
returns c =
    all_opposite_at c.args.parts.now c.loop-i.turned (omega arith) (λ k h. c.loop-i.invariant.1 k (omega arith))
