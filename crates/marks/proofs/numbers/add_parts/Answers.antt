use Rattle.std.proofs.Common.{ℤ, subst, arith}
use Rattle.std.proofs.lemmas.Int.{ints, to_z-of_z}
use Rattle.rows.specs.Limits.{total_limit}
use Rattle.marks.specs.Meaning.{NumberOf}
use Rattle.marks.proofs.Clamps.{sum_fits}
use Rattle.marks.proofs.numbers.add_parts.Goals as goal

pub returns : goal.returns
returns c =
    let fits = sum_fits c.args.total c.args.lag in
    subst (λ (z : ℤ). NumberOf total_limit z c.within.result) (grind (arith, ints, to_z-of_z)) c.within.ensures
