use Rattle.std.proofs.Common.{refl}
use Rattle.rows.proofs.Sums.{negated-negated}
use Rattle.marks.proofs.TurningTwice.{turning_twice}
use Rattle.marks.proofs.twice.turned_twice.Goals as goal

pub returns : goal.returns
returns g c =
    let every = turning_twice g.M.Mark _ (λ total. negated-negated (g.M.Mark.row total.inner.inner)) (λ lag. refl) in
    record { value = refl; meaning = every.meaning c.args.total; every = every }
