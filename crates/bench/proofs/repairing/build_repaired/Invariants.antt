use Rattle.std.proofs.Common.{◌≡◌, length}
use Rattle.plan.specs.Repairing.{LeastFromZero}
use Rattle.marks.specs.contracts.minutes.MinutesMark.TheImpl.{ghosts as minutes}
use Rattle.bench.proofs.repairing.build_repaired.Given as goal

abbrev pub invariant-loop-place : goal.invariant-loop-place
invariant-loop-place l = (length l.built ≡ 3969) × LeastFromZero minutes 31 l.built l.standing l.rows.totals
