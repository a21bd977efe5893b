use Rattle.std.proofs.Common.{◌≡◌, length}
use Rattle.bench.proofs.making.draw_lags.Given as goal

abbrev pub invariant-loop-place : goal.invariant-loop-place
invariant-loop-place l = length l.table ≡ 3969
