use Rattle.std.proofs.Common.{◌≡◌, ◌<◌, length, IfSome}
use Rattle.bench.proofs.making.draw_loop.Given as goal

abbrev pub invariant-loop-event : goal.invariant-loop-event
invariant-loop-event l = (length l.table ≡ 3969) × IfSome l.ends (λ p. (p.0 < 63) × (p.1 < 63))
