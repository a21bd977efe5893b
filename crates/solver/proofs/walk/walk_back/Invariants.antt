use Rattle.std.proofs.Common.{◌≡◌, ℕ, ◌-◌, ◌<◌}
use Rattle.std.specs.Int.{bit_at}
use Rattle.schedules.specs.Walks.{Apart}
use Rattle.solver.specs.Trails.{back, Holds}
use Rattle.solver.proofs.walk.walk_back.Given as goal

abbrev pub invariant-loop-last : goal.invariant-loop-last
invariant-loop-last l =
    Holds l.path (back l.rounds l.sources l.event) (l.last - 1) × Apart (back l.rounds l.sources l.event) l.last × ((i : ℕ) → i < l.last → bit_at l.met (back l.rounds l.sources l.event i) ≡ 1)
