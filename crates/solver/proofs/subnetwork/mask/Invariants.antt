use Rattle.std.proofs.Common.{◌≡◌, ℕ, ◌<◌, ◌≤◌, slice_index}
use Rattle.solver.specs.Words.{Shared}
use Rattle.solver.proofs.subnetwork.mask.Given as goal

abbrev pub invariant-loop-led_to : goal.invariant-loop-led_to
invariant-loop-led_to l =
    ((u : ℕ) → u < l.led_to-index → Shared (slice_index l.standing u) l.word (slice_index l.led_to-items u)) × ((u : ℕ) → l.led_to-index ≤ u → slice_index l.led_to-items u ≡ slice_index l.standing u)
