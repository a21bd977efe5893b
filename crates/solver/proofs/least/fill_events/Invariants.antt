use Rattle.std.proofs.Common.{◌≡◌, ℕ, ◌<◌, Some, None, slice_index_or}
use Rattle.std.specs.Int.{bit_at}
use Rattle.solver.proofs.least.fill_events.Given as goal

abbrev pub invariant-loop-event : goal.invariant-loop-event
invariant-loop-event g l =
    (v : ℕ) → v < l.event → (bit_at l.word v ≡ 1 → slice_index_or l.place-items v None ≡ Some l.total) × (bit_at l.word v ≡ 0 → slice_index_or l.place-items v None ≡ None)
