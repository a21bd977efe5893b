use Rattle.std.proofs.Common.{◌≡◌, ℕ, ◌<◌, None, slice_index_or}
use Rattle.solver.proofs.work.fill_totals.Given as goal

abbrev pub invariant-loop-place : goal.invariant-loop-place
invariant-loop-place g l = (v : ℕ) → v < l.place-index → slice_index_or l.place-items v None ≡ l.total
