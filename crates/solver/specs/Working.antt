-- The rows that a solver works in.
use Rattle.std.specs.Prelude.{◌≡◌, ℕ, ◌≤◌, length}
use Rattle.solver.specs.declared.work.Work.{Work}

-- Each row has a place for each of m events.
abbrev pub HasRoom : {T : Type 0} → ℕ → Work T → Type 0
HasRoom m work = (m ≤ length work.totals.now) × (m ≤ length work.next.now)

-- They are the same two rows, each as long as it was, whatever stands in them.
abbrev pub SameRows : {T : Type 0} → Work T → Work T → Type 0
SameRows after work =
    (after.totals.ghost_name ≡ work.totals.ghost_name)
    × (after.next.ghost_name ≡ work.next.ghost_name)
    × (length after.totals.now ≡ length work.totals.now)
    × (length after.next.now ≡ length work.next.now)
