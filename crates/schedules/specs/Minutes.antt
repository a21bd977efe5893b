-- Rows of one part.
use Rattle.std.specs.Prelude.{ℕ, [], ◌∷◌, ℤ, pos, Some, None, Option}
use Rattle.rows.specs.Rows.{Row}

-- so many minutes
abbrev pub minutes : ℕ → Row
minutes e = pos e ∷ []

-- the first part of a row, and 0 where there is none
abbrev pub minute : Option Row → ℤ
minute None = pos 0
minute (Some []) = pos 0
minute (Some (z ∷ zs)) = z
