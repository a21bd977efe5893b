-- Words of the places of a table that hold something.
use Rattle.std.specs.Prelude.{◌≡◌, ℕ, suc, ◌+◌, ◌*◌, ◌<◌, ◌↔◌, List, None, Option, ◌≢◌, slice_index_or}
use Rattle.std.specs.Int.{bit_at}

-- Bit j of the word tells whether the j-th after the k-th of n places holds something. The places
-- lie a step apart, from the first on.
abbrev pub HeldFrom : {A : Type 0} → List (Option A) → (n first step k word : ℕ) → Type 0
HeldFrom places n first step k word =
    (j : ℕ) → (bit_at word j ≡ 1)
    ↔ ((k + j < n) × (slice_index_or places (first + (k + j) * step) None ≢ None))

-- The lowest bit of the word after tells whether the place holds something, and above it stand the
-- bits of the word, but for the highest.
abbrev pub PutBefore : {A : Type 0} → Option A → (word after : ℕ) → Type 0
PutBefore place word after =
    ((bit_at after 0 ≡ 1) ↔ (place ≢ None))
    × ((j : ℕ) → j < 63 → bit_at after (suc j) ≡ bit_at word j)

-- Bit k of the word tells whether the k-th of n places holds something. The places lie a step
-- apart, from the first on.
abbrev pub Held : {A : Type 0} → List (Option A) → (n first step word : ℕ) → Type 0
Held places n first step word =
    (k : ℕ)
    → (bit_at word k ≡ 1) ↔ ((k < n) × (slice_index_or places (first + k * step) None ≢ None))
