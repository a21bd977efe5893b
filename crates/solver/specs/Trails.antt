-- The walk back over the events that totals came from, and the loop that it closes.
use Rattle.std.specs.Prelude.{◌≡◌, ℕ, zero, suc, ◌+◌, ◌-◌, ◌<◌, ◌≤◌, List, [], ◌++◌, take, drop, length, reverse, Some, None, Option, ◌≢◌, slice_index, slice_index_or}
use Rattle.std.specs.Int.{bit_at}
use Rattle.schedules.specs.Walks.{Apart, backs, walk}

-- The events that totals came from are kept round by round, a row for each.
abbrev pub from_in : List (List ℕ) → ℕ → ℕ → ℕ
from_in sources zero v = 0
from_in sources (suc k) v = slice_index (slice_index_or sources k []) v

-- The walk back from v over n rounds.
abbrev pub back : ℕ → List (List ℕ) → ℕ → ℕ → ℕ
back n sources v = walk (from_in sources) n v

-- It leads over m events only.
abbrev pub Leads : ℕ → ℕ → (ℕ → ℕ) → Type 0
Leads m n p = (i : ℕ) → i ≤ n → p i < m

-- what stands on the path
abbrev pub on : List ℕ → ℕ → ℕ
on path i = slice_index path i

-- A place of the event, or none.
abbrev pub FoundOn : List ℕ → ℕ → Option ℕ → Type 0
FoundOn es e None = (i : ℕ) → i < length es → on es i ≢ e
FoundOn es e (Some c) = (c < length es) × (on es c ≡ e)

-- Every event of the path is in the word.
abbrev pub HasAll : ℕ → List ℕ → Type 0
HasAll word path = (i : ℕ) → i < length path → bit_at word (on path i) ≡ 1

-- p d is p c, within n rounds, and those before p d are all different.
pub record MetTwice (n : ℕ) (p : ℕ → ℕ) (c d : ℕ) : Type 0 where
  pub order : c < d
  pub short : d ≤ n
  pub same : p c ≡ p d
  pub apart : Apart p d

-- The path has the events met.
abbrev pub Holds : List ℕ → (ℕ → ℕ) → ℕ → Type 0
Holds path p d = (i : ℕ) → i ≤ d → on path i ≡ p i

-- The path has the walk up to an event that is met twice, at these places.
pub record Met (n : ℕ) (p : ℕ → ℕ) (path : List ℕ) (c d : ℕ) : Type 0 where
  pub twice : MetTwice n p c d
  pub holds : Holds path p d

-- The place has the lowest of the events.
abbrev pub LowestAt : List ℕ → ℕ → Type 0
LowestAt es lo =
    (lo < length es) × ((j : ℕ) → j < length es → slice_index es lo ≤ slice_index es j)

-- a list that begins at its place lo, and goes on at its start
abbrev pub rotated : ℕ → List ℕ → List ℕ
rotated lo es = drop lo es ++ take lo es

-- The first places of the row have the events backwards, rotated so that their lowest is first, and
-- the others are as they were.
pub record CircledIn (es row after : List ℕ) : Type 0 where
  pub low : ℕ
  pub lowest : 0 < length es → LowestAt (reverse es) low
  pub events : take (length es) after ≡ rotated low (reverse es)
  pub rest : drop (length es) after ≡ drop (length es) row

-- The first places of the row have the events p d, .., p (c + 1), rotated so that p low is first,
-- and the others are as they were.
pub record RotatedIn (p : ℕ → ℕ) (c d low : ℕ) (row after : List ℕ) : Type 0 where
  pub events : take (d - c) after ≡ rotated (d - low) (backs p c (d - c))
  pub rest : drop (d - c) after ≡ drop (d - c) row

-- So they have a closed part of the walk p over n rounds, its lowest event first.
pub record ClosedPartIn
    (n : ℕ) (p : ℕ → ℕ) (row after : List ℕ) (len : ℕ)
    : Type 0 where
  pub first : ℕ
  pub last : ℕ
  pub low : ℕ
  pub met : MetTwice n p first last
  pub size : len ≡ last - first
  pub after_first : first < low
  pub to_last : low ≤ last
  pub least : (i : ℕ) → first < i → i ≤ last → p low ≤ p i
  pub rotated_in : RotatedIn p first last low row after

-- A closed part of that length in the first places of the row; or the walk meets no event twice,
-- and the row is as it was.
abbrev pub PartSought : ℕ → (ℕ → ℕ) → List ℕ → List ℕ → Option ℕ → Type 0
PartSought n p row after None = Apart p (n + 1) × (after ≡ row)
PartSought n p row after (Some len) = ClosedPartIn n p row after len
