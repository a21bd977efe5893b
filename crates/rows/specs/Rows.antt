-- Rows of whole numbers: what a lag and a total mean.
use Rattle.std.specs.Prelude.{◌≡◌, ℕ, zero, suc, Bool, true, ◌&&◌, ◌⊎◌, List, [], ◌∷◌, ℤ, pos, ◌+ℤ◌, neg_ℤ, ◌≤ℤ◌, ◌<ℤ◌, int_le}

abbrev pub Row : Type 0
Row = List ℤ

abbrev pub zeros : ℕ → Row
zeros zero = []
zeros (suc w) = pos 0 ∷ zeros w

-- part by part
abbrev pub plus : Row → Row → Row
plus [] ys = []
plus (x ∷ xs) [] = []
plus (x ∷ xs) (y ∷ ys) = (x +ℤ y) ∷ plus xs ys

-- every sign changed
abbrev pub negated : Row → Row
negated [] = []
negated (x ∷ xs) = neg_ℤ x ∷ negated xs

abbrev pub minus : Row → Row → Row
minus x y = plus x (negated y)

-- the first part that differs decides
abbrev pub Before : Row → Row → Type 0
Before [] ys = ⊥
Before (x ∷ xs) [] = ⊥
Before (x ∷ xs) (y ∷ ys) = (x <ℤ y) ⊎ ((x ≡ y) × Before xs ys)

abbrev pub NotBefore : Row → Row → Type 0
NotBefore x y = Before x y → ⊥

-- no part is beyond the limit either way
abbrev pub Within : ℕ → Row → Type 0
Within limit [] = Unit {0}
Within limit (x ∷ xs) = ((neg_ℤ (pos limit) ≤ℤ x) × (x ≤ℤ pos limit)) × Within limit xs

-- the same as a test: of one number, and of every part
abbrev pub bounded : ℕ → ℤ → Bool
bounded limit x = int_le (neg_ℤ (pos limit)) x && int_le x (pos limit)

abbrev pub inside : ℕ → Row → Bool
inside limit [] = true
inside limit (x ∷ xs) = bounded limit x && inside limit xs
