-- Numbers with every sign changed.
use Rattle.std.specs.Prelude.{List, [], ◌∷◌, ℤ, neg_ℤ}
use Rattle.std.specs.Int.{saturate_to_bits}

-- as far as 64 bits hold the numbers
abbrev pub all_opposite : List ℤ → List ℤ
all_opposite [] = []
all_opposite (x ∷ xs) = saturate_to_bits 63 (neg_ℤ x) ∷ all_opposite xs
