-- A rule of a constant table, proved at all of its entries by one computed test.
use Rattle.std.proofs.Common.{◌≡◌, ℕ, zero, suc, ◌+◌, ◌<◌, Bool, true, ◌&&◌, eqb, List, [], ◌∷◌, length, get_or, ap, ◌∙◌, arith}
use Rattle.std.proofs.lemmas.Bool.{eqb-true, and_parts}

-- the entries are rule i, rule (i + 1), ..
abbrev pub follows : (ℕ → ℕ) → ℕ → List ℕ → Bool
follows rule i [] = true
follows rule i (x ∷ xs) = eqb x (rule i) && follows rule (suc i) xs

from : (rule : ℕ → ℕ) (xs : List ℕ) (i : ℕ) → follows rule i xs ≡ true → (k : ℕ) → k < length xs → get_or xs k 0 ≡ rule (i + k)
from rule [] i t k h = absurd (omega arith)
from rule (x ∷ xs) i t zero h = eqb-true x (rule i) (and_parts (eqb x (rule i)) (follows rule (suc i) xs) t).0 ∙ ap rule (omega arith)
from rule (x ∷ xs) i t (suc k) h =
    from rule xs (suc i) (and_parts (eqb x (rule i)) (follows rule (suc i) xs) t).1 k (omega arith) ∙ ap rule (omega arith)

pub rule_at : (rule : ℕ → ℕ) (xs : List ℕ) → follows rule 0 xs ≡ true → (k : ℕ) → k < length xs → get_or xs k 0 ≡ rule k
rule_at rule xs t k h = from rule xs 0 t k h ∙ ap rule (omega arith)
