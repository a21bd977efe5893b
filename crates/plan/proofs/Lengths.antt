-- Rows that are long enough, by the test and by what it means.
use Rattle.std.proofs.Common.{◌≡◌, ℕ, false, List, [], ◌∷◌, arith}
use Rattle.std.proofs.lemmas.Bool.{or_parts}
use Rattle.std.proofs.lemmas.Bool.Decides.{nat_tests}
use Rattle.std.specs.List.{list_any}
use Rattle.std.specs.Prelude.{nat_lt}
use Rattle.plan.specs.Checks.{LongEnough}

pub long_enough : (m : ℕ) (rows : List ℕ) → list_any (λ len. nat_lt len m) rows ≡ false → LongEnough m rows
long_enough m [] h = tt
long_enough m (row ∷ rows) h =
    let p = or_parts (nat_lt row m) (list_any (λ len. nat_lt len m) rows) h in
    let first : nat_lt row m ≡ false = p.0 in
    (grind (arith, nat_tests), long_enough m rows p.1)
