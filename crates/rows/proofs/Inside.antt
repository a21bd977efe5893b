-- The computed tests, from what they mean.
use Rattle.std.proofs.Common.{◌≡◌, ℕ, true, false, ◌⊎◌, [], ◌∷◌, ℤ, pos, neg_ℤ, ◌≤ℤ◌, refl, inl, inr, arith}
use lib.Signed.{le_z}
use Rattle.std.proofs.lemmas.Int.{ints}
use Rattle.std.proofs.lemmas.Bool.{and_from, cases_Bool}
use Rattle.rows.specs.MaxPlus.{before}
use Rattle.rows.specs.Rows.{Row, Before, Within, bounded, inside}
use Rattle.rows.proofs.Tests.{before_false}

bounded_from : (limit : ℕ) (x : ℤ) → (neg_ℤ (pos limit) ≤ℤ x) × (x ≤ℤ pos limit) → bounded limit x ≡ true
bounded_from limit x h =
    let low : neg_ℤ (pos limit) ≤ℤ x = h.0 in
    let high : x ≤ℤ pos limit = h.1 in
    and_from (le_z (neg_ℤ (pos limit)) x) (le_z x (pos limit)) (grind (arith, ints)) (grind (arith, ints))

pub inside_from : (limit : ℕ) (x : Row) → Within limit x → inside limit x ≡ true
inside_from limit [] h = refl
inside_from limit (a ∷ x) h = and_from (bounded limit a) (inside limit x) (bounded_from limit a h.0) (inside_from limit x h.1)

pub before_from : (x y : Row) → Before x y → before x y ≡ true
before_from x y h = go (cases_Bool (before x y))
  where
    go : (before x y ≡ true) ⊎ (before x y ≡ false) → before x y ≡ true
    go (inl e) = e
    go (inr e) = absurd (before_false x y e h)
