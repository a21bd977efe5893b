-- A start moved by a distance: the sum fits its type, and the total is made.
use Rattle.std.proofs.Common.{◌≡◌, ℕ, ◌+◌, ◌-◌, ◌^◌, ◌<◌, min, [], ◌∷◌, ℤ, pos, negsuc, Some, None, Option, sym, ap, arith, w64, SFits}
use Rattle.std.proofs.lemmas.Int.{ints}
use Rattle.std.specs.Int.{saturate_signed}
use Rattle.std.specs.Option.{option_map}
use Rattle.rows.specs.Limits.{total_limit}
use Rattle.rows.specs.Rows.{Row, Within}
use Rattle.rows.proofs.Limits.{relations}
use Rattle.marks.specs.Meaning.{TotalMade}

-- a part of a total fits its type
pub Within-fits : (z : ℤ) → Within total_limit (z ∷ []) → SFits w64 z
Within-fits (pos n) h = let far : total_limit + total_limit < 2 ^ 62 = relations.machine in let high = h.0.1 in record { sfits = omega (arith, ints) }
Within-fits (negsuc n) h = let far : total_limit + total_limit < 2 ^ 62 = relations.machine in let low = h.0.0 in record { sfits = omega (arith, ints) }

pub not_saturated : (z : ℤ) → Within total_limit (z ∷ []) → saturate_signed w64 z ≡ z
not_saturated (pos n) h = let far : total_limit + total_limit < 2 ^ 62 = relations.machine in let high = h.0.1 in let e : min n (2 ^ 63 - 1) ≡ n = omega (arith, ints) in ap pos e
not_saturated (negsuc n) h = let far : total_limit + total_limit < 2 ^ 62 = relations.machine in let low = h.0.0 in let e : min n (2 ^ 63 - 1) ≡ n = omega (arith, ints) in ap negsuc e

-- the total with the one part z
pub made : {T : Type 0} (w : ℕ) (row : T → Row) (z : ℤ) (o : Option T) → w ≡ 1 → Within total_limit (z ∷ []) → TotalMade w row (z ∷ []) o → option_map row o ≡ Some (z ∷ [])
made w row z None e h n = absurd (n (sym e, h))
made w row z (Some t) e h m = ap Some m.1
