-- Rows of one part, as numbers.
use Rattle.std.proofs.Common.{◌≡◌, [], ◌∷◌, length, ℤ, pos, ◌+ℤ◌, ◌≤ℤ◌, ◌<ℤ◌, Some, None, Option, sym, refl, ap, ◌∙◌, subst, subst₂, inl, inr, arith}
use Rattle.std.proofs.lemmas.Int.{ints, by_lt_z}
use Rattle.rows.specs.MaxPlus.{added}
use Rattle.rows.specs.Rows.{Row, zeros, plus, Before, NotBefore}
use Rattle.rows.proofs.Options.{none_or_some, same_some, both_some}
use Rattle.schedules.specs.Minutes.{minute}

pub one_part : (r : Row) → length r ≡ 1 → r ≡ minute (Some r) ∷ []
one_part [] e = absurd (omega arith)
one_part (z ∷ []) e = refl
one_part (z ∷ y ∷ zs) e = absurd (omega arith)

-- an optional row that is there
pub there : (o : Option Row) (r : Row) → o ≡ Some r → length r ≡ 1 → o ≡ Some (minute o ∷ [])
there None r e h = none_or_some r e
there (Some q) r e h = ap Some (one_part q (ap length (same_some q r e) ∙ h))

pub from_not_before : (a b : ℤ) → NotBefore (a ∷ []) (b ∷ []) → b ≤ℤ a
from_not_before a b h = by_lt_z a b (λ l. absurd (h (inl l))) (λ l. l)

pub to_not_before : (a b : ℤ) → b ≤ℤ a → NotBefore (a ∷ []) (b ∷ [])
to_not_before a b h (inl l) = omega (arith, ints)
to_not_before a b h (inr p) = p.1

-- so with their minutes

pub minute_from : (r s : Row) → length r ≡ 1 → length s ≡ 1 → NotBefore r s → minute (Some s) ≤ℤ minute (Some r)
minute_from r s d e h = from_not_before (minute (Some r)) (minute (Some s)) (subst₂ NotBefore (one_part r d) (one_part s e) h)

pub minute_to : (r s : Row) → length r ≡ 1 → length s ≡ 1 → minute (Some s) ≤ℤ minute (Some r) → NotBefore r s
minute_to r s d e h = subst₂ NotBefore (sym (one_part r d)) (sym (one_part s e)) (to_not_before (minute (Some r)) (minute (Some s)) h)

pub minute_after : (r : Row) → length r ≡ 1 → Before (zeros 1) r → pos 0 <ℤ minute (Some r)
minute_after r e h = go (minute (Some r)) (subst (Before (zeros 1)) (one_part r e) h)
  where
    go : (z : ℤ) → Before (zeros 1) (z ∷ []) → pos 0 <ℤ z
    go z (inl l) = l
    go z (inr p) = absurd p.1

pub minute-plus : (r s : Row) → length r ≡ 1 → length s ≡ 1 → minute (Some (plus r s)) ≡ minute (Some r) +ℤ minute (Some s)
minute-plus r s d e = ap (λ (q : Row). minute (Some (plus q s))) (one_part r d) ∙ ap (λ (q : Row). minute (Some (plus (minute (Some r) ∷ []) q))) (one_part s e)

pub same_part : (a b : ℤ) → ◌≡◌ {A = Option Row} (Some (a ∷ [])) (Some (b ∷ [])) → a ≡ b
same_part a b e = cc

-- a sum of one part
pub added_one : (o p : Option Row) (t : ℤ) (q : Row) → o ≡ Some (t ∷ []) → ((b : Row) → p ≡ Some b → length b ≡ 1) → added o p ≡ Some q → (a : ℤ) × (p ≡ Some (a ∷ [])) × (q ≡ (t +ℤ a) ∷ [])
added_one o p t q at wide e =
    let s = both_some plus o p q e in
    let b = one_part s.1 (wide s.1 s.3) in
    let first : s.0 ≡ t ∷ [] = same_some s.0 (t ∷ []) (sym s.2 ∙ at) in
    (minute (Some s.1), s.3 ∙ ap Some b, sym s.4 ∙ ap (λ (r : Row). plus r s.1) first ∙ ap (plus (t ∷ [])) b)
