-- What the functions of a kind of mark answer, in terms of the rows that lags and totals mean.
use Rattle.std.specs.Prelude.{◌≡◌, ℕ, List, [], ◌∷◌, length, ℤ, pos, neg_ℤ, ◌≤ℤ◌, Ok, Err, Option, Result, slice_get}
use Rattle.std.specs.Int.{int_max, int_min}
use Rattle.std.specs.Option.{MatchOption}
use Rattle.std.specs.Ordering.{MatchOrdering}
use Rattle.std.specs.declared.cmp.Ordering.{Ordering}
use Rattle.rows.specs.Rows.{Row, Before, Within}
use Rattle.rows.specs.Limits.{lag_limit, total_limit}
use Rattle.marks.specs.declared.fault.MarkFault.{MarkFault}
use Rattle.marks.specs.declared.fault.Layer.TheVariants.{Mark}
use Rattle.marks.specs.Faults.{mark_refusal}

-- a stored number past a limit means the limit
abbrev pub clamped : ℕ → ℤ → ℤ
clamped limit z = int_max (neg_ℤ (pos limit)) (int_min z (pos limit))

-- the row that stored numbers mean
abbrev pub clamped_row : ℕ → List ℤ → Row
clamped_row limit [] = []
clamped_row limit (z ∷ zs) = clamped limit z ∷ clamped_row limit zs

-- the number is not beyond the limit, either way
abbrev pub Bounded : ℕ → ℤ → Type 0
Bounded limit x = (neg_ℤ (pos limit) ≤ℤ x) × (x ≤ℤ pos limit)

-- the numbers are the parts of a row of width w within the limit
abbrev pub Makes : ℕ → ℕ → List ℤ → Type 0
Makes w limit parts = (length parts ≡ w) × Within limit parts

-- the answer is a value as said where the condition holds, and nothing exactly where it does not
abbrev pub SomeExactlyIf : {T : Type 0} → Option T → Type 0 → (T → Type 0) → Type 0
SomeExactlyIf r condition Said = MatchOption r (condition → ⊥) (λ x. condition × Said x)

-- the lag with those parts, or fault 10 of the marks' layer exactly when there is none
abbrev pub LagMade : {L : Type 0} → ℕ → (L → Row) → List ℤ → Result L MarkFault → Type 0
LagMade w amount parts (Ok lag) = Makes w lag_limit parts × (amount lag ≡ parts)
LagMade w amount parts (Err fault) =
    (Makes w lag_limit parts → ⊥) × (mark_refusal fault ≡ record { number = 10; layer = Mark })

-- the total with those parts, or nothing exactly when there is none
abbrev pub TotalMade : {T : Type 0} → ℕ → (T → Row) → List ℤ → Option T → Type 0
TotalMade w row parts r = SomeExactlyIf r (Makes w total_limit parts) (λ t. row t ≡ parts)

-- the total that means the row x, or nothing exactly when a part of x is beyond the limit of totals
abbrev pub TotalOf : {T : Type 0} → (T → Row) → Row → Option T → Type 0
TotalOf row x r = SomeExactlyIf r (Within total_limit x) (λ t. row t ≡ x)

-- the number x, or nothing exactly when it is beyond the limit
abbrev pub NumberOf : ℕ → ℤ → Option ℤ → Type 0
NumberOf limit x r = SomeExactlyIf r (Bounded limit x) (λ y. y ≡ x)

-- how the row x stands to y: before it, the same, or after it
abbrev pub Ranked : Row → Row → Ordering → Type 0
Ranked x y r = MatchOrdering r (Before x y) (x ≡ y) (Before y x)

-- the numbered part of a row, counted from 0, and nothing from the width on
abbrev pub part_at : Row → ℕ → Option ℤ
part_at x i = slice_get x i
