-- The max-plus algebra on optional rows: an absent row is neutral for the later of two and absorbs
-- in a sum.
use Rattle.std.specs.Prelude.{ℕ, zero, suc, Bool, true, false, cond, [], ◌∷◌, Some, None, Option, int_lt}
use Rattle.rows.specs.Rows.{Row, plus, minus}

-- whether a row is before another: the first part that differs decides
abbrev pub before : Row → Row → Bool
before [] ys = false
before (x ∷ xs) [] = false
before (x ∷ xs) (y ∷ ys) = cond (int_lt x y) true (cond (int_lt y x) false (before xs ys))

abbrev pub later_of : Row → Row → Row
later_of x y = cond (before x y) y x

abbrev pub earlier_of : Row → Row → Row
earlier_of x y = cond (before x y) x y

-- of two optional rows: the one that is there, or where both are, what f makes of them
abbrev pub either : (Row → Row → Row) → Option Row → Option Row → Option Row
either f None y = y
either f (Some x) None = Some x
either f (Some x) (Some y) = Some (f x y)

-- what f makes of both, where both are there
abbrev pub both : (Row → Row → Row) → Option Row → Option Row → Option Row
both f None y = None
both f (Some x) None = None
both f (Some x) (Some y) = Some (f x y)

-- ⊕
abbrev pub later : Option Row → Option Row → Option Row
later x y = either later_of x y

-- its mirror
abbrev pub earlier : Option Row → Option Row → Option Row
earlier x y = either earlier_of x y

-- ⊗
abbrev pub added : Option Row → Option Row → Option Row
added x y = both plus x y

-- its undoing
abbrev pub taken : Option Row → Option Row → Option Row
taken x y = both minus x y

-- f 0, f 1, .., f (n - 1), joined to a by op, one after the other
abbrev pub folded : (Option Row → Option Row → Option Row) → Option Row
    → ℕ → (ℕ → Option Row) → Option Row
folded op a zero f = a
folded op a (suc k) f = op (folded op a k f) (f k)
