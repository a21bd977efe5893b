-- Something is not nothing, and what is there is the same on both sides.
use Rattle.std.proofs.Common.{◌≡◌, ℕ, Some, None, Option, refl, arith}
use Rattle.rows.specs.MaxPlus.{both}
use Rattle.rows.specs.Rows.{Row}

pub none_or_some : {A : Type 0} {Q : Type 0} (q : A) → None ≡ Some q → Q
none_or_some q e = absurd (let z : ◌≡◌ {A = ℕ} 0 1 = cc in omega arith)

pub same_some : {A : Type 0} (x y : A) → Some x ≡ Some y → x ≡ y
same_some x y e = cc

-- what is made of both has them
pub both_some : (f : Row → Row → Row) (x y : Option Row) (q : Row) → both f x y ≡ Some q → (a : Row) × (b : Row) × (x ≡ Some a) × (y ≡ Some b) × (f a b ≡ q)
both_some f None y q e = none_or_some q e
both_some f (Some a) None q e = none_or_some q e
both_some f (Some a) (Some b) q e = (a, b, refl, refl, same_some (f a b) q e)
