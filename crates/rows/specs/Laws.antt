-- Rows of one width are an ordered abelian group.
use Rattle.std.specs.Prelude.{◌≡◌, ℕ, ◌+◌, ◌≤◌, true, ◌⊎◌, ◌↔◌, length}
use Rattle.rows.specs.MaxPlus.{before}
use Rattle.rows.specs.Rows.{Row, zeros, plus, negated, Before, NotBefore, Within, inside}

pub record OrderedGroup : Type 0 where
  -- sums, zeros and opposites of one width have that width
  pub sums : (w : ℕ) (x y : Row) → length x ≡ w → length y ≡ w → length (plus x y) ≡ w
  pub zero : (w : ℕ) → length (zeros w) ≡ w
  pub opposites : (w : ℕ) (x : Row) → length x ≡ w → length (negated x) ≡ w
  pub assoc : (x y z : Row) → plus (plus x y) z ≡ plus x (plus y z)
  pub comm : (x y : Row) → plus x y ≡ plus y x
  pub unit : (w : ℕ) (x : Row) → length x ≡ w → plus x (zeros w) ≡ x
  pub inverse : (w : ℕ) (x : Row) → length x ≡ w → plus x (negated x) ≡ zeros w
  pub irreflexive : (x : Row) → NotBefore x x
  pub transitive : (x y z : Row) → Before x y → Before y z → Before x z
  pub total : (x y : Row) → length x ≡ length y → Before x y ⊎ ((x ≡ y) ⊎ Before y x)
  pub monotone : (x y z : Row) → length x ≡ length z → Before x y → Before (plus x z) (plus y z)
  -- some row is after zero, where rows have any parts
  pub positive : (w : ℕ) → 1 ≤ w → (x : Row) × (length x ≡ w) × Before (zeros w) x

-- The computed tests say what the definitions say: that a row is before another, and that no part
-- is beyond a limit.
pub record TestsAgree : Type 0 where
  pub order : (x y : Row) → (before x y ≡ true) ↔ Before x y
  pub limit : (l : ℕ) (x : Row) → (inside l x ≡ true) ↔ Within l x

-- a sum of rows within two limits is within the sum of the limits
abbrev pub SumsWithin : Type 0
SumsWithin = (a b : ℕ) (x y : Row) → Within a x → Within b y → Within (a + b) (plus x y)
