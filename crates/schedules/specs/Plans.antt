-- What a plan's lags ask of its events: schedules, chains and loops, the least and the greatest
-- time of an event.
use Rattle.std.specs.Prelude.{◌≡◌, ℕ, ◌<◌, Bool, cond, ◌&&◌, ◌⊎◌, List, [], ◌∷◌, length, Some, None, Option, ◌==◌, ◌≢◌}
use Rattle.rows.specs.Rows.{Row, zeros, plus, Before, NotBefore, Within}

-- The amount that stands to an event (first) from another (second), if a lag stands there.
-- L v u ≡ Some a: v comes at least a after u.
abbrev pub Lags : Type 0
Lags = ℕ → ℕ → Option Row

-- the totals of the events, where known
abbrev pub Totals : Type 0
Totals = ℕ → Option Row

-- the first is at least the second: where that is known, the first is known too, and not before it
abbrev pub AtLeast : Option Row → Option Row → Type 0
AtLeast p None = Unit {0}
AtLeast None (Some y) = ⊥
AtLeast (Some x) (Some y) = NotBefore x y

-- every one of m events has a total
abbrev pub AllKnown : ℕ → Totals → Type 0
AllKnown m S = (v : ℕ) → v < m → S v ≢ None

-- the same lags, each the other way round
abbrev pub reversed : Lags → Lags
reversed L v u = L u v

-- the lags L with a to v from u in stead of what stood there
abbrev pub with_lag : Lags → ℕ → ℕ → Row → Lags
with_lag L v u a t s = cond (t == v && s == u) (Some a) (L t s)

-- those of the lags L that lead into a set of events
abbrev pub lags_into : (ℕ → Bool) → Lags → Lags
lags_into inside L v u = cond (inside v) (L v u) None

-- every amount between the first m events has w parts
abbrev pub Wide : ℕ → ℕ → Lags → Type 0
Wide w m L = (v u : ℕ) (a : Row) → v < m → u < m → L v u ≡ Some a → length a ≡ w

-- totals as a matrix of which each column is they: `Wide w m (columns x)` says that every known
-- total of m events has w parts
abbrev pub columns : Totals → Lags
columns x v u = x v

-- no part of an amount is beyond b either way
abbrev pub Limited : ℕ → ℕ → Lags → Type 0
Limited b m L = (v u : ℕ) (a : Row) → v < m → u < m → L v u ≡ Some a → Within b a

-- Times x for m events keep every lag.
pub record KeepsLags (w m : ℕ) (L : Lags) (x : ℕ → Row) : Type 0 where
  pub wide : (v : ℕ) → v < m → length (x v) ≡ w
  pub keeps : (v u : ℕ) (a : Row) → v < m → u < m → L v u ≡ Some a
      → NotBefore (x v) (plus (x u) a)

-- Times that keep every lag, with the opening, event 0, at zero.
pub record Schedule (w m : ℕ) (L : Lags) (x : ℕ → Row) : Type 0 where
  pub keeping : KeepsLags w m L x
  pub opens : x 0 ≡ zeros w

abbrev pub Schedulable : ℕ → ℕ → Lags → Type 0
Schedulable w m L = (x : ℕ → Row) × Schedule w m L x

-- r is the time of event e in some schedule, and no schedule has e before r.
pub record Earliest (w m : ℕ) (L : Lags) (e : ℕ) (r : Row) : Type 0 where
  pub attained : (x : ℕ → Row) × (Schedule w m L x × (x e ≡ r))
  pub least : (x : ℕ → Row) → Schedule w m L x → NotBefore (x e) r

-- Before every row of the width some schedule has e.
abbrev pub FreeBelow : ℕ → ℕ → Lags → ℕ → Type 0
FreeBelow w m L e =
    (r : Row) → length r ≡ w → (x : ℕ → Row) × (Schedule w m L x × Before (x e) r)

-- r is the time of event e in some schedule, and no schedule has e after r.
pub record Latest (w m : ℕ) (L : Lags) (e : ℕ) (r : Row) : Type 0 where
  pub attained : (x : ℕ → Row) × (Schedule w m L x × (x e ≡ r))
  pub greatest : (x : ℕ → Row) → Schedule w m L x → NotBefore r (x e)

-- After every row of the width some schedule has e.
abbrev pub FreeAbove : ℕ → ℕ → Lags → ℕ → Type 0
FreeAbove w m L e =
    (r : Row) → length r ≡ w → (x : ℕ → Row) × (Schedule w m L x × Before r (x e))

-- A chain of lags leads from u to v over the events listed, and its amounts add up to r.
abbrev pub Chain : ℕ → Lags → ℕ → List ℕ → ℕ → Row → Type 0
Chain m L u [] v r = (u < m) × (v < m) × (L v u ≡ Some r)
Chain m L u (t ∷ es) v r =
    (a : Row) × (b : Row) × (u < m) × (L t u ≡ Some a) × Chain m L t es v b × (r ≡ plus a b)

-- a chain of lags leads from u to v
abbrev pub Reaches : ℕ → Lags → ℕ → ℕ → Type 0
Reaches m L u v = (es : List ℕ) × (r : Row) × Chain m L u es v r

abbrev pub Has : ℕ → List ℕ → Type 0
Has e [] = ⊥
Has e (x ∷ xs) = (e ≡ x) ⊎ Has e xs

abbrev pub Distinct : List ℕ → Type 0
Distinct [] = Unit {0}
Distinct (x ∷ xs) = (Has x xs → ⊥) × Distinct xs

abbrev pub AllAbove : ℕ → List ℕ → Type 0
AllAbove e [] = Unit {0}
AllAbove e (x ∷ xs) = (e < x) × AllAbove e xs

-- Distinct events, lowest first, each joined to the next and the last to the first, whose amounts
-- add up to more than zero.
abbrev pub Loop : ℕ → ℕ → Lags → List ℕ → Type 0
Loop w m L [] = ⊥
Loop w m L (e ∷ es) =
    AllAbove e es × Distinct es × ((r : Row) × (Chain m L e es e r × Before (zeros w) r))

-- none of the lists of events is a loop
abbrev pub LoopFree : ℕ → ℕ → Lags → Type 0
LoopFree w m L = (es : List ℕ) → Loop w m L es → ⊥
