-- Turning twice: totals turned twice mean, add, take and order as the totals themselves.
use Rattle.std.specs.Prelude.{◌≡◌, Option}
use Rattle.std.specs.Option.{option_map}
use Rattle.std.specs.declared.cmp.Ordering.{Ordering}
use Rattle.rows.specs.Rows.{plus, minus}
use Rattle.marks.specs.declared.kind.Mark.{Ghosts}
use Rattle.marks.specs.declared.turned.Turned.{Turned}
use Rattle.marks.specs.Meaning.{TotalOf, Ranked}

abbrev pub twice : {T : Type 0} → T → Turned (Turned T)
twice total = record { inner = record { inner = total } }

-- the total that was turned twice, where there is one
abbrev pub restored : {T : Type 0} → Option (Turned (Turned T)) → Option T
restored {T} r = option_map (λ (total : Turned (Turned T)). total.inner.inner) r

-- the promises of `add`, `take` and `order`
abbrev pub Added : {T L : Type 0} → Ghosts T L → T → L → Option T → Type 0
Added kind total lag r = TotalOf kind.row (plus (kind.row total) (kind.amount lag)) r

abbrev pub Taken : {T L : Type 0} → Ghosts T L → T → L → Option T → Type 0
Taken kind total lag r = TotalOf kind.row (minus (kind.row total) (kind.amount lag)) r

abbrev pub Ordered : {T L : Type 0} → Ghosts T L → T → T → Ordering → Type 0
Ordered kind x y r = Ranked (kind.row x) (kind.row y) r

-- a kind, and the kind of its totals turned twice
pub record TurningTwice {T L : Type 0} (kind : Ghosts T L) (turned : Ghosts (Turned (Turned T)) L)
    : Type 0 where
  pub meaning : (total : T) → turned.row (twice total) ≡ kind.row total
  pub add : (total : T) (lag : L) (r : Option (Turned (Turned T)))
      → Added turned (twice total) lag r → Added kind total lag (restored r)
  pub take : (total : T) (lag : L) (r : Option (Turned (Turned T)))
      → Taken turned (twice total) lag r → Taken kind total lag (restored r)
  pub order : (x y : T) (r : Ordering)
      → Ordered turned (twice x) (twice y) r → Ordered kind x y r
