-- Turning twice.
use Rattle.std.proofs.Common.{◌≡◌, Some, None, Option, sym, ap, ◌∙◌, subst, subst₂}
use Rattle.rows.specs.Rows.{Row, plus, minus, Within}
use Rattle.rows.specs.Limits.{total_limit}
use Rattle.marks.specs.declared.kind.Mark.{Ghosts}
use Rattle.marks.specs.declared.turned.Turned.{Turned}
use Rattle.marks.specs.Meaning.{TotalOf, Ranked}
use Rattle.marks.specs.Twice.{restored, TurningTwice}

-- the second kind's totals mean what the totals inside them mean, and so do its lags
module _ {T L : Type 0} (kind : Ghosts T L) (turned : Ghosts (Turned (Turned T)) L) (means : (total : Turned (Turned T)) → turned.row total ≡ kind.row total.inner.inner) (same : (lag : L) → turned.amount lag ≡ kind.amount lag) where
  pub total_twice : (x y : Row) (r : Option (Turned (Turned T))) → x ≡ y → TotalOf turned.row x r → TotalOf kind.row y (restored r)
  total_twice x y (Some total) e h = (subst (Within total_limit) e h.0, sym (means total) ∙ h.1 ∙ e)
  total_twice x y None e h = λ k. h (subst (Within total_limit) (sym e) k)

  pub turning_twice : TurningTwice kind turned
  turning_twice = record {
    meaning = λ total. means _;
    add = λ total lag r h. total_twice _ _ r (ap (plus (turned.row _)) (same lag) ∙ ap (λ (x : Row). plus x (kind.amount lag)) (means _)) h;
    take = λ total lag r h. total_twice _ _ r (ap (minus (turned.row _)) (same lag) ∙ ap (λ (x : Row). minus x (kind.amount lag)) (means _)) h;
    order = λ x y r h. subst₂ (λ (a b : Row). Ranked a b r) (means _) (means _) h;
  }
