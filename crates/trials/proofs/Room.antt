-- Totals within the limit of given ones leave room for as many lags as there are events.
use Rattle.std.proofs.Common.{◌≡◌, ℕ, ◌+◌, ◌<◌, ◌≤◌, true, List, get_or, length, take, Some, None, Option, sym, ap, ◌∙◌, subst, inl, inr, arith}
use Rattle.std.proofs.lemmas.Bool.{cases_eq}
use Rattle.std.proofs.lemmas.List.{get_or-take, get_or_read, length-take-le}
use Rattle.std.specs.Option.{option_map}
use Rattle.rows.specs.Limits.{given_limit, lag_limit, most_events}
use Rattle.rows.specs.Rows.{Row, Within, inside}
use Rattle.rows.proofs.Limits.{relations, two_fit}
use Rattle.rows.proofs.Options.{none_or_some, same_some}
use Rattle.rows.proofs.Sums.{inside_true}
use Rattle.schedules.specs.Plans.{Totals}
use Rattle.schedules.specs.Tables.{times}
use Rattle.solver.specs.Settled.{LeavesRoom}

-- the totals of the first so many events are within the limit of given ones, where known
abbrev pub Near : ℕ → Totals → Type 0
Near n b = (v : ℕ) (r : Row) → v < n → b v ≡ Some r → Within given_limit r

pub near_leaves : (m : ℕ) → m ≤ most_events → (b : Totals) → Near m b → LeavesRoom lag_limit m b
near_leaves m few b near = record {
  bound = given_limit;
  within = λ v u r v_in u_in e. near v r v_in e;
  room = omega (arith, two_fit m few, relations.twice_fits);
}

module _ {T : Type 0} (row : T → Row) (m i : ℕ) (totals : List (Option T)) (near : Near i (times row totals)) (o : Option T) (inside_m : i < length (take m totals)) (m_in : m ≤ length totals) (read : o ≡ get_or (take m totals) i o) where
  at : times row totals i ≡ option_map row o
  at =
      let small : i < m = subst (λ (n : ℕ). i < n) (length-take-le m totals m_in) inside_m in
      ap (option_map row) (sym (get_or_read (take m totals) i o inside_m read None ∙ get_or-take m totals i None small))

  more : ((r : Row) → option_map row o ≡ Some r → Within given_limit r) → Near (i + 1) (times row totals)
  more this v r l e = elim (cases_eq v i) [
    | inl d ↦ this r (sym at ∙ ap (times row totals) (sym d) ∙ e)
    | inr n ↦ near v r (omega (arith, l, n)) e
  ]

  pub near_none : o ≡ None → Near (i + 1) (times row totals)
  near_none none = more (λ r e. none_or_some r (ap (option_map row) (sym none) ∙ e))

  pub near_some : (t : T) → o ≡ Some t → inside given_limit (row t) ≡ true → Near (i + 1) (times row totals)
  near_some t some test = more (λ r e. subst (Within given_limit) (same_some (row t) r (ap (option_map row) (sym some) ∙ e)) (inside_true given_limit (row t) test))
