-- The checks of set, put together.
use Rattle.std.proofs.Common.{◌≡◌, ℕ, ◌*◌, ◌<◌, ◌≤◌, Bool, true, false, cond, ◌&&◌, eqb, ◌⊎◌, List, [], ◌∷◌, ◌++◌, length, max, Some, None, Option, sym, refl, ap, ◌∙◌, inl, inr, arith}
use Rattle.std.proofs.Math.Nat.{le-max_left, le-max_right}
use Rattle.std.proofs.lemmas.Bool.{and_from, and_parts, eq-eqb, eqb-true, not_from_true, not_from_false, cases_Bool, cond-true, cond-false}
use Rattle.rows.specs.Rows.{Row, inside}
use Rattle.rows.proofs.Sums.{inside_true}
use Rattle.rows.proofs.Inside.{inside_from}
use Rattle.marks.specs.Meaning.{Makes}
use Rattle.rows.specs.Limits.{lag_limit, most_stages, most_events}
use Rattle.marks.specs.declared.fault.Layer.TheVariants.{Mark as OfMarks}
use Rattle.marks.specs.declared.fault.MarkFault.{MarkFault}
use Rattle.plan.specs.Calls.{set_checks}
use Rattle.plan.specs.Checks.{Check, first_missed, head_checks, event_check, lag_check, lag_missed, Laid}
use Rattle.marks.specs.Faults.{Refusal, mark_refusal}
use Rattle.plan.specs.Faults.{refusal_of}
use Rattle.plan.specs.declared.fault.PlanFault.TheVariants.{Mark}

pub lag_passes : (w : ℕ) (parts : Row) → Makes w lag_limit parts → lag_missed w parts ≡ false
lag_passes w parts h = not_from_true (eqb (length parts) w && inside lag_limit parts) (and_from (eqb (length parts) w) (inside lag_limit parts) (eq-eqb (length parts) w h.0) (inside_from lag_limit parts h.1))

pub lag_fails : (w : ℕ) (parts : Row) → (Makes w lag_limit parts → ⊥) → lag_missed w parts ≡ true
lag_fails w parts h = go (cases_Bool (eqb (length parts) w && inside lag_limit parts))
  where
    go : ((eqb (length parts) w && inside lag_limit parts) ≡ true) ⊎ ((eqb (length parts) w && inside lag_limit parts) ≡ false) → lag_missed w parts ≡ true
    go (inl e) =
        let p = and_parts (eqb (length parts) w) (inside lag_limit parts) e in
        absurd (h (eqb-true (length parts) w p.0, inside_true lag_limit parts p.1))
    go (inr e) = not_from_false (eqb (length parts) w && inside lag_limit parts) e

-- what a refusal by a check names
abbrev named : Check → Option Refusal
named c = Some (record { number = c.number; layer = c.layer })

-- checks after checks that are not missed
pub first_append : (xs ys : List Check) → first_missed xs ≡ None → first_missed (xs ++ ys) ≡ first_missed ys
first_append [] ys h = refl
first_append (c ∷ cs) ys h = go c.missed refl h (λ k. first_append cs ys k)
  where
    go : (b : Bool) → c.missed ≡ b → cond b (named c) (first_missed cs) ≡ None → (first_missed cs ≡ None → first_missed (cs ++ ys) ≡ first_missed ys) → cond c.missed (named c) (first_missed (cs ++ ys)) ≡ first_missed ys
    go true e k rest = absurd (let z : ◌≡◌ {A = ℕ} 0 1 = cc in omega arith)
    go false e k rest = cond-false c.missed (named c) (first_missed (cs ++ ys)) e ∙ rest k

-- the pair's events are events of the plan
pub events_inside : (n len m to from : ℕ) → Laid n len m → max to from ≤ 2 * n → (m ≤ most_events) × (to < m) × (from < m)
events_inside n len m to from laid h = (omega (arith, laid.count, laid.most), let l = le-max_left to from in omega (arith, laid.count), let l = le-max_right to from in omega (arith, laid.count))

module _ (w n len : ℕ) (rows : List ℕ) (to from : ℕ) (parts : Row) (head : first_missed (head_checks most_stages n len rows) ≡ None) (event : first_missed (event_check n (max to from) ∷ []) ≡ None) where
  so_far : first_missed (set_checks w n len rows to from parts) ≡ cond (lag_missed w parts) (named (lag_check w parts)) None
  so_far =
      first_append (head_checks most_stages n len rows) (event_check n (max to from) ∷ lag_check w parts ∷ []) head
      ∙ first_append (event_check n (max to from) ∷ []) (lag_check w parts ∷ []) event

  pub set_passes : Makes w lag_limit parts → first_missed (set_checks w n len rows to from parts) ≡ None
  set_passes h = so_far ∙ cond-false (lag_missed w parts) (named (lag_check w parts)) None (lag_passes w parts h)

  -- the fault of a lag that cannot be made, passed up whole
  pub set_stops : (fault : MarkFault) → mark_refusal fault ≡ record { number = 10; layer = OfMarks } → (Makes w lag_limit parts → ⊥) → first_missed (set_checks w n len rows to from parts) ≡ Some (refusal_of (Mark fault))
  set_stops fault is h = so_far ∙ cond-true (lag_missed w parts) (named (lag_check w parts)) None (lag_fails w parts h) ∙ ap Some (sym is)
