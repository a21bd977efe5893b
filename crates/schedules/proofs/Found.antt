-- What a walk back shows a program that stops at the first event met twice.
use Rattle.std.proofs.Common.{◌≡◌, ℕ, zero, suc, ◌+◌, ◌-◌, ◌<◌, ◌≤◌, ◌∷◌, ◌++◌, length, get_or, take, drop, sym, refl, ap, ◌∙◌, subst, arith}
use Rattle.rows.specs.Rows.{Row, zeros, Before}
use Rattle.schedules.specs.Plans.{Lags, Wide, Chain, Distinct, Loop, Totals}
use Rattle.schedules.specs.Rounds.{Changed}
use Rattle.schedules.specs.Walks.{Traced, backs, Apart}
use Rattle.schedules.proofs.Rounds.{WideTotals}
use Rattle.schedules.proofs.Walks.{Walked, closed_walk, walk_distinct}
use Rattle.schedules.proofs.Rotation.{turned_at}

-- places of the events met

pub length-backs : (p : ℕ → ℕ) (c i : ℕ) → length (backs p c i) ≡ i
length-backs p c zero = refl
length-backs p c (suc i) = ap suc (length-backs p c i)

pub get_or-backs : (p : ℕ → ℕ) (c i j : ℕ) → j < i → get_or (backs p c i) j 0 ≡ p (c + i - j)
get_or-backs p c zero j h = absurd (omega arith)
get_or-backs p c (suc i) zero h = ap p (omega arith)
get_or-backs p c (suc i) (suc j) h = get_or-backs p c i j (omega arith) ∙ ap p (omega arith)

module _ (w m : ℕ) (L : Lags) (wide : Wide w m L) (S : Totals) (sized : WideTotals w m S) (n : ℕ) (from : ℕ → ℕ → ℕ) (traced : Traced m L S n from) (p : ℕ → ℕ) (d : ℕ) (walked : Walked from n p d) (short : d ≤ n) (start : p 0 < m) (some : 1 ≤ n) (changed : Changed m L S (n - 1) (p 0)) where
  -- p d is p c, and those before are all different: the events from p d back to p (c + 1), turned
  -- at the lowest, are a loop
  pub walk_loop : (c i : ℕ) → c + suc i ≡ d → p c ≡ p d → Apart p d → (lo : ℕ) → lo < suc i → ((j : ℕ) → j < suc i → get_or (backs p c (suc i)) lo 0 ≤ get_or (backs p c (suc i)) j 0) → Loop w m L (drop lo (backs p c (suc i)) ++ take lo (backs p c (suc i)))
  walk_loop c i e q a lo h low =
      turned_at w m L (p (c + suc i)) (backs p c i) t.0 lo (omega (arith, long)) (λ j k. low j (omega (arith, long))) (subst (λ (x : ℕ). Distinct (x ∷ backs p c i)) same (walk_distinct p d c i a (omega arith))) (subst (λ (x : ℕ). Chain m L x (backs p c i) x t.0) same t.1.0) t.1.1
    where
      same : p c ≡ p (c + suc i)
      same = q ∙ ap p (sym e)

      t : (r : Row) × (Chain m L (p c) (backs p c i) (p c) r × Before (zeros w) r)
      t = closed_walk w m L wide S sized n from traced p d walked short start some changed c i (omega arith) same

      long : length (p (c + suc i) ∷ backs p c i) ≡ suc i
      long = ap suc (length-backs p c i)
