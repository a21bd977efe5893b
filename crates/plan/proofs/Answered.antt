-- From the word of reached events to the answer of waiting.
use Rattle.std.proofs.Common.{◌≡◌, ℕ, ◌*◌, ◌%◌, ◌^◌, ◌<◌, ◌≤◌, ◌⊎◌, bit_and, ◌↔◌, ◌∙◌, subst, inl, inr, arith}
use lib.Count.{ones}
use Rattle.std.specs.Int.{w64, bit_at, bit_not}
use Rattle.std.proofs.lemmas.Bool.{cases_lt}
use Rattle.std.proofs.lemmas.Nat.Bits.{bit_at_and, bit_at_above, bit_at-lt, bit_at_clear_same, bit_at_clear_other}
use Rattle.schedules.specs.Plans.{Lags}
use Rattle.schedules.proofs.Chains.{chain_to}
use Rattle.solver.specs.Words.{ChainsFrom}
use Rattle.plan.specs.Waiting.{Waits, Waiting}
use Rattle.plan.proofs.Counting.{counts}
use Rattle.rows.specs.Limits.{most_events}

-- `reached & !(1 << e)`
abbrev pub others : ℕ → ℕ → ℕ
others reached e = bit_and reached (bit_not w64 (1 * 2 ^ e % 2 ^ 64))

module _ (m : ℕ) (L : Lags) (e reached : ℕ) (few : m ≤ most_events) (inside : e < m) (fits : reached < 2 ^ 64) (chains : ChainsFrom m L e reached) where
  waits : (v : ℕ) → (bit_at (others reached e) v ≡ 1) ↔ Waits m L e v
  waits v = (λ b. (apart v b, (chains v (small (kept b) (cases_lt v 64))).0 (kept b)), back)
    where
      kept : bit_at (others reached e) v ≡ 1 → bit_at reached v ≡ 1
      kept b = omega (arith, b, bit_at_and reached (bit_not w64 (1 * 2 ^ e % 2 ^ 64)) v, bit_at-lt reached v)

      small : bit_at reached v ≡ 1 → (v < 64) ⊎ (64 ≤ v) → v < 64
      small b (inl l) = l
      small b (inr l) = absurd (omega (arith, b, bit_at_above reached 64 v fits l))

      apart : (v : ℕ) → bit_at (others reached e) v ≡ 1 → v ≡ e → ⊥
      apart v b p =
          let at : bit_at (others reached e) e ≡ 1 = subst (λ (i : ℕ). bit_at (others reached e) i ≡ 1) p b in
          omega (arith, at, bit_at_clear_same w64 reached e (omega arith))

      back : Waits m L e v → bit_at (others reached e) v ≡ 1
      back w =
          let below : v < m = chain_to m L w.1.0 e v w.1.1 w.1.2 in
          bit_at_clear_other w64 reached e (omega arith) v (omega arith) w.0 ∙ (chains v (omega arith)).1 w.1

  pub answered : Waiting m L e (others reached e, ones (others reached e))
  answered = record { bits = λ v k. waits v; count = counts (Waits m L e) (others reached e) m waits (λ v w. chain_to m L w.1.0 e v w.1.1 w.1.2) }
