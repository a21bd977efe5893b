-- The check of given totals, event by event.
use Rattle.std.proofs.Common.{◌≡◌, ℕ, zero, suc, ◌+◌, ◌*◌, ◌%◌, ◌^◌, ◌<◌, ◌≤◌, Bool, true, false, not, ◌⊎◌, length, sym, refl, ap, ◌∙◌, subst, inl, inr, le_of_lt, mod-eq_of_lt, mul-le-mul_left, arith}
use Rattle.std.proofs.lemmas.Bool.{cases_lt, or_from, or_left, or_right, not_from_true, not_from_false}
use Rattle.std.proofs.lemmas.List.FromFn.{length-range_with_len}
use Rattle.std.specs.Bool.{MatchBool}
use Rattle.std.specs.List.{range_with_len, AllWithin, HoldsAt}
use Rattle.schedules.specs.Plans.{Totals}
use Rattle.plan.specs.Checks.{total_missed, totals_missed}
use Rattle.plan.proofs.Ranges.{range_at, range_within}

none_missed : (x : Totals) (first step n : ℕ) → ((k : ℕ) → k < n → total_missed (x (first + step * k)) ≡ false) → totals_missed x first step n ≡ false
none_missed x first step zero h = refl
none_missed x first step (suc n) h =
    or_from (total_missed (x (first + step * n))) (totals_missed x first step n) (h n (omega arith)) (none_missed x first step n (λ k l. h k (omega arith)))

totals_hit : (x : Totals) (first step k count : ℕ) → k < count → total_missed (x (first + step * k)) ≡ true → totals_missed x first step count ≡ true
totals_hit x first step k zero h e = absurd (omega arith)
totals_hit x first step k (suc count) h e = go (λ l. totals_hit x first step k count l e) (cases_lt k count)
  where
    go : (k < count → totals_missed x first step count ≡ true) → (k < count) ⊎ (count ≤ k) → totals_missed x first step (suc count) ≡ true
    go below (inl l) = or_right (total_missed (x (first + step * count))) (totals_missed x first step count) (below l)
    go below (inr l) =
        let same : k ≡ count = omega arith in
        or_left (total_missed (x (first + step * count))) (totals_missed x first step count) (subst (λ (i : ℕ). total_missed (x (first + step * i)) ≡ true) same e)

-- an index that does not wrap
pub unwrapped : (first step k count : ℕ) → first + step * count < 2 ^ 64 → k < count → (first + (step * k) % 2 ^ 64) % 2 ^ 64 ≡ first + step * k
unwrapped first step k count few l =
    let below : step * k ≤ step * count = mul-le-mul_left step (le_of_lt l) in
    let inner : (step * k) % 2 ^ 64 ≡ step * k = mod-eq_of_lt (omega arith) in
    ap (λ (i : ℕ). (first + i) % 2 ^ 64) inner ∙ mod-eq_of_lt (omega arith)

-- what the iterator's `all` says of so many totals
pub totals_are : (x : Totals) (first step n : ℕ) (r : Bool)
    → MatchBool r (AllWithin (λ k. k < n → total_missed (x (first + step * k)) ≡ false) (range_with_len 0 n) 0 (length (range_with_len 0 n))) ((k : ℕ) × (k < length (range_with_len 0 n)) × HoldsAt (λ k. k < n → total_missed (x (first + step * k)) ≡ true) (range_with_len 0 n) k)
    → r ≡ not (totals_missed x first step n)
totals_are x first step n true h =
    let P : ℕ → Type 0 = λ k. k < n → total_missed (x (first + step * k)) ≡ false in
    sym (not_from_false (totals_missed x first step n) (none_missed x first step n (λ k l. range_within n P h k l l)))
totals_are x first step n false h =
    let P : ℕ → Type 0 = λ k. k < n → total_missed (x (first + step * k)) ≡ true in
    let l = subst (λ (i : ℕ). h.0 < i) (length-range_with_len 0 n) h.1 in
    sym (not_from_true (totals_missed x first step n) (totals_hit x first step h.0 n l (range_at n P h.0 l (h.2 0) l)))
