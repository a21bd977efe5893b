-- What the iterators say of tests over the stages.
use Rattle.std.proofs.Common.{◌≡◌, ℕ, suc, ◌<◌, Bool, true, false, not, length, sym, ap, subst, arith}
use Rattle.std.proofs.lemmas.Bool.{not_from_true, not_from_false}
use Rattle.std.proofs.lemmas.List.FromFn.{length-range_with_len}
use Rattle.std.specs.Bool.{MatchBool}
use Rattle.std.specs.List.{range_with_len, AllWithin, HoldsAt}
use Rattle.schedules.specs.Served.{any_of}
use Rattle.plan.proofs.Ranges.{range_at, range_within}
use Rattle.schedules.proofs.Serving.{any_hit, any_missed}

-- what the iterator's `any` and `all` say of the places 0, 1, .., n - 1
module _ (n : ℕ) where
  pub any_is : (p : ℕ → Bool) (r : Bool)
      → MatchBool r ((k : ℕ) × (k < length (range_with_len 0 n)) × HoldsAt (λ i. i < n → p (suc i) ≡ true) (range_with_len 0 n) k) (AllWithin (λ i. i < n → p (suc i) ≡ false) (range_with_len 0 n) 0 (length (range_with_len 0 n)))
      → r ≡ any_of n p
  any_is p true h =
      let l = subst (λ (i : ℕ). h.0 < i) (length-range_with_len 0 n) h.1 in
      sym (any_hit p n (suc h.0) (omega arith) l (range_at n (λ i. i < n → p (suc i) ≡ true) h.0 l (h.2 0) l))
  any_is p false h = sym (any_missed p n (λ k l. range_within n (λ i. i < n → p (suc i) ≡ false) h k l l))

  pub all_is : (p : ℕ → Bool) (r : Bool)
      → MatchBool r (AllWithin (λ i. i < n → p (suc i) ≡ true) (range_with_len 0 n) 0 (length (range_with_len 0 n))) ((k : ℕ) × (k < length (range_with_len 0 n)) × HoldsAt (λ i. i < n → p (suc i) ≡ false) (range_with_len 0 n) k)
      → r ≡ not (any_of n (λ k. not (p k)))
  all_is p true h = sym (ap not (any_missed (λ k. not (p k)) n (λ k l. not_from_true (p (suc k)) (range_within n (λ i. i < n → p (suc i) ≡ true) h k l l))))
  all_is p false h =
      let l = subst (λ (i : ℕ). h.0 < i) (length-range_with_len 0 n) h.1 in
      sym (ap not (any_hit (λ k. not (p k)) n (suc h.0) (omega arith) l (not_from_false (p (suc h.0)) (range_at n (λ i. i < n → p (suc i) ≡ false) h.0 l (h.2 0) l))))
