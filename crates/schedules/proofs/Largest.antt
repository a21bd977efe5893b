-- The largest of f 1, f 2, .., f n is none of them exceeded, and is one of them.
use Rattle.std.proofs.Common.{◌≡◌, ℕ, zero, suc, ◌+◌, ◌<◌, ◌≤◌, max, ◌⊎◌, refl, ap, ◌∙◌, subst, ap₂, inl, inr, arith}
use Rattle.std.specs.List.{fold, range_with_len}
use Rattle.std.proofs.lemmas.Bool.{cases_lt}
use Rattle.schedules.specs.Nearing.{largest}

pub largest_bound : (f : ℕ → ℕ) (n j : ℕ) → 1 ≤ j → j ≤ n → f j ≤ largest n f
largest_bound f zero j low high = absurd (omega arith)
largest_bound f (suc n) j low high = go (λ h. largest_bound f n j low h) (cases_lt n j)
  where
    go : (j ≤ n → f j ≤ largest n f) → (n < j) ⊎ (j ≤ n) → f j ≤ max (largest n f) (f (suc n))
    go below (inl h) =
        let same : suc n ≡ j = omega arith in
        subst (λ (i : ℕ). f i ≤ max (largest n f) (f (suc n))) same (omega arith)
    go below (inr h) = let b = below h in omega arith

pub largest_attained : (f : ℕ → ℕ) (n : ℕ) → (largest n f ≡ 0) ⊎ ((j : ℕ) × (1 ≤ j) × (j ≤ n) × (largest n f ≡ f j))
largest_attained f zero = inl refl
largest_attained f (suc n) = go (largest_attained f n) (cases_lt (f (suc n)) (largest n f))
  where
    go : (largest n f ≡ 0) ⊎ ((j : ℕ) × (1 ≤ j) × (j ≤ n) × (largest n f ≡ f j)) → (f (suc n) < largest n f) ⊎ (largest n f ≤ f (suc n)) → (max (largest n f) (f (suc n)) ≡ 0) ⊎ ((j : ℕ) × (1 ≤ j) × (j ≤ suc n) × (max (largest n f) (f (suc n)) ≡ f j))
    go h (inr l) = inr (suc n, omega arith, omega arith, omega arith)
    go (inl h) (inl l) = inl (omega arith)
    go (inr t) (inl l) = let e = t.3 in let m : max (largest n f) (f (suc n)) ≡ largest n f = omega arith in inr (t.0, t.1, omega (arith, t.2), m ∙ e)

-- the same of a list
fold_last : (step : ℕ → ℕ → ℕ) (a b n : ℕ) → fold step a (range_with_len b (suc n)) ≡ step (fold step a (range_with_len b n)) (b + n)
fold_last step a b zero = let same : b ≡ b + 0 = omega arith in ap (step a) same
fold_last step a b (suc n) =
    let same : (b + 1) + n ≡ b + suc n = omega arith in
    fold_last step (step a b) (b + 1) n ∙ ap (step (fold step (step a b) (range_with_len (b + 1) n))) same

pub largest_listed : (f : ℕ → ℕ) (n : ℕ) → fold (λ a k. max a (f (suc k))) 0 (range_with_len 0 n) ≡ largest n f
largest_listed f zero = refl
largest_listed f (suc n) =
    let same : 0 + n ≡ n = omega arith in
    fold_last (λ a k. max a (f (suc k))) 0 0 n ∙ ap₂ (λ (a k : ℕ). max a (f (suc k))) (largest_listed f n) same
