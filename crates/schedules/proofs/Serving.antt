-- Tests over the stages.
use Rattle.std.proofs.Common.{◌≡◌, ℕ, zero, suc, ◌<◌, ◌≤◌, Bool, true, false, ◌||◌, ◌⊎◌, is_some, Some, None, Option, sym, refl, ◌∙◌, subst, inl, inr, arith}
use Rattle.std.proofs.lemmas.Bool.{cases_lt, cases_Bool, or_cases, or_from, or_left, or_right, false≢true}
use Rattle.std.specs.Option.{option_map}
use Rattle.schedules.specs.Served.{any_of}

module _ (p : ℕ → Bool) where
  pub any_hit : (n k : ℕ) → 1 ≤ k → k ≤ n → p k ≡ true → any_of n p ≡ true
  any_hit zero k low high e = absurd (omega arith)
  any_hit (suc n) k low high e = go (λ h. any_hit n k low h e) (cases_lt n k)
    where
      go : (k ≤ n → any_of n p ≡ true) → (n < k) ⊎ (k ≤ n) → (any_of n p || p (suc n)) ≡ true
      go below (inl h) =
          let same : k ≡ suc n = omega arith in
          or_right (any_of n p) (p (suc n)) (subst (λ (i : ℕ). p i ≡ true) same e)
      go below (inr h) = or_left (any_of n p) (p (suc n)) (below h)

  pub any_found : (n : ℕ) → any_of n p ≡ true → (k : ℕ) × (1 ≤ k) × (k ≤ n) × (p k ≡ true)
  any_found zero e = absurd (false≢true e)
  any_found (suc n) e = go (λ h. any_found n h) (or_cases (any_of n p) (p (suc n)) e)
    where
      go : (any_of n p ≡ true → (k : ℕ) × (1 ≤ k) × (k ≤ n) × (p k ≡ true)) → (any_of n p ≡ true) ⊎ (p (suc n) ≡ true) → (k : ℕ) × (1 ≤ k) × (k ≤ suc n) × (p k ≡ true)
      go below (inl h) = let t = below h in (t.0, t.1, omega (arith, t.2), t.3)
      go below (inr h) = (suc n, omega arith, omega arith, h)

  pub any_missed : (n : ℕ) → ((k : ℕ) → k < n → p (suc k) ≡ false) → any_of n p ≡ false
  any_missed zero h = refl
  any_missed (suc n) h = or_from (any_of n p) (p (suc n)) (any_missed n (λ k l. h k (omega arith))) (h n (omega arith))

  pub any_none : (n k : ℕ) → 1 ≤ k → k ≤ n → any_of n p ≡ false → p k ≡ false
  any_none n k low high e = go (cases_Bool (p k))
    where
      go : (p k ≡ true) ⊎ (p k ≡ false) → p k ≡ false
      go (inl h) = absurd (false≢true (sym e ∙ any_hit n k low high h))
      go (inr h) = h

-- a lag that is there
pub some_of : {A : Type 0} (o : Option A) → is_some o ≡ true → (r : A) × (o ≡ Some r)
some_of None e = absurd (false≢true e)
some_of (Some r) e = (r, refl)

pub some_mapped : {A B : Type 0} (f : A → B) (o : Option A) → is_some (option_map f o) ≡ is_some o
some_mapped f None = refl
some_mapped f (Some a) = refl
