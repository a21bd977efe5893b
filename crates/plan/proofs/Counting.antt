-- How many bits of a number are set.
use Rattle.std.proofs.Common.{◌≡◌, ℕ, zero, suc, ◌+◌, ◌*◌, ◌/◌, ◌%◌, ◌^◌, ◌<◌, ◌≤◌, ◌⊎◌, ◌↔◌, refl, sym, ap, ◌∙◌, subst, inl, inr, arith, pow_pos}
use lib.Count.{ones}
use Rattle.std.specs.Int.{bit_at}
use Rattle.std.proofs.lemmas.Bool.{cases_lt}
use Rattle.std.proofs.lemmas.Nat.{mod-pow-add, ones_cat, mod_below}
use Rattle.std.proofs.lemmas.Nat.Bits.{bit_at-lt, bit_at_cat_low, bit_at_above, same_from_bits}
use Rattle.plan.specs.Waiting.{Counts, nothing, counted, passed}

unset : (n v : ℕ) → (bit_at n v ≡ 1 → ⊥) → bit_at n v ≡ 0
unset n v h = go (cases_lt (bit_at n v) 1)
  where
    go : (bit_at n v < 1) ⊎ (1 ≤ bit_at n v) → bit_at n v ≡ 0
    go (inl l) = omega arith
    go (inr l) = absurd (h (omega (arith, bit_at-lt n v)))

one_bit : (x : ℕ) → x < 2 → ones x ≡ x
unfolding ones
one_bit zero h = refl
one_bit (suc zero) h = refl
one_bit (suc (suc x)) h = absurd (omega arith)

more_ones : (n k : ℕ) → ones (n % 2 ^ suc k) ≡ bit_at n k + ones (n % 2 ^ k)
more_ones n k =
    let next : suc k ≡ 1 + k = omega arith in
    ap ones (ap (λ (i : ℕ). n % 2 ^ i) next ∙ mod-pow-add n 1 k) ∙ ones_cat k (bit_at n k) (n % 2 ^ k) (mod_below n (2 ^ k) (pow_pos k)) ∙ ap (λ (x : ℕ). x + ones (n % 2 ^ k)) (one_bit (bit_at n k) (bit_at-lt n k))

counts_low : (P : ℕ → Type 0) (n k : ℕ) → ((v : ℕ) → v < k → (bit_at n v ≡ 1) ↔ P v) → Counts P k (ones (n % 2 ^ k))
counts_low P n zero h =
    let none : n % 2 ^ 0 ≡ 0 = omega arith in
    subst (λ (x : ℕ). Counts P 0 (ones x)) (sym none) (subst (Counts P 0) (sym (one_bit 0 (omega arith))) nothing)
counts_low P n (suc k) h = subst (Counts P (suc k)) (sym (more_ones n k)) (go (counts_low P n k (λ v l. h v (omega arith))) (cases_lt (bit_at n k) 1))
  where
    go : Counts P k (ones (n % 2 ^ k)) → (bit_at n k < 1) ⊎ (1 ≤ bit_at n k) → Counts P (suc k) (bit_at n k + ones (n % 2 ^ k))
    go below (inl l) =
        let same : ones (n % 2 ^ k) ≡ bit_at n k + ones (n % 2 ^ k) = omega arith in
        subst (Counts P (suc k)) same (passed (λ p. let b = (h k (omega arith)).1 p in omega (arith, b)) below)
    go below (inr l) =
        let set : bit_at n k ≡ 1 = omega (arith, bit_at-lt n k) in
        let same : suc (ones (n % 2 ^ k)) ≡ bit_at n k + ones (n % 2 ^ k) = omega (arith, set) in
        subst (Counts P (suc k)) same (counted ((h k (omega arith)).0 set) below)

low_alone : (n m : ℕ) → ((v : ℕ) → m ≤ v → bit_at n v ≡ 0) → n % 2 ^ m ≡ n
low_alone n m h = same_from_bits (n % 2 ^ m) n (λ i. go i (cases_lt i m))
  where
    whole : (n / 2 ^ m) * 2 ^ m + n % 2 ^ m ≡ n
    whole = omega (arith, pow_pos m)

    go : (i : ℕ) → (i < m) ⊎ (m ≤ i) → bit_at (n % 2 ^ m) i ≡ bit_at n i
    go i (inl l) = sym (bit_at_cat_low (n / 2 ^ m) m (n % 2 ^ m) i l) ∙ ap (λ (x : ℕ). bit_at x i) whole
    go i (inr l) = bit_at_above (n % 2 ^ m) m i (mod_below n (2 ^ m) (pow_pos m)) l ∙ sym (h i l)

pub counts : (P : ℕ → Type 0) (n m : ℕ) → ((v : ℕ) → (bit_at n v ≡ 1) ↔ P v) → ((v : ℕ) → P v → v < m) → Counts P m (ones n)
counts P n m bits inside =
    subst (λ (x : ℕ). Counts P m (ones x)) (low_alone n m (λ v l. unset n v (λ b. past v l (inside v ((bits v).0 b))))) (counts_low P n m (λ v l. bits v))
  where
    past : (v : ℕ) → m ≤ v → v < m → ⊥
    past v l h = omega arith
