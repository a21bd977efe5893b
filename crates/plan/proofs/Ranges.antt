-- What an iterator's answer over the places 0, 1, .., n - 1 says of each.
use Rattle.std.proofs.Common.{◌≡◌, ℕ, ◌+◌, ◌<◌, length, get_or, sym, ◌∙◌, subst, arith}
use Rattle.std.proofs.lemmas.List.FromFn.{length-range_with_len, get_or-range_with_len}
use Rattle.std.specs.List.{range_with_len, AllWithin}

module _ (n : ℕ) (P : ℕ → Type 0) where
  pub range_at : (k : ℕ) → k < n → P (get_or (range_with_len 0 n) k 0) → P k
  range_at k l h = let same : 0 + k ≡ k = omega arith in subst P (get_or-range_with_len 0 n k 0 l ∙ same) h

  pub range_within : AllWithin P (range_with_len 0 n) 0 (length (range_with_len 0 n)) → (k : ℕ) → k < n → P k
  range_within h k l = range_at k l (h k 0 (omega arith) (subst (λ (i : ℕ). k < i) (sym (length-range_with_len 0 n)) l))
