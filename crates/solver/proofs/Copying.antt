-- The places of a word's events copied, one after the other.
use Rattle.std.proofs.Common.{◌≡◌, ℕ, ◌<◌, ◌⊎◌, List, length, set, slice_index_or, sym, ap, ◌∙◌, inl, inr, refl, arith, get_or-set_other, get_or-set_same}
use Rattle.std.proofs.lemmas.Bool.{cases_eq}
use Rattle.std.proofs.lemmas.Nat.Bits.{bit_at-zero}
use Rattle.std.specs.Int.{bit_at}
use Rattle.solver.specs.Words.{Copied, Split}

-- those of `rest` are still to come
pub record Copying {A : Type 0} (d : A) (word rest : ℕ) (from row after : List A) : Type 0 where
  pub left : (e : ℕ) → e < 64 → bit_at rest e ≡ 1 → bit_at word e ≡ 1
  pub done : (e : ℕ) → e < 64 → bit_at word e ≡ 1 → bit_at rest e ≡ 0 → slice_index_or after e d ≡ slice_index_or from e d
  pub kept : (e : ℕ) → (e < 64 → bit_at word e ≡ 0) → slice_index_or after e d ≡ slice_index_or row e d

pub copying_none : {A : Type 0} (d : A) (word : ℕ) (from row : List A) → Copying d word word from row row
copying_none d word from row = record { left = λ e small b. b; done = λ e small b c. absurd (omega arith); kept = λ e b. refl }

module _ {A : Type 0} (d : A) (word rest : ℕ) (from row after : List A) (h : Copying d word rest from row after) where
  pub copied_all : rest ≡ 0 → Copied d word from row after
  copied_all e = (λ k small b. h.done k small b (ap (λ (r : ℕ). bit_at r k) e ∙ bit_at-zero k), h.kept)

  pub copied_more : (e left : ℕ) (x : A) → Split rest e left → e < length after → x ≡ slice_index_or from e d → Copying d word left from row (set after e x)
  copied_more e left x split room q = record {
    left = λ k small b. left_in k small b (cases_eq k e);
    done = λ k small b c. done_in k small b c (cases_eq k e);
    kept = λ k b. kept_in k b (cases_eq k e);
  }
    where
      left_in : (k : ℕ) → k < 64 → bit_at left k ≡ 1 → (k ≡ e) ⊎ (k ≡ e → ⊥) → bit_at word k ≡ 1
      left_in k small b (inl p) = absurd (let z : bit_at left k ≡ 0 = ap (bit_at left) p ∙ split.gone in omega arith)
      left_in k small b (inr n) = h.left k small (sym (split.others k small n) ∙ b)

      done_in : (k : ℕ) → k < 64 → bit_at word k ≡ 1 → bit_at left k ≡ 0 → (k ≡ e) ⊎ (k ≡ e → ⊥) → slice_index_or (set after e x) k d ≡ slice_index_or from k d
      done_in k small b c (inl p) = ap (λ (i : ℕ). slice_index_or (set after e x) i d) p ∙ get_or-set_same after e x d room ∙ q ∙ ap (λ (i : ℕ). slice_index_or from i d) (sym p)
      done_in k small b c (inr n) = get_or-set_other after e k x d n ∙ h.done k small b (sym (split.others k small n) ∙ c)

      kept_in : (k : ℕ) → (k < 64 → bit_at word k ≡ 0) → (k ≡ e) ⊎ (k ≡ e → ⊥) → slice_index_or (set after e x) k d ≡ slice_index_or row k d
      kept_in k b (inl p) = absurd (let one : bit_at word k ≡ 1 = ap (bit_at word) p ∙ h.left e split.inside split.has in let none : bit_at word k ≡ 0 = b (omega (arith, p, split.inside)) in omega arith)
      kept_in k b (inr n) = get_or-set_other after e k x d n ∙ h.kept k b
