-- A lag more: noted in the words of those that stand, and not yet kept by the times.
use Rattle.std.proofs.Common.{◌≡◌, ℕ, ◌<◌, ◌≢◌, ◌⊎◌, ◌↔◌, List, length, slice_index, None, sym, ap, ◌∙◌, subst, inl, inr, arith, length-set, get_or-set_other, get_or-set_same}
use Rattle.std.specs.Int.{bit_at}
use Rattle.std.proofs.lemmas.Bool.{cases_eq}
use Rattle.rows.specs.Rows.{Row}
use Rattle.schedules.specs.Plans.{KeepsLags, Lags}
use Rattle.solver.specs.Repairing.{KeepsOthers}
use Rattle.solver.specs.Words.{Noted, Stands, StandsFrom}

-- the lags M are the lags L everywhere but to v from u
abbrev pub Elsewhere : ℕ → Lags → Lags → (v u : ℕ) → Type 0
Elsewhere m L M v u = (t s : ℕ) → t < m → s < m → (t ≡ v → s ≡ u → ⊥) → M t s ≡ L t s

module _ (m : ℕ) (L M : Lags) (v u : ℕ) (v_in : v < m) (there : M v u ≢ None) (elsewhere : Elsewhere m L M v u) where
  -- a bit as it was, of a lag as it was
  same_bit : (word old t s : ℕ) → t < 64 → bit_at word t ≡ bit_at old t → (t < m → M t s ≡ L t s) → StandsFrom m L s old → (bit_at word t ≡ 1) ↔ ((t < m) × (M t s ≢ None))
  same_bit word old t s small same alike h = (λ b. to ((h t small).0 (sym same ∙ b)), λ k. same ∙ (h t small).1 (k.0, λ q. k.1 (alike k.0 ∙ q)))
    where
      to : (t < m) × (L t s ≢ None) → (t < m) × (M t s ≢ None)
      to k = (k.0, λ q. k.1 (sym (alike k.0) ∙ q))

  pub noted_stands : (words after : List ℕ) → u < m → u < length after → Noted words v u after → Stands m L words → Stands m M after
  noted_stands words after u_in inside noted stands s s_in = go (cases_eq s u)
    where
      room : u < length words
      room = omega (arith, inside, ap length noted.put, length-set words u noted.word)

      here : slice_index after u ≡ noted.word
      here = ap (λ (ws : List ℕ). slice_index ws u) noted.put ∙ get_or-set_same words u noted.word 0 room

      -- the word of u
      at : (t : ℕ) → t < 64 → (t ≡ v) ⊎ (t ≡ v → ⊥) → (bit_at noted.word t ≡ 1) ↔ ((t < m) × (M t u ≢ None))
      at t small (inl e) = subst (λ (i : ℕ). (bit_at noted.word i ≡ 1) ↔ ((i < m) × (M i u ≢ None))) (sym e) (λ b. (v_in, there), λ k. noted.added.has)
      at t small (inr d) = same_bit noted.word (slice_index words u) t u small (noted.added.others t d) (λ t_in. elsewhere t u t_in u_in (λ p q. d p)) (stands u u_in)

      go : (s ≡ u) ⊎ (s ≡ u → ⊥) → StandsFrom m M s (slice_index after s)
      go (inl e) = subst (λ (i : ℕ). StandsFrom m M i (slice_index after i)) (sym e) (subst (StandsFrom m M u) (sym here) (λ t small. at t small (cases_eq t v)))
      go (inr d) =
          let same : slice_index after s ≡ slice_index words s = ap (λ (ws : List ℕ). slice_index ws s) noted.put ∙ get_or-set_other words u s noted.word 0 d in
          λ t small. same_bit (slice_index after s) (slice_index words s) t s small (ap (λ (x : ℕ). bit_at x t) same) (λ t_in. elsewhere t s t_in s_in (λ p q. d q)) (stands s s_in)

-- times that keep every lag of L keep every other lag of M
pub keeps_others : (w m : ℕ) (L M : Lags) (v u : ℕ) (x : ℕ → Row) → Elsewhere m L M v u → KeepsLags w m L x → KeepsOthers m M x v u
keeps_others w m L M v u x elsewhere s t e a t_in e_in ne h = s.keeps t e a t_in e_in (sym (elsewhere t e t_in e_in ne) ∙ h)
