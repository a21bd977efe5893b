-- The later of several optional rows, one after the other.
use Rattle.std.proofs.Common.{◌≡◌, ℕ, zero, suc, ◌<◌, ◌⊎◌, Some, Option, sym, refl, ◌∙◌, subst, ap₂, inl, inr, arith}
use Rattle.std.proofs.lemmas.Bool.{cases_eq}
use Rattle.rows.specs.MaxPlus.{later, folded}
use Rattle.rows.specs.Rows.{Row}
use Rattle.schedules.specs.Plans.{AtLeast}
use Rattle.schedules.proofs.Optional.{WideRow, AtLeast-refl, AtLeast-trans, later_rowed, later_at_left, later_at_right, later_one}

-- what the later of two keeps holds of all
pub folded_holds : (P : Option Row → Type 0) → ((o p : Option Row) → P o → P p → P (later o p)) → (a : Option Row) (n : ℕ) (f : ℕ → Option Row) → P a → ((k : ℕ) → k < n → P (f k)) → P (folded later a n f)
folded_holds P both a zero f h each = h
folded_holds P both a (suc n) f h each =
    both (folded later a n f) (f n) (folded_holds P both a n f h (λ k l. each k (omega arith))) (each n (omega arith))

pub folded_same : (op : Option Row → Option Row → Option Row) (a b : Option Row) (n : ℕ) (f g : ℕ → Option Row) → a ≡ b → ((k : ℕ) → k < n → f k ≡ g k) → folded op a n f ≡ folded op b n g
folded_same op a b zero f g e same = e
folded_same op a b (suc n) f g e same = ap₂ op (folded_same op a b n f g e (λ k l. same k (omega arith))) (same n (omega arith))

-- it is what it began with, or else one of the others, which is there
pub folded_one : (a : Option Row) (n : ℕ) (f : ℕ → Option Row) → (folded later a n f ≡ a) ⊎ ((k : ℕ) × (k < n) × ((z : Row) × (f k ≡ Some z) × (folded later a n f ≡ Some z)))
folded_one a zero f = inl refl
folded_one a (suc n) f = go (later_one (folded later a n f) (f n)) (folded_one a n f)
  where
    go : (folded later a (suc n) f ≡ folded later a n f) ⊎ ((z : Row) × (f n ≡ Some z) × (folded later a (suc n) f ≡ Some z)) → (folded later a n f ≡ a) ⊎ ((k : ℕ) × (k < n) × ((z : Row) × (f k ≡ Some z) × (folded later a n f ≡ Some z))) → (folded later a (suc n) f ≡ a) ⊎ ((k : ℕ) × (k < suc n) × ((z : Row) × (f k ≡ Some z) × (folded later a (suc n) f ≡ Some z)))
    go (inl e) (inl h) = inl (e ∙ h)
    go (inl e) (inr h) = inr (h.0, omega (arith, h.1), (h.2.0, h.2.1, e ∙ h.2.2))
    go (inr e) h = inr (n, omega arith, e)

module _ (w : ℕ) (a : Option Row) (f : ℕ → Option Row) (first : WideRow w a) where
  pub folded_rowed : (n : ℕ) → ((k : ℕ) → k < n → WideRow w (f k)) → WideRow w (folded later a n f)
  folded_rowed n each = folded_holds (WideRow w) (later_rowed w) a n f first each

  -- one more is at least as late
  more : (n : ℕ) → ((k : ℕ) → k < suc n → WideRow w (f k)) → (o : Option Row) → AtLeast (folded later a n f) o → AtLeast (folded later a (suc n) f) o
  more n each o h =
      AtLeast-trans w (folded later a (suc n) f) (folded later a n f) o (folded_rowed (suc n) each) (folded_rowed n (λ k l. each k (omega arith))) (later_at_left (folded later a n f) (f n)) h

  -- it is at least what it began with
  pub folded_rises : (n : ℕ) → ((k : ℕ) → k < n → WideRow w (f k)) → AtLeast (folded later a n f) a
  folded_rises zero each = AtLeast-refl a
  folded_rises (suc n) each = more n each a (folded_rises n (λ k l. each k (omega arith)))

  -- and at least each of the others
  pub folded_covers : (n : ℕ) → ((k : ℕ) → k < n → WideRow w (f k)) → (k : ℕ) → k < n → AtLeast (folded later a n f) (f k)
  folded_covers zero each k l = absurd (omega arith)
  folded_covers (suc n) each k l = go (cases_eq k n) (λ m. folded_covers n (λ i j. each i (omega arith)) k m)
    where
      go : (k ≡ n) ⊎ (k ≡ n → ⊥) → (k < n → AtLeast (folded later a n f) (f k)) → AtLeast (folded later a (suc n) f) (f k)
      go (inl e) rest = subst (λ (i : ℕ). AtLeast (folded later a (suc n) f) (f i)) (sym e) (later_at_right (folded later a n f) (f n))
      go (inr d) rest = more n each (f k) (rest (omega arith))
