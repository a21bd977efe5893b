-- Words of the places that hold something, made from the last place back.
use Rattle.std.proofs.Common.{◌≡◌, ℕ, zero, suc, ◌+◌, ◌*◌, ◌/◌, ◌%◌, ◌^◌, ◌<◌, ◌≤◌, ◌⊎◌, ◌↔◌, ◌≢◌, bit_or, List, get_or, is_some, Some, None, Option, sym, ap, ◌∙◌, subst, inl, inr, refl, arith}
use Rattle.std.proofs.lemmas.Bool.{cases_lt}
use Rattle.std.proofs.lemmas.Nat.Bits.{bit_at_or, bit_at-suc, bit_at-zero, bit_at_lowest, bit_at_above, bit_at_cat_low}
use Rattle.std.specs.Int.{bit_at}
use mir.Val.{bool_byte}
use Rattle.plan.specs.Holding.{HeldFrom, PutBefore}

-- the bits of `word << 1`

next_bit : (word j : ℕ) → j < 63 → bit_at (word * 2 % 2 ^ 64) (suc j) ≡ bit_at word j
next_bit word j small =
    let whole : (word * 2 / 2 ^ 64) * 2 ^ 64 + word * 2 % 2 ^ 64 ≡ word * 2 = omega arith in
    let half : word * 2 / 2 ≡ word = omega arith in
    sym (bit_at_cat_low (word * 2 / 2 ^ 64) 64 (word * 2 % 2 ^ 64) (suc j) (omega arith)) ∙ ap (λ (x : ℕ). bit_at x (suc j)) whole ∙ bit_at-suc (word * 2) j ∙ ap (λ (x : ℕ). bit_at x j) half

-- with the bit of one place

bit_held : {A : Type 0} (o : Option A) → (bool_byte (is_some o) ≡ 1) ↔ (o ≢ None)
bit_held None = (λ e. absurd (omega (arith, e)), λ n. absurd (n refl))
bit_held (Some a) = (λ e n. cc, λ n. refl)

bit_small : {A : Type 0} (o : Option A) → bool_byte (is_some o) < 2
bit_small None = omega arith
bit_small (Some a) = omega arith

abbrev after : {A : Type 0} → ℕ → Option A → ℕ
after word o = bit_or (word * 2 % 2 ^ 64) (bool_byte (is_some o))

pub put_before : {A : Type 0} (word : ℕ) (o : Option A) → PutBefore o word (after word o)
put_before word o = (subst (λ (x : ℕ). (x ≡ 1) ↔ (o ≢ None)) (sym lowest) (bit_held o), higher)
  where
    lowest : bit_at (after word o) 0 ≡ bool_byte (is_some o)
    lowest = omega (arith, bit_at_or (word * 2 % 2 ^ 64) (bool_byte (is_some o)) 0, bit_at_lowest (word * 2 % 2 ^ 64), bit_at_lowest (bool_byte (is_some o)), bit_small o)

    higher : (j : ℕ) → j < 63 → bit_at (after word o) (suc j) ≡ bit_at word j
    higher j small =
        let none : bool_byte (is_some o) / 2 ≡ 0 = omega (arith, bit_small o) in
        let same : bit_at (bool_byte (is_some o)) (suc j) ≡ bit_at 0 j = bit_at-suc (bool_byte (is_some o)) j ∙ ap (λ (x : ℕ). bit_at x j) none in
        omega (arith, bit_at_or (word * 2 % 2 ^ 64) (bool_byte (is_some o)) (suc j), same, bit_at-zero j, next_bit word j small)

-- the word of the places from the k-th on, by that of the places after it
module _ {A : Type 0} (places : List (Option A)) (n first step : ℕ) (few : n ≤ 63) (k next word more : ℕ) (follows : next ≡ k + 1) (inside : next ≤ n) (fits : more < 2 ^ 64) (h : HeldFrom places n first step next word) (o : Option A) (at : o ≡ get_or places (first + k * step) None) (put : PutBefore o word more) where
  abbrev Told : ℕ → Type 0
  Told v = (v < n) × (get_or places (first + v * step) None ≢ None)

  pub held_more : HeldFrom places n first step k more
  held_more zero =
      let same : k ≡ k + 0 = omega arith in
      subst (λ (v : ℕ). (bit_at more 0 ≡ 1) ↔ Told v) same (λ e. (omega arith, subst (λ (p : Option A). p ≢ None) at (put.0.0 e)), λ p. put.0.1 (subst (λ (p : Option A). p ≢ None) (sym at) p.1))
  held_more (suc j) = go (cases_lt j 63)
    where
      same : next + j ≡ k + suc j
      same = omega arith

      go : (j < 63) ⊎ (63 ≤ j) → (bit_at more (suc j) ≡ 1) ↔ Told (k + suc j)
      go (inl l) = subst (λ (v : ℕ). (bit_at more (suc j) ≡ 1) ↔ Told v) same (subst (λ (x : ℕ). (x ≡ 1) ↔ Told (next + j)) (sym (put.1 j l)) (h j))
      go (inr l) = (λ e. absurd (omega (arith, e, bit_at_above more 64 (suc j) fits (omega arith))), λ p. absurd (omega (arith, p.0)))
