-- Sums and opposites of rows.
use Rattle.std.proofs.Common.{◌≡◌, ℕ, zero, suc, ◌+◌, ◌≤◌, true, [], ◌∷◌, length, ℤ, pos, ◌+ℤ◌, neg_ℤ, ◌≤ℤ◌, sym, refl, ap, ◌∙◌, ap₂, arith}
use lib.IntN.{+ℤ_assoc, +ℤ_comm, +ℤ_idr, +ℤ_invr}
use lib.Signed.{le_z}
use Rattle.std.proofs.lemmas.Int.{ints}
use Rattle.std.proofs.lemmas.Bool.{and_parts}
use Rattle.rows.specs.Rows.{Row, zeros, plus, minus, negated, Within, bounded, inside}

pub cons≡ : {x y : ℤ} {xs ys : Row} → x ≡ y → xs ≡ ys → ◌≡◌ {A = Row} (x ∷ xs) (y ∷ ys)
cons≡ p q = ap₂ (λ (h : ℤ) (t : Row). h ∷ t) p q

pub plus_assoc : (x y z : Row) → plus (plus x y) z ≡ plus x (plus y z)
plus_assoc [] y z = refl
plus_assoc (a ∷ x) [] z = refl
plus_assoc (a ∷ x) (b ∷ y) [] = refl
plus_assoc (a ∷ x) (b ∷ y) (c ∷ z) = cons≡ (+ℤ_assoc a b c) (plus_assoc x y z)

pub plus_comm : (x y : Row) → plus x y ≡ plus y x
plus_comm [] [] = refl
plus_comm [] (b ∷ y) = refl
plus_comm (a ∷ x) [] = refl
plus_comm (a ∷ x) (b ∷ y) = cons≡ (+ℤ_comm a b) (plus_comm x y)

pub plus_swap : (x y z : Row) → plus (plus x y) z ≡ plus (plus x z) y
plus_swap x y z = plus_assoc x y z ∙ ap (plus x) (plus_comm y z) ∙ sym (plus_assoc x z y)

pub length-zeros : (w : ℕ) → length (zeros w) ≡ w
length-zeros zero = refl
length-zeros (suc w) = ap suc (length-zeros w)

pub length-plus : (x y : Row) (w : ℕ) → length x ≡ w → length y ≡ w → length (plus x y) ≡ w
length-plus [] y w p q = p
length-plus (a ∷ x) [] w p q = q
length-plus (a ∷ x) (b ∷ y) zero p q = omega arith
length-plus (a ∷ x) (b ∷ y) (suc w) p q = let r : length (plus x y) ≡ w = length-plus x y w (omega arith) (omega arith) in omega arith

-- a sum is no longer than its last part with any row as long as the first
pub length-sum_le : (x y a b : Row) → length x ≡ length y → length (plus (plus x a) b) ≤ length (plus y b)
length-sum_le [] y a b e = omega arith
length-sum_le (p ∷ x) [] a b e = absurd (omega arith)
length-sum_le (p ∷ x) (q ∷ y) [] b e = omega arith
length-sum_le (p ∷ x) (q ∷ y) (c ∷ a) [] e = omega arith
length-sum_le (p ∷ x) (q ∷ y) (c ∷ a) (d ∷ b) e =
    let r : length (plus (plus x a) b) ≤ length (plus y b) = length-sum_le x y a b (omega arith) in omega arith

pub length-negated : (x : Row) → length (negated x) ≡ length x
length-negated [] = refl
length-negated (a ∷ x) = ap suc (length-negated x)

pub length-minus : (x y : Row) (w : ℕ) → length x ≡ w → length y ≡ w → length (minus x y) ≡ w
length-minus x y w p q = length-plus x (negated y) w p (length-negated y ∙ q)

pub plus-zeros : (w : ℕ) (x : Row) → length x ≡ w → plus x (zeros w) ≡ x
plus-zeros zero [] h = refl
plus-zeros zero (a ∷ x) h = absurd (omega arith)
plus-zeros (suc w) [] h = refl
plus-zeros (suc w) (a ∷ x) h = cons≡ (+ℤ_idr a) (plus-zeros w x (omega arith))

pub plus-negated : (w : ℕ) (x : Row) → length x ≡ w → plus x (negated x) ≡ zeros w
plus-negated zero [] h = refl
plus-negated zero (a ∷ x) h = absurd (omega arith)
plus-negated (suc w) [] h = absurd (omega arith)
plus-negated (suc w) (a ∷ x) h = cons≡ (+ℤ_invr a) (plus-negated w x (omega arith))

neg_neg : (a : ℤ) → neg_ℤ (neg_ℤ a) ≡ a
neg_neg a = omega (arith, ints)

neg_plus : (a b : ℤ) → neg_ℤ (a +ℤ b) ≡ neg_ℤ a +ℤ neg_ℤ b
neg_plus a b = omega (arith, ints)

pub negated-negated : (x : Row) → negated (negated x) ≡ x
negated-negated [] = refl
negated-negated (a ∷ x) = cons≡ (neg_neg a) (negated-negated x)

pub negated-zeros : (w : ℕ) → negated (zeros w) ≡ zeros w
negated-zeros zero = refl
negated-zeros (suc w) = cons≡ refl (negated-zeros w)

pub negated-plus : (x y : Row) → negated (plus x y) ≡ plus (negated x) (negated y)
negated-plus [] y = refl
negated-plus (a ∷ x) [] = refl
negated-plus (a ∷ x) (b ∷ y) = cons≡ (neg_plus a b) (negated-plus x y)

pub negated-minus : (x y : Row) → negated (minus x y) ≡ plus (negated x) y
negated-minus x y = negated-plus x (negated y) ∙ ap (plus (negated x)) (negated-negated y)

-- taken and added again, and the other way round
pub minus_plus : (x y : Row) → length x ≡ length y → plus (minus x y) y ≡ x
minus_plus x y h =
    plus_assoc x (negated y) y ∙ ap (plus x) (plus_comm (negated y) y ∙ plus-negated (length y) y refl) ∙ plus-zeros (length y) x h

pub plus-minus : (x y : Row) → length x ≡ length y → minus (plus x y) y ≡ x
plus-minus x y h =
    plus_assoc x y (negated y) ∙ ap (plus x) (plus-negated (length y) y refl) ∙ plus-zeros (length y) x h

-- limits

pub Within-zeros : (limit w : ℕ) → Within limit (zeros w)
Within-zeros limit zero = tt
Within-zeros limit (suc w) = ((omega (arith, ints), omega (arith, ints)), Within-zeros limit w)

pub Within-negated : (limit : ℕ) (x : Row) → Within limit x → Within limit (negated x)
Within-negated limit [] h = tt
Within-negated limit (a ∷ x) h =
    let low : neg_ℤ (pos limit) ≤ℤ a = h.0.0 in
    let high : a ≤ℤ pos limit = h.0.1 in
    ((omega (arith, ints), omega (arith, ints)), Within-negated limit x h.1)

pub Within-plus : (a b : ℕ) (x y : Row) → Within a x → Within b y → Within (a + b) (plus x y)
Within-plus a b [] y h k = tt
Within-plus a b (p ∷ x) [] h k = tt
Within-plus a b (p ∷ x) (q ∷ y) h k =
    let pl : neg_ℤ (pos a) ≤ℤ p = h.0.0 in
    let ph : p ≤ℤ pos a = h.0.1 in
    let ql : neg_ℤ (pos b) ≤ℤ q = k.0.0 in
    let qh : q ≤ℤ pos b = k.0.1 in
    ((omega (arith, ints), omega (arith, ints)), Within-plus a b x y h.1 k.1)

pub Within-minus : (a b : ℕ) (x y : Row) → Within a x → Within b y → Within (a + b) (minus x y)
Within-minus a b x y h k = Within-plus a b x (negated y) h (Within-negated b y k)

pub Within-wider : (a b : ℕ) (x : Row) → a ≤ b → Within a x → Within b x
Within-wider a b [] le h = tt
Within-wider a b (p ∷ x) le h =
    let low : neg_ℤ (pos a) ≤ℤ p = h.0.0 in
    let high : p ≤ℤ pos a = h.0.1 in
    ((omega (arith, ints), omega (arith, ints)), Within-wider a b x le h.1)

pub bounded_true : (limit : ℕ) (x : ℤ) → bounded limit x ≡ true → (neg_ℤ (pos limit) ≤ℤ x) × (x ≤ℤ pos limit)
bounded_true limit x h =
    let p = and_parts (le_z (neg_ℤ (pos limit)) x) (le_z x (pos limit)) h in
    (grind (arith, ints), grind (arith, ints))

pub inside_true : (limit : ℕ) (x : Row) → inside limit x ≡ true → Within limit x
inside_true limit [] h = tt
inside_true limit (a ∷ x) h =
    let p = and_parts (bounded limit a) (inside limit x) h in
    (bounded_true limit a p.0, inside_true limit x p.1)
