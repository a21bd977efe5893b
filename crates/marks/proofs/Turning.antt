-- Totals with every sign changed.
use Rattle.std.proofs.Common.{◌≡◌, ℕ, zero, suc, ◌-◌, ◌^◌, ◌<◌, ◌≤◌, min, [], ◌∷◌, length, get_or, take, ℤ, pos, negsuc, neg_ℤ, ◌≤ℤ◌, Some, None, Option, Ordering, Less, Equal, Greater, sym, refl, ap, ◌∙◌, subst, arith}
use Rattle.std.specs.Int.{saturate_to_bits}
use Rattle.std.proofs.lemmas.Int.{ints}
use Rattle.rows.specs.Rows.{Row, Within, negated}
use Rattle.rows.specs.Limits.{total_limit}
use Rattle.rows.proofs.Limits.{relations}
use Rattle.rows.proofs.Order.{before_negated}
use Rattle.rows.proofs.Sums.{cons≡, negated-negated, negated-zeros, Within-negated}
use Rattle.marks.specs.Meaning.{Bounded, Makes, TotalOf, Ranked, part_at}
use Rattle.marks.specs.declared.turned.Turned.{Turned}
use Rattle.std.specs.Option.{option_map}
use Rattle.marks.specs.Opposites.{all_opposite}

-- the answers of sums and of the order

pub sum_turned : {T : Type 0} (row : T → Row) (x y : Row) (o : Option T) (r : Option (Turned T)) → r ≡ option_map (λ (t : T). record { inner = t }) o → negated x ≡ y → TotalOf row x o → TotalOf (λ (t : Turned T). negated (row t.inner)) y r
sum_turned row x y (Some t) r m e h = rw m (subst (Within total_limit) e (Within-negated total_limit x h.0), ap negated h.1 ∙ e)
sum_turned row x y None r m e h = rw m (λ k. h (subst (Within total_limit) (ap negated (sym e) ∙ negated-negated x) (Within-negated total_limit y k)))

pub ranked_turned : (r : Ordering) (x y : Row) → Ranked y x r → Ranked (negated x) (negated y) r
ranked_turned Less x y h = before_negated y x h
ranked_turned Equal x y h = ap negated (sym h)
ranked_turned Greater x y h = before_negated x y h

-- the parts

pub part_none : (x : Row) (i : ℕ) → ◌≡◌ {A = Option ℤ} None (part_at x i) → ◌≡◌ {A = Option ℤ} None (part_at (negated x) i)
part_none [] i e = refl
part_none (a ∷ x) zero e = let z : ◌≡◌ {A = ℕ} 0 1 = cc in absurd (omega arith)
part_none (a ∷ x) (suc i) e = part_none x i e

pub part_some : (x : Row) (i : ℕ) (n : ℤ) → Some n ≡ part_at x i → Some (neg_ℤ n) ≡ part_at (negated x) i
part_some [] i n e = let z : ◌≡◌ {A = ℕ} 0 1 = cc in absurd (omega arith)
part_some (a ∷ x) zero n e = let p : n ≡ a = cc in ap (λ (m : ℤ). Some (neg_ℤ m)) p
part_some (a ∷ x) (suc i) n e = part_some x i n e

-- the numbers that a total is made from

pub all_opposite_at : (xs ys : Row) → length xs ≤ length ys → ((k : ℕ) → k < length xs → get_or ys k (pos 0) ≡ saturate_to_bits 63 (neg_ℤ (get_or xs k (pos 0)))) → take (length xs) ys ≡ all_opposite xs
all_opposite_at [] ys le h = refl
all_opposite_at (x ∷ xs) [] le h = absurd (omega arith)
all_opposite_at (x ∷ xs) (y ∷ ys) le h = cons≡ (h 0 (omega arith)) (all_opposite_at xs ys (omega arith) (λ k l. h (suc k) (omega arith)))

pub length-opposite : (xs : Row) → length (all_opposite xs) ≡ length xs
length-opposite [] = refl
length-opposite (x ∷ xs) = ap suc (length-opposite xs)

-- 64 bits hold every number within the limit of totals, and what they hold for another is beyond it
-- too
inside_held : (z : ℤ) → Bounded total_limit z → saturate_to_bits 63 z ≡ z
inside_held (pos n) h = let high : pos n ≤ℤ pos total_limit = h.1 in ap pos (omega (arith, ints, relations.machine))
inside_held (negsuc n) h = let low : neg_ℤ (pos total_limit) ≤ℤ negsuc n = h.0 in ap negsuc (omega (arith, ints, relations.machine))

held_inside : (z : ℤ) → Bounded total_limit (saturate_to_bits 63 z) → saturate_to_bits 63 z ≡ z
held_inside (pos n) h = let high : pos (min n (2 ^ 63 - 1)) ≤ℤ pos total_limit = h.1 in ap pos (omega (arith, ints, relations.machine))
held_inside (negsuc n) h = let low : neg_ℤ (pos total_limit) ≤ℤ negsuc (min n (2 ^ 63 - 1)) = h.0 in ap negsuc (omega (arith, ints, relations.machine))

negated-inside : (z : ℤ) → Bounded total_limit z → Bounded total_limit (neg_ℤ z)
negated-inside z h =
    let low = h.0 in
    let high = h.1 in
    (omega (arith, ints), omega (arith, ints))

Within-opposite : (xs : Row) → Within total_limit xs → all_opposite xs ≡ negated xs
Within-opposite [] h = refl
Within-opposite (x ∷ xs) h = cons≡ (inside_held (neg_ℤ x) (negated-inside x h.0)) (Within-opposite xs h.1)

opposite_within : (xs : Row) → Within total_limit (all_opposite xs) → all_opposite xs ≡ negated xs
opposite_within [] h = refl
opposite_within (x ∷ xs) h = cons≡ (held_inside (neg_ℤ x) h.0) (opposite_within xs h.1)

pub made_turned : (w : ℕ) (xs r : Row) → Makes w total_limit (all_opposite xs) × (r ≡ all_opposite xs) → Makes w total_limit xs × (negated r ≡ xs)
made_turned w xs r h =
    let e = opposite_within xs h.0.1 in
    let back : negated (all_opposite xs) ≡ xs = ap negated e ∙ negated-negated xs in
    ((sym (length-opposite xs) ∙ h.0.0, subst (Within total_limit) back (Within-negated total_limit (all_opposite xs) h.0.1)), ap negated h.1 ∙ back)

pub unmade_turned : (w : ℕ) (xs : Row) → (Makes w total_limit (all_opposite xs) → ⊥) → Makes w total_limit xs → ⊥
unmade_turned w xs h k =
    h (length-opposite xs ∙ k.0, subst (Within total_limit) (sym (Within-opposite xs k.1)) (Within-negated total_limit xs k.1))

pub ruleset turning = (ranked_turned, negated-zeros)
