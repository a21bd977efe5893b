-- Rows, from the numbers that are stored for their parts.
use Rattle.std.proofs.Common.{◌≡◌, ℕ, zero, suc, ◌+◌, ◌<◌, Bool, ◌&&◌, [], ◌∷◌, length, get_or, map, drop, ℤ, pos, int_cmp, Some, None, Option, Ordering, Less, Equal, Greater, sym, refl, ap, ◌∙◌, subst, inl, inr, arith}
use Rattle.std.specs.List.{range_with_len}
use Rattle.std.specs.Ordering.{MatchOrdering}
use Rattle.std.proofs.lemmas.Cmp.{int_ranked}
use Rattle.std.proofs.lemmas.List.FromFn.{fill_by_all}
use Rattle.rows.specs.Rows.{Row, Within, bounded, inside}
use Rattle.marks.specs.Meaning.{clamped, Bounded, Makes, Ranked, part_at}
use Rattle.rows.proofs.Sums.{cons≡}
use Rattle.marks.proofs.Clamps.{clamped_within}

-- a row is the one that was asked for
abbrev pub Meant : ℕ → Row → Row → Type 0
Meant limit asked row = Within limit asked × (row ≡ asked)

pub none_meant : (limit : ℕ) → Meant limit [] []
none_meant limit = (tt, refl)

-- one part more, the number y that is stored for the part p
pub part_meant : (limit : ℕ) (p y : ℤ) (ps row : Row) → Bounded limit p × (y ≡ p) → Meant limit ps row → Meant limit (p ∷ ps) (clamped limit y ∷ row)
part_meant limit p y ps row k h = ((k.0, h.0), cons≡ (ap (clamped limit) k.1 ∙ clamped_within limit p k.0.0 k.0.1) h.1)

-- numbers of the right count, read one by one
pub parts_read : (w : ℕ) (xs : Row) → length xs ≡ w → xs ≡ map (λ (i : ℕ). get_or xs i (pos 0)) (range_with_len 0 w)
parts_read w xs e = fill_by_all (λ (i : ℕ). get_or xs i (pos 0)) xs w (pos 0) e (λ k lt. refl)

pub row_made : (w limit : ℕ) (xs row : Row) → length xs ≡ w → Meant limit (map (λ (i : ℕ). get_or xs i (pos 0)) (range_with_len 0 w)) row → Makes w limit xs × (row ≡ xs)
row_made w limit xs row e h =
    let back = sym (parts_read w xs e) in
    ((e, subst (Within limit) back h.0), h.1 ∙ back)

-- rows of two parts are ordered by the first, and where that is the same by the second

pub pair_ranked : (x y z w : ℤ) (first r : Ordering) → first ≡ int_cmp x y → MatchOrdering first (r ≡ Less) (r ≡ int_cmp z w) (r ≡ Greater) → Ranked (x ∷ z ∷ []) (y ∷ w ∷ []) r
pair_ranked x y z w Less r h k = rw k (inl (int_ranked x y Less h))
pair_ranked x y z w Equal Less h k = inr (int_ranked x y Equal h, inl (int_ranked z w Less k))
pair_ranked x y z w Equal Equal h k = cons≡ (int_ranked x y Equal h) (cons≡ (int_ranked z w Equal k) refl)
pair_ranked x y z w Equal Greater h k = inr (sym (int_ranked x y Equal h), inl (int_ranked z w Greater k))
pair_ranked x y z w Greater r h k = rw k (inl (int_ranked x y Greater h))

-- what stands at a numbered part

pub part_drop : (r : Row) (i : ℕ) (p : ℤ) → part_at r i ≡ Some p → drop i r ≡ p ∷ drop (i + 1) r
part_drop [] i p h = absurd (never h)
  where
    never : None ≡ Some p → ⊥
    never e = let z : ◌≡◌ {A = ℕ} 0 1 = cc in omega arith
part_drop (x ∷ r) zero p h = cons≡ (cc) refl
part_drop (x ∷ r) (suc i) p h =
    let e : suc (i + 1) ≡ suc i + 1 = omega arith in
    part_drop r i p h ∙ cons≡ refl (ap (λ (k : ℕ). drop k (x ∷ r)) e)

pub part_missing : (r : Row) (i : ℕ) → i < length r → ◌≡◌ {A = Option ℤ} None (part_at r i) → ⊥
part_missing [] i h e = omega arith
part_missing (x ∷ r) zero h e = let z : ◌≡◌ {A = ℕ} 0 1 = cc in omega arith
part_missing (x ∷ r) (suc i) h e = part_missing r i (omega arith) e

-- each part of a row is within the limit of the row
pub part_inside : (limit : ℕ) (x : Row) (i : ℕ) (n : ℤ) → Within limit x → Some n ≡ part_at x i → Bounded limit n
part_inside limit [] i n h e = let z : ◌≡◌ {A = ℕ} 0 1 = cc in absurd (omega arith)
part_inside limit (a ∷ x) zero n h e = let p : a ≡ n = cc in subst (Bounded limit) p h.0
part_inside limit (a ∷ x) (suc i) n h e = part_inside limit x i n h.1 e

-- one part more of a row that is tested part by part

-- b says whether that part is within the limit
pub inside_read : (limit : ℕ) (r : Row) (i : ℕ) (p : ℤ) (b : Bool) → Some p ≡ part_at r i → b ≡ bounded limit p → inside limit (drop i r) ≡ inside limit r → (b && inside limit (drop (i + 1) r)) ≡ inside limit r
inside_read limit r i p b h within e =
    ap (λ t. t && inside limit (drop (i + 1) r)) within ∙ ap (inside limit) (sym (part_drop r i p (sym h))) ∙ e
