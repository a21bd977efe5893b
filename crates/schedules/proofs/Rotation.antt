-- A closed chain may begin at any of its events, and so at the lowest.
use Rattle.std.proofs.Common.{◌≡◌, ℕ, ◌+◌, ◌<◌, ◌≤◌, List, [], ◌∷◌, ◌++◌, length, get_or, take, drop, sym, refl, ap, ◌∙◌, subst, subst₂}
use Rattle.std.proofs.lemmas.List.{append-nil, take-append-drop, drop_more}
use Rattle.rows.specs.Rows.{Row, zeros, plus, Before}
use Rattle.rows.proofs.Sums.{plus_assoc, plus_comm}
use Rattle.schedules.specs.Plans.{Lags, Chain, Has, Distinct, AllAbove, Loop}
use Rattle.schedules.proofs.Members.{Distinct-turned, all_above, Has-at, Has-swap, lowest_above, lowest}

-- chains

pub Chain-join : (m : ℕ) (L : Lags) (es fs : List ℕ) (u t v : ℕ) (a b : Row) → Chain m L u es t a → Chain m L t fs v b → Chain m L u (es ++ t ∷ fs) v (plus a b)
Chain-join m L [] fs u t v a b c d = (a, b, c.0, c.2, d, refl)
Chain-join m L (e ∷ es) fs u t v a b c d =
    (c.0, plus c.1 b, c.2, c.3, Chain-join m L es fs e t v c.1 b c.4 d, ap (λ (r : Row). plus r b) c.5 ∙ plus_assoc c.0 c.1 b)

pub Chain-split : (m : ℕ) (L : Lags) (es fs : List ℕ) (u t v : ℕ) (r : Row) → t < m → Chain m L u (es ++ t ∷ fs) v r → (a : Row) × (b : Row) × Chain m L u es t a × Chain m L t fs v b × (r ≡ plus a b)
Chain-split m L [] fs u t v r h c = (c.0, c.1, (c.2, h, c.3), c.4, c.5)
Chain-split m L (e ∷ es) fs u t v r h c =
    let s = Chain-split m L es fs e t v c.1 h c.4 in
    (plus c.0 s.0, s.1, (c.0, s.0, c.2, c.3, s.2, refl), s.3, c.5 ∙ ap (plus c.0) s.4 ∙ sym (plus_assoc c.0 s.0 s.1))

Chain-inside : (m : ℕ) (L : Lags) (es fs : List ℕ) (u t v : ℕ) (r : Row) → Chain m L u (es ++ t ∷ fs) v r → t < m
Chain-inside m L [] [] u t v r c = c.4.0
Chain-inside m L [] (f ∷ fs) u t v r c = c.4.2
Chain-inside m L (e ∷ es) fs u t v r c = Chain-inside m L es fs e t v c.1 c.4

same_head : {x y : ℕ} {xs ys : List ℕ} → ◌≡◌ {A = List ℕ} (x ∷ xs) (y ∷ ys) → x ≡ y
same_head e = cc

same_tail : {x y : ℕ} {xs ys : List ℕ} → ◌≡◌ {A = List ℕ} (x ∷ xs) (y ∷ ys) → xs ≡ ys
same_tail e = cc

-- from another of its events, with the same sum
pub rotated : (m : ℕ) (L : Lags) (e : ℕ) (es front : List ℕ) (f : ℕ) (back : List ℕ) (r : Row) → e ∷ es ≡ front ++ f ∷ back → Chain m L e es e r → Chain m L f (back ++ front) f r
rotated m L e es [] f back r q c =
    subst₂ (λ (x : ℕ) (xs : List ℕ). Chain m L x xs x r) (same_head q) (same_tail q ∙ sym (append-nil back)) c
rotated m L e es (g ∷ front) f back r q c =
    let d : Chain m L g (front ++ f ∷ back) g r = subst₂ (λ (x : ℕ) (xs : List ℕ). Chain m L x xs x r) (same_head q) (same_tail q) c in
    let s = Chain-split m L front back g f g r (Chain-inside m L front back g f g r d) d in
    subst (λ (z : Row). Chain m L f (back ++ g ∷ front) f z) (plus_comm s.1 s.0 ∙ sym s.4) (Chain-join m L back front f g f s.1 s.0 s.3 s.2)

-- a closed chain of distinct events whose sum is after zero, turned so that the lowest is first, is
-- a loop
pub turned_loop : (w m : ℕ) (L : Lags) (e : ℕ) (es front : List ℕ) (f : ℕ) (back : List ℕ) (r : Row) → e ∷ es ≡ front ++ f ∷ back → Distinct (e ∷ es) → AllAbove f (back ++ front) → Chain m L e es e r → Before (zeros w) r → Loop w m L (f ∷ (back ++ front))
turned_loop w m L e es front f back r q d a c h =
    (a, Distinct-turned front f back (subst Distinct q d), (r, (rotated m L e es front f back r q c, h)))

-- so it is, turned at the place of an event that none is below
pub turned_at : (w m : ℕ) (L : Lags) (e : ℕ) (es : List ℕ) (r : Row) (lo : ℕ) → lo < length (e ∷ es) → ((j : ℕ) → j < length (e ∷ es) → get_or (e ∷ es) lo 0 ≤ get_or (e ∷ es) j 0) → Distinct (e ∷ es) → Chain m L e es e r → Before (zeros w) r → Loop w m L (drop lo (e ∷ es) ++ take lo (e ∷ es))
turned_at w m L e es r lo h low d c after =
    subst (λ (ys : List ℕ). Loop w m L (ys ++ take lo (e ∷ es))) (sym rest) (turned_loop w m L e es (take lo (e ∷ es)) f (drop (lo + 1) (e ∷ es)) r split d above c after)
  where
    f : ℕ
    f = get_or (e ∷ es) lo 0

    rest : drop lo (e ∷ es) ≡ f ∷ drop (lo + 1) (e ∷ es)
    rest = drop_more (e ∷ es) lo 0 h

    split : e ∷ es ≡ take lo (e ∷ es) ++ f ∷ drop (lo + 1) (e ∷ es)
    split = sym (take-append-drop lo (e ∷ es)) ∙ ap (λ (ys : List ℕ). take lo (e ∷ es) ++ ys) rest

    low_of : (y : ℕ) → Has y (e ∷ es) → f ≤ y
    low_of y k = let t = Has-at y (e ∷ es) k in subst (λ (z : ℕ). f ≤ z) t.2 (low t.0 t.1)

    above : AllAbove f (drop (lo + 1) (e ∷ es) ++ take lo (e ∷ es))
    above = lowest_above (take lo (e ∷ es)) f (drop (lo + 1) (e ∷ es)) (subst Distinct split d) (λ y k. low_of y (subst (Has y) (sym split) k))

-- so some turn of it is a loop
pub Closed-loop : (w m : ℕ) (L : Lags) (e : ℕ) (es : List ℕ) (r : Row) → Distinct (e ∷ es) → Chain m L e es e r → Before (zeros w) r → (fs : List ℕ) × Loop w m L fs
Closed-loop w m L e es r d c h =
    let l = lowest e es d in
    (l.low ∷ (l.back ++ l.front), turned_loop w m L e es l.front l.low l.back r l.split d (all_above l.low (l.back ++ l.front) (λ y k. l.above y (Has-swap y l.back l.front k))) c h)
