-- Cycles of a matrix over rows of one part: traces under numbers, powers under times, chains under
-- powers, and few events in a loop.
use Rattle.std.proofs.Common.{◌≡◌, ℕ, zero, suc, ◌+◌, ◌*◌, ◌<◌, ◌≤◌, ◌⊎◌, Bool, true, false, cond, eqb, List, [], ◌∷◌, length, get_or, ℤ, pos, ◌+ℤ◌, ◌≤ℤ◌, ◌<ℤ◌, Some, None, Option, sym, refl, ap, ◌∙◌, subst, inl, inr, arith}
use Rattle.std.proofs.lemmas.Bool.{cases_lt}
use Rattle.std.proofs.lemmas.Bool.Decides.{nat_tests}
use Rattle.std.proofs.lemmas.Int.{ints}
use Rattle.rows.specs.Algebra.{Matrix, identity, power, ◌≼◌}
use Rattle.rows.specs.MaxPlus.{added}
use Rattle.rows.specs.Rows.{Row, zeros, plus}
use Rattle.rows.proofs.Options.{none_or_some, same_some, both_some}
use Rattle.rows.proofs.Sums.{length-plus}
use Rattle.schedules.specs.Plans.{Lags, Wide, AtLeast, Chain, Has, Distinct, Loop}
use Rattle.schedules.specs.Minutes.{minute}
use Rattle.schedules.proofs.Chains.{chain_from, chain_wide}
use Rattle.schedules.proofs.Members.{above_all}
use Rattle.schedules.proofs.One.{minute_from, minute_to, minute_after, minute-plus}
use Rattle.schedules.proofs.Optional.{WideRow, AtLeast-trans, after_is, row_under}
use Rattle.schedules.proofs.Repeats.{pigeonhole}
use Rattle.algebra.specs.Cycles.{trace}
use Rattle.algebra.proofs.Order.{below_from, below_to, sum_least, sum_reached, sum_rowed, sum_covers}
use Rattle.algebra.proofs.Powers.{identity_at, power_rowed, power_wide, step_rowed}

-- an optional row is at most a number
abbrev pub AtMost : Option Row → ℤ → Type 0
AtMost o z = (r : Row) → o ≡ Some r → minute (Some r) ≤ℤ z

most_from : (o : Option Row) (z : ℤ) → WideRow 1 o → AtMost o z → AtLeast (Some (z ∷ [])) o
most_from None z wide h = tt
most_from (Some r) z wide h = minute_to (z ∷ []) r refl wide (h r refl)

most_to : (o : Option Row) (z : ℤ) → WideRow 1 o → AtLeast (Some (z ∷ [])) o → AtMost o z
most_to None z wide h r e = none_or_some r e
most_to (Some q) z wide h r e = subst (λ (t : Row). minute (Some t) ≤ℤ z) (same_some q r e) (minute_from (z ∷ []) q refl wide h)

-- a trace is at most what bounds the diagonal, and the diagonal at most what bounds the trace
module _ (n : ℕ) (B : Matrix) (rowed : (i : ℕ) → i < n → WideRow 1 (B i i)) where
  trace_rowed : WideRow 1 (trace n B)
  trace_rowed = sum_rowed 1 n (λ i. B i i) rowed

  pub trace_under : (z : ℤ) → ((i : ℕ) → i < n → AtMost (B i i) z) → trace n B ≼ Some (z ∷ [])
  trace_under z h =
      below_from 1 (trace n B) (Some (z ∷ [])) trace_rowed refl (sum_least n (λ i. B i i) (Some (z ∷ [])) (λ i i_in. most_from (B i i) z (rowed i i_in) (h i i_in)))

  pub diagonal_under : (z : ℤ) → trace n B ≼ Some (z ∷ []) → (i : ℕ) → i < n → AtMost (B i i) z
  diagonal_under z h i i_in =
      most_to (B i i) z (rowed i i_in) (AtLeast-trans 1 (Some (z ∷ [])) (trace n B) (B i i) refl trace_rowed (below_to (trace n B) (Some (z ∷ [])) h) (sum_covers 1 n (λ i. B i i) rowed i i_in))

identity_some : (i j : ℕ) (r : Row) → identity 1 i j ≡ Some r → (i ≡ j) × (r ≡ zeros 1)
identity_some i j r e = go (eqb i j) refl e
  where
    alike : eqb i j ≡ true → i ≡ j
    alike t = grind (arith, nat_tests)

    go : (b : Bool) → eqb i j ≡ b → cond b (Some (zeros 1)) None ≡ Some r → (i ≡ j) × (r ≡ zeros 1)
    go true t q = (alike t, same_some r (zeros 1) (sym q))
    go false t q = none_or_some r q

module _ (n : ℕ) (A : Matrix) (wide : Wide 1 n A) where
  pub diagonal_rowed : (k i : ℕ) → i < n → WideRow 1 (power 1 n A k i i)
  diagonal_rowed k i i_in = power_rowed 1 n A wide k i i i_in

  -- times z that keep each entry, with c to spare, keep each power, with k c to spare
  module _ (c : ℕ) (z : ℕ → ℤ) (keeps : (v u : ℕ) (a : Row) → v < n → u < n → A v u ≡ Some a → (z u +ℤ minute (Some a)) ≤ℤ (z v +ℤ pos c)) where
    power_kept : (k v j : ℕ) (r : Row) → v < n → power 1 n A k v j ≡ Some r → (z j +ℤ minute (Some r)) ≤ℤ (z v +ℤ pos (k * c))
    power_kept zero v j r v_in e =
        let t = identity_some v j r e in
        let m : minute (Some r) ≡ pos 0 = ap (λ (q : Row). minute (Some q)) t.1 in
        let y : z v ≡ z j = ap z t.0 in
        omega (arith, ints)
    power_kept (suc k) v j r v_in e =
        let t = sum_reached n (λ u. added (A v u) (power 1 n A k u j)) r e in
        let s = both_some plus (A v t.0) (power 1 n A k t.0 j) r t.2 in
        let rest = power_kept k t.0 j s.1 t.1 s.3 in
        let here = keeps v t.0 s.0 v_in t.1 s.2 in
        let m : minute (Some r) ≡ minute (Some s.0) +ℤ minute (Some s.1) = ap (λ (q : Row). minute (Some q)) (sym s.4) ∙ minute-plus s.0 s.1 (wide v t.0 s.0 v_in t.1 s.2) (power_wide 1 n A wide k t.0 j s.1 t.1 s.3) in
        let more : suc k * c ≡ k * c + c = omega arith in
        omega (arith, ints)

    pub diagonal_kept : (k i : ℕ) → i < n → AtMost (power 1 n A k i i) (pos (k * c))
    diagonal_kept k i i_in r e = let h = power_kept k i i r i_in e in omega (arith, ints)

  -- a chain of the matrix M, each of whose entries lies c below that of A, is under a power of A
  module _ (M : Matrix) (wide_M : Wide 1 n M) (c : ℕ) (related : (v u : ℕ) (a : Row) → v < n → u < n → M v u ≡ Some a → (b : Row) × (A v u ≡ Some b) × ((minute (Some a) +ℤ pos c) ≤ℤ minute (Some b))) where
    -- an entry of the power of A, not before the number
    abbrev Attains : ℕ → ℕ → ℕ → ℤ → Type 0
    Attains k v j q = (r : Row) × (power 1 n A k v j ≡ Some r) × (q ≤ℤ minute (Some r))

    one_step : (k v u j : ℕ) (p q : ℤ) (a s : Row) → v < n → u < n → M v u ≡ Some a → power 1 n A k u j ≡ Some s → p ≤ℤ minute (Some s) → q ≡ p +ℤ (minute (Some a) +ℤ pos c) → Attains (suc k) v j q
    one_step k v u j p q a s v_in u_in e f h is =
        let b = related v u a v_in u_in e in
        let covers : AtLeast (power 1 n A (suc k) v j) (added (A v u) (power 1 n A k u j)) = sum_covers 1 n (λ i. added (A v i) (power 1 n A k i j)) (λ i i_in. step_rowed 1 n A wide k v j i v_in i_in) u u_in in
        let least : AtLeast (power 1 n A (suc k) v j) (Some (plus b.0 s)) = subst (AtLeast (power 1 n A (suc k) v j)) (after_is (A v u) (power 1 n A k u j) b.0 s b.1 f) covers in
        let wide_b = wide v u b.0 v_in u_in b.1 in
        let wide_s = power_wide 1 n A wide k u j s u_in f in
        let t = row_under (power 1 n A (suc k) v j) (plus b.0 s) least in
        let over = minute_from t.0 (plus b.0 s) (power_wide 1 n A wide (suc k) v j t.0 v_in t.1) (length-plus b.0 s 1 wide_b wide_s) t.2 in
        let m = minute-plus b.0 s wide_b wide_s in
        let d = b.2 in
        (t.0, t.1, omega (arith, ints))

    chain_under : (es : List ℕ) (k l v u j : ℕ) (p q : ℤ) (r s : Row) → l ≡ k + suc (length es) → Chain n M u es v r → power 1 n A k u j ≡ Some s → p ≤ℤ minute (Some s) → q ≡ p +ℤ (minute (Some r) +ℤ pos (suc (length es) * c)) → Attains l v j q
    chain_under [] k l v u j p q r s e h f le is =
        let more : suc 0 * c ≡ c = omega arith in
        let t = one_step k v u j p q r s h.1 h.0 h.2 f le (omega (arith, ints, is)) in
        let here : suc k ≡ l = omega (arith, e) in
        (t.0, subst (λ (i : ℕ). power 1 n A i v j ≡ Some t.0) here t.1, t.2)
    chain_under (x ∷ es) k l v u j p q r s e h f le is =
        let x_in : x < n = chain_from n M es x v h.1 h.4 in
        let t = one_step k x u j p (p +ℤ (minute (Some h.0) +ℤ pos c)) h.0 s x_in h.2 h.3 f le refl in
        let m : minute (Some r) ≡ minute (Some h.0) +ℤ minute (Some h.1) = ap (λ (y : Row). minute (Some y)) h.5 ∙ minute-plus h.0 h.1 (wide_M x u h.0 x_in h.2 h.3) (chain_wide 1 n M wide_M es x v h.1 h.4) in
        let more : suc (suc (length es)) * c ≡ suc (length es) * c + c = omega arith in
        chain_under es (suc k) l v x j (p +ℤ (minute (Some h.0) +ℤ pos c)) q h.1 t.0 (omega arith) h.4 t.1 t.2 (omega (arith, ints))

    -- so a loop of M shows a cycle of A whose sum is beyond k c
    pub loop_under : (e : ℕ) (es : List ℕ) → Loop 1 n M (e ∷ es) → (r : Row) × (power 1 n A (suc (length es)) e e ≡ Some r) × (pos (suc (length es) * c) <ℤ minute (Some r))
    loop_under e es l =
        let r = l.2.0 in
        let a = minute_after r (chain_wide 1 n M wide_M es e e r l.2.1.0) l.2.1.1 in
        let t = chain_under es 0 (suc (length es)) e e e (pos 0) (minute (Some r) +ℤ pos (suc (length es) * c)) r (zeros 1) (omega arith) l.2.1.0 (identity_at 1 e) (omega (arith, ints)) (omega (arith, ints)) in
        let g = t.2 in
        (t.0, t.1, omega (arith, ints))

-- the distinct events of a loop below n are at most n

Has-get : (xs : List ℕ) (i : ℕ) → i < length xs → Has (get_or xs i 0) xs
Has-get [] i h = absurd (omega arith)
Has-get (x ∷ xs) zero h = inl refl
Has-get (x ∷ xs) (suc i) h = inr (Has-get xs i (omega arith))

Distinct-get : (xs : List ℕ) (i j : ℕ) → Distinct xs → i < j → j < length xs → get_or xs i 0 ≡ get_or xs j 0 → ⊥
Distinct-get [] i j d h k e = omega arith
Distinct-get (x ∷ xs) i zero d h k e = omega arith
Distinct-get (x ∷ xs) zero (suc j) d h k e = d.0 (subst (λ (y : ℕ). Has y xs) (sym e) (Has-get xs j (omega arith)))
Distinct-get (x ∷ xs) (suc i) (suc j) d h k e = Distinct-get xs i j d.1 (omega arith) (omega arith) e

chain_below : (n : ℕ) (M : Lags) (es : List ℕ) (u v : ℕ) (r : Row) → Chain n M u es v r → (i : ℕ) → i < length (u ∷ es) → get_or (u ∷ es) i 0 < n
chain_below n M es u v r h zero k = chain_from n M es u v r h
chain_below n M [] u v r h (suc i) k = absurd (omega arith)
chain_below n M (x ∷ es) u v r h (suc i) k = chain_below n M es x v h.1 h.4 i (omega arith)

loop_distinct : (n : ℕ) (M : Lags) (e : ℕ) (es : List ℕ) → Loop 1 n M (e ∷ es) → Distinct (e ∷ es)
loop_distinct n M e es l = (λ h. let lt : e < e = above_all e es l.0 e h in omega arith, l.1)

pub loop_short : (n : ℕ) (M : Lags) (e : ℕ) (es : List ℕ) → Loop 1 n M (e ∷ es) → suc (length es) ≤ n
loop_short n M e es l = go (cases_lt n (suc (length es)))
  where
    go : (n < suc (length es)) ⊎ (suc (length es) ≤ n) → suc (length es) ≤ n
    go (inr h) = h
    go (inl h) =
        absurd (pigeonhole n (λ i. get_or (e ∷ es) i 0) (λ i le. chain_below n M es e e l.2.0 l.2.1.0 i (omega arith)) (λ i j lt in_n. Distinct-get (e ∷ es) i j (loop_distinct n M e es l) lt (omega arith)))
