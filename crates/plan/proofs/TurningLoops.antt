-- Loops of the reversed plan, read the other way round.
use Rattle.std.proofs.Common.{◌≡◌, ℕ, zero, suc, ◌-◌, ◌≤◌, List, [], ◌∷◌, length, take, drop, reverse, sym, ap, ap₂, ◌∙◌, subst, arith}
use Rattle.std.proofs.lemmas.List.{length-reverse, length-take-le}
use Rattle.std.proofs.lemmas.Slice.{take-put_mid, drop-put_mid}
use borrow.Rule.Slice.PartMut.{put_mid}
use Rattle.schedules.specs.Answers.{Shown}
use Rattle.schedules.specs.Plans.{Lags, Loop, reversed}
use Rattle.schedules.proofs.Mirrored.{mirrored_loop}
use Rattle.plan.specs.Filling.{LoopTurned}

tail_same : (x y : ℕ) (xs ys : List ℕ) → x ∷ xs ≡ y ∷ ys → xs ≡ ys
tail_same x y xs ys e = ap (drop 1) e

head_same : (x y : ℕ) (xs ys : List ℕ) → x ∷ xs ≡ y ∷ ys → x ≡ y
head_same x y xs ys e = cc

turned_at : (n : ℕ) (row back : List ℕ) → suc n ≤ length row → back ≡ reverse (take n (drop 1 row)) → LoopTurned (suc n) row (put_mid 1 n row back)
turned_at n [] back room e = absurd (omega arith)
turned_at n (x ∷ xs) back room e = record { turned = turned; rest = drop-put_mid 1 n (x ∷ xs) back (suc n) (omega arith) (omega arith) long }
  where
    long : length back ≡ n
    long = ap length e ∙ length-reverse (take n xs) ∙ length-take-le n xs (omega arith)

    turned : (f : ℕ) (fs : List ℕ) → x ∷ take n xs ≡ f ∷ fs → take (suc n) (put_mid 1 n (x ∷ xs) back) ≡ f ∷ reverse fs
    turned f fs q =
        take-put_mid 1 n (x ∷ xs) back (suc n) (omega (arith, long)) (omega arith) ∙ ap (λ (ys : List ℕ). x ∷ ys) e ∙ ap₂ (λ (y : ℕ) (ys : List ℕ). y ∷ reverse ys) (head_same x f (take n xs) fs q) (tail_same x f (take n xs) fs q)

pub loop_turned : (len : ℕ) (row back : List ℕ) → 1 ≤ len → len ≤ length row → back ≡ reverse (take (len - 1) (drop 1 row)) → LoopTurned len row (put_mid 1 (len - 1) row back)
loop_turned len row back some room e =
    let same : suc (len - 1) ≡ len = omega arith in
    subst (λ (k : ℕ). LoopTurned k row (put_mid 1 (len - 1) row back)) same (turned_at (len - 1) row back (omega arith) e)

module _ (w m : ℕ) (L : Lags) (row after turned : List ℕ) (len : ℕ) (shown : Shown w m (reversed L) row after len) where
  pub loop_some : 1 ≤ len
  loop_some = go len shown.1
    where
      go : (n : ℕ) → Loop w m (reversed L) (take n after) → 1 ≤ n
      go zero l = absurd l
      go (suc n) l = omega arith

  pub shown_turned : LoopTurned len after turned → Shown w m L row turned len
  shown_turned t = (shown.0, go (take len after) (λ e es q. t.turned e es q) shown.1, t.rest ∙ shown.2)
    where
      go : (es : List ℕ) → ((e : ℕ) (fs : List ℕ) → es ≡ e ∷ fs → take len turned ≡ e ∷ reverse fs) → Loop w m (reversed L) es → Loop w m L (take len turned)
      go [] f l = absurd l
      go (e ∷ fs) f l = subst (Loop w m L) (sym (f e fs (λ i. e ∷ fs))) (mirrored_loop w m L e fs l)
