-- Of m + 1 numbers below m two are alike.
use Rattle.std.proofs.Common.{◌≡◌, ℕ, zero, suc, ◌<◌, ◌≤◌, ◌⊎◌, sym, ap, ◌∙◌, inl, inr, arith}
use Rattle.std.proofs.lemmas.Bool.{cases_eq}
use Rattle.schedules.specs.Walks.{Apart}

-- q in the place of n
instead : (n q x : ℕ) → (x ≡ n) ⊎ (x ≡ n → ⊥) → ℕ
instead n q x (inl e) = q
instead n q x (inr d) = x

instead_below : (n q x : ℕ) → x < suc n → q < suc n → (x ≡ q → ⊥) → (c : (x ≡ n) ⊎ (x ≡ n → ⊥)) → instead n q x c < n
unfolding instead
instead_below n q x h k d (inl e) = let f : q ≡ n → ⊥ = λ g. d (e ∙ sym g) in omega arith
instead_below n q x h k d (inr f) = omega arith

instead_apart : (n q x y : ℕ) → (x ≡ y → ⊥) → (x ≡ q → ⊥) → (y ≡ q → ⊥) → (c : (x ≡ n) ⊎ (x ≡ n → ⊥)) (d : (y ≡ n) ⊎ (y ≡ n → ⊥)) → instead n q x c ≡ instead n q y d → ⊥
unfolding instead
instead_apart n q x y a b c (inl e) (inl f) h = a (e ∙ sym f)
instead_apart n q x y a b c (inl e) (inr f) h = c (sym h)
instead_apart n q x y a b c (inr e) (inl f) h = b h
instead_apart n q x y a b c (inr e) (inr f) h = a h

pub pigeonhole : (m : ℕ) (p : ℕ → ℕ) → ((i : ℕ) → i ≤ m → p i < m) → Apart p (suc m) → ⊥
pigeonhole zero p f a = let h : p 0 < 0 = f 0 (omega arith) in omega arith
pigeonhole (suc n) p f a = pigeonhole n (λ i. instead n (p (suc n)) (p i) (cases_eq (p i) n)) below apart
  where
    below : (i : ℕ) → i ≤ n → instead n (p (suc n)) (p i) (cases_eq (p i) n) < n
    below i le = instead_below n (p (suc n)) (p i) (f i (omega arith)) (f (suc n) (omega arith)) (a i (suc n) (omega arith) (omega arith)) (cases_eq (p i) n)

    apart : Apart (λ i. instead n (p (suc n)) (p i) (cases_eq (p i) n)) (suc n)
    apart i j lt le = instead_apart n (p (suc n)) (p i) (p j) (a i j lt (omega arith)) (a i (suc n) (omega arith) (omega arith)) (a j (suc n) (omega arith) (omega arith)) (cases_eq (p i) n) (cases_eq (p j) n)

-- p d is alike to an earlier one, and those before it are all different
pub record Repeat (p : ℕ → ℕ) (d : ℕ) : Type 0 where
  pub back : ℕ
  pub earlier : back < d
  pub alike : p back ≡ p d
  pub apart : Apart p d

look : (p : ℕ → ℕ) (x n : ℕ) → ((c : ℕ) × (c < n) × (p c ≡ x)) ⊎ ((c : ℕ) → c < n → p c ≡ x → ⊥)
look p x zero = inr (λ c h e. omega arith)
look p x (suc n) = go (cases_eq (p n) x) (look p x n)
  where
    go : (p n ≡ x) ⊎ (p n ≡ x → ⊥) → ((c : ℕ) × (c < n) × (p c ≡ x)) ⊎ ((c : ℕ) → c < n → p c ≡ x → ⊥) → ((c : ℕ) × (c < suc n) × (p c ≡ x)) ⊎ ((c : ℕ) → c < suc n → p c ≡ x → ⊥)
    go (inl e) h = inl (n, omega arith, e)
    go (inr d) (inl h) = let k : h.0 < n = h.1 in inl (h.0, omega arith, h.2)
    go (inr d) (inr h) = inr (λ c k e. here c k e (cases_eq c n))
      where
        here : (c : ℕ) → c < suc n → p c ≡ x → (c ≡ n) ⊎ (c ≡ n → ⊥) → ⊥
        here c k e (inl f) = d (ap p (sym f) ∙ e)
        here c k e (inr f) = h c (omega arith) e

-- the first d are all different, or there is a first that is not
repeat_under : (p : ℕ → ℕ) (d : ℕ) → ((e : ℕ) × (e < d) × Repeat p e) ⊎ Apart p d
repeat_under p zero = inr (λ i j h k e. omega arith)
repeat_under p (suc d) = go (repeat_under p d) (look p (p d) d)
  where
    go : ((e : ℕ) × (e < d) × Repeat p e) ⊎ Apart p d → ((c : ℕ) × (c < d) × (p c ≡ p d)) ⊎ ((c : ℕ) → c < d → p c ≡ p d → ⊥) → ((e : ℕ) × (e < suc d) × Repeat p e) ⊎ Apart p (suc d)
    go (inl r) l = let k : r.0 < d = r.1 in inl (r.0, omega arith, r.2)
    go (inr a) (inl l) = inl (d, omega arith, record { back = l.0; earlier = l.1; alike = l.2; apart = a })
    go (inr a) (inr l) = inr (λ i j h k e. here i j h k e (cases_eq j d))
      where
        here : (i j : ℕ) → i < j → j < suc d → p i ≡ p j → (j ≡ d) ⊎ (j ≡ d → ⊥) → ⊥
        here i j h k e (inl f) = l i (omega arith) (e ∙ ap p f)
        here i j h k e (inr f) = a i j h (omega arith) e

-- so one of p 1, .., p m is the first that was met before
pub repeats : (m : ℕ) (p : ℕ → ℕ) → ((i : ℕ) → i ≤ m → p i < m) → (d : ℕ) × (d ≤ m) × Repeat p d
repeats m p f = go (repeat_under p (suc m))
  where
    go : ((e : ℕ) × (e < suc m) × Repeat p e) ⊎ Apart p (suc m) → (d : ℕ) × (d ≤ m) × Repeat p d
    go (inl r) = let k : r.0 < suc m = r.1 in (r.0, omega arith, r.2)
    go (inr a) = absurd (pigeonhole m p f a)
