-- Lists of events: their members, whether they are distinct, and the lowest.
use Rattle.std.proofs.Common.{◌≡◌, ℕ, suc, ◌<◌, ◌≤◌, ◌⊎◌, List, [], ◌∷◌, ◌++◌, reverse, length, get_or, sym, refl, ap, subst, inl, inr, arith}
use mathlib.Core.List.{reverse-cons}
use Rattle.std.proofs.lemmas.Bool.{cases_lt}
use Rattle.schedules.specs.Plans.{Has, Distinct, AllAbove}

-- members of joined lists

pub Has-left : (y : ℕ) (xs ys : List ℕ) → Has y xs → Has y (xs ++ ys)
Has-left y [] ys h = absurd h
Has-left y (x ∷ xs) ys (inl e) = inl e
Has-left y (x ∷ xs) ys (inr h) = inr (Has-left y xs ys h)

pub Has-right : (y : ℕ) (xs ys : List ℕ) → Has y ys → Has y (xs ++ ys)
Has-right y [] ys h = h
Has-right y (x ∷ xs) ys h = inr (Has-right y xs ys h)

pub Has-either : (y : ℕ) (xs ys : List ℕ) → Has y (xs ++ ys) → Has y xs ⊎ Has y ys
Has-either y [] ys h = inr h
Has-either y (x ∷ xs) ys (inl e) = inl (inl e)
Has-either y (x ∷ xs) ys (inr h) = go (Has-either y xs ys h)
  where
    go : Has y xs ⊎ Has y ys → Has y (x ∷ xs) ⊎ Has y ys
    go (inl k) = inl (inr k)
    go (inr k) = inr k

pub Has-swap : (y : ℕ) (xs ys : List ℕ) → Has y (xs ++ ys) → Has y (ys ++ xs)
Has-swap y xs ys h = go (Has-either y xs ys h)
  where
    go : Has y xs ⊎ Has y ys → Has y (ys ++ xs)
    go (inl k) = Has-right y ys xs k
    go (inr k) = Has-left y ys xs k

pub Has-middle : (y f : ℕ) (front back : List ℕ) → Has y (front ++ f ∷ back) → (y ≡ f) ⊎ Has y (front ++ back)
Has-middle y f front back h = go (Has-either y front (f ∷ back) h)
  where
    go : Has y front ⊎ Has y (f ∷ back) → (y ≡ f) ⊎ Has y (front ++ back)
    go (inl k) = inr (Has-left y front back k)
    go (inr (inl e)) = inl e
    go (inr (inr k)) = inr (Has-right y front back k)

-- distinct events of joined lists

pub Distinct-left : (xs ys : List ℕ) → Distinct (xs ++ ys) → Distinct xs
Distinct-left [] ys d = tt
Distinct-left (x ∷ xs) ys d = (λ h. d.0 (Has-left x xs ys h), Distinct-left xs ys d.1)

pub Distinct-right : (xs ys : List ℕ) → Distinct (xs ++ ys) → Distinct ys
Distinct-right [] ys d = d
Distinct-right (x ∷ xs) ys d = Distinct-right xs ys d.1

pub Distinct-apart : (xs ys : List ℕ) → Distinct (xs ++ ys) → (y : ℕ) → Has y xs → Has y ys → ⊥
Distinct-apart [] ys d y h k = h
Distinct-apart (x ∷ xs) ys d y (inl e) k = d.0 (Has-right x xs ys (subst (λ (z : ℕ). Has z ys) e k))
Distinct-apart (x ∷ xs) ys d y (inr h) k = Distinct-apart xs ys d.1 y h k

pub Distinct-join : (xs ys : List ℕ) → Distinct xs → Distinct ys → ((y : ℕ) → Has y xs → Has y ys → ⊥) → Distinct (xs ++ ys)
Distinct-join [] ys d e f = e
Distinct-join (x ∷ xs) ys d e f = (λ h. apart (Has-either x xs ys h), Distinct-join xs ys d.1 e (λ y h k. f y (inr h) k))
  where
    apart : Has x xs ⊎ Has x ys → ⊥
    apart (inl h) = d.0 h
    apart (inr h) = f x (inl refl) h

-- the events but one, in their turned order
pub Distinct-turned : (front : List ℕ) (f : ℕ) (back : List ℕ) → Distinct (front ++ f ∷ back) → Distinct (back ++ front)
Distinct-turned front f back d =
    Distinct-join back front (Distinct-right front (f ∷ back) d).1 (Distinct-left front (f ∷ back) d) (λ y h k. Distinct-apart front (f ∷ back) d y k (inr h))

pub all_above : (f : ℕ) (xs : List ℕ) → ((y : ℕ) → Has y xs → f < y) → AllAbove f xs
all_above f [] h = tt
all_above f (x ∷ xs) h = (h x (inl refl), all_above f xs (λ y k. h y (inr k)))

pub above_all : (f : ℕ) (xs : List ℕ) → AllAbove f xs → (y : ℕ) → Has y xs → f < y
above_all f [] a y h = absurd h
above_all f (x ∷ xs) a y (inl e) = subst (λ (z : ℕ). f < z) (sym e) a.0
above_all f (x ∷ xs) a y (inr h) = above_all f xs a.1 y h

-- events the other way round

Has-reverse : (y : ℕ) (xs : List ℕ) → Has y (reverse xs) → Has y xs
Has-reverse y [] h = h
Has-reverse y (x ∷ xs) h =
    go (Has-either y (reverse xs) (x ∷ []) (subst (Has y) (reverse-cons x xs) h)) (Has-reverse y xs)
  where
    go : Has y (reverse xs) ⊎ Has y (x ∷ []) → (Has y (reverse xs) → Has y xs) → Has y (x ∷ xs)
    go (inl k) rest = inr (rest k)
    go (inr (inl e)) rest = inl e
    go (inr (inr k)) rest = absurd k

pub Distinct-reverse : (xs : List ℕ) → Distinct xs → Distinct (reverse xs)
Distinct-reverse [] d = tt
Distinct-reverse (x ∷ xs) d =
    subst Distinct (sym (reverse-cons x xs)) (Distinct-join (reverse xs) (x ∷ []) (Distinct-reverse xs d.1) ((λ h. h), tt) apart)
  where
    apart : (y : ℕ) → Has y (reverse xs) → Has y (x ∷ []) → ⊥
    apart y h (inl e) = d.0 (subst (λ (z : ℕ). Has z xs) e (Has-reverse y xs h))
    apart y h (inr k) = k

pub AllAbove-reverse : (f : ℕ) (xs : List ℕ) → AllAbove f xs → AllAbove f (reverse xs)
AllAbove-reverse f xs a = all_above f (reverse xs) (λ y h. above_all f xs a y (Has-reverse y xs h))

-- the event left out is not among the others
pub Distinct-but : (front : List ℕ) (f : ℕ) (back : List ℕ) → Distinct (front ++ f ∷ back) → Has f (back ++ front) → ⊥
Distinct-but front f back d h = go (Has-either f back front h)
  where
    go : Has f back ⊎ Has f front → ⊥
    go (inl k) = (Distinct-right front (f ∷ back) d).0 k
    go (inr k) = Distinct-apart front (f ∷ back) d f k (inl refl)

-- a member stands somewhere
pub Has-at : (y : ℕ) (xs : List ℕ) → Has y xs → (j : ℕ) × (j < length xs) × (get_or xs j 0 ≡ y)
Has-at y [] h = absurd h
Has-at y (x ∷ xs) (inl e) = (0, omega arith, sym e)
Has-at y (x ∷ xs) (inr h) =
    let k = Has-at y xs h in
    let lt : k.0 < length xs = k.1 in
    (suc k.0, omega arith, k.2)

-- an event that no event of the list is below is below all the others
pub lowest_above : (front : List ℕ) (f : ℕ) (back : List ℕ) → Distinct (front ++ f ∷ back) → ((y : ℕ) → Has y (front ++ f ∷ back) → f ≤ y) → AllAbove f (back ++ front)
lowest_above front f back d low = all_above f (back ++ front) (λ y h. here y h (low y (among y h)))
  where
    among : (y : ℕ) → Has y (back ++ front) → Has y (front ++ f ∷ back)
    among y h = go (Has-either y back front h)
      where
        go : Has y back ⊎ Has y front → Has y (front ++ f ∷ back)
        go (inl k) = Has-right y front (f ∷ back) (inr k)
        go (inr k) = Has-left y front (f ∷ back) k

    here : (y : ℕ) → Has y (back ++ front) → f ≤ y → f < y
    here y h le = let other : f ≡ y → ⊥ = λ e. Distinct-but front f back d (subst (λ (z : ℕ). Has z (back ++ front)) (sym e) h) in omega arith

-- where the lowest event of a list stands
pub record Lowest (e : ℕ) (es : List ℕ) : Type 0 where
  pub front : List ℕ
  pub low : ℕ
  pub back : List ℕ
  pub split : e ∷ es ≡ front ++ low ∷ back
  pub above : (y : ℕ) → Has y (front ++ back) → low < y

pub lowest : (e : ℕ) (es : List ℕ) → Distinct (e ∷ es) → Lowest e es
lowest e [] d = record { front = []; low = e; back = []; split = refl; above = λ y h. absurd h }
lowest e (g ∷ es) d = go (lowest g es d.1)
  where
    go : Lowest g es → Lowest e (g ∷ es)
    go l = by (cases_lt e l.low)
      where
        met : Has l.low (g ∷ es)
        met = subst (Has l.low) (sym l.split) (Has-right l.low l.front (l.low ∷ l.back) (inl refl))

        first_above : e < l.low → (y : ℕ) → (y ≡ l.low) ⊎ Has y (l.front ++ l.back) → e < y
        first_above h y (inl k) = omega arith
        first_above h y (inr k) = let t : l.low < y = l.above y k in omega arith

        still_above : l.low < e → (y : ℕ) → Has y (e ∷ (l.front ++ l.back)) → l.low < y
        still_above h y (inl k) = omega arith
        still_above h y (inr k) = l.above y k

        by : (e < l.low) ⊎ (l.low ≤ e) → Lowest e (g ∷ es)
        by (inl h) = record {
          front = [];
          low = e;
          back = g ∷ es;
          split = refl;
          above = λ y k. first_above h y (Has-middle y l.low l.front l.back (subst (Has y) l.split k));
        }
        by (inr h) =
            let other : e ≡ l.low → ⊥ = λ k. d.0 (subst (λ (z : ℕ). Has z (g ∷ es)) (sym k) met) in
            record {
              front = e ∷ l.front;
              low = l.low;
              back = l.back;
              split = ap (λ (xs : List ℕ). e ∷ xs) l.split;
              above = still_above (omega arith);
            }
