-- The events of a closed part of the walk, from the lowest on.
use Rattle.std.proofs.Common.{◌≡◌, ℕ, zero, suc, ◌+◌, ◌-◌, ◌<◌, ◌≤◌, List, [], ◌∷◌, length, get_or, take, drop, reverse, refl, ap, ◌∙◌, subst, arith}
use Rattle.std.specs.List.{between}
use Rattle.std.proofs.lemmas.List.{length-reverse, reverse-append}
use Rattle.std.proofs.lemmas.List.Edits.{between_more, length-between}
use Rattle.schedules.specs.Walks.{backs}
use Rattle.schedules.proofs.Found.{get_or-backs}
use Rattle.solver.specs.Trails.{CircledIn, Holds, MetTwice, rotated, ClosedPartIn}

-- the events after place c, n of them, backwards
backs_is : (path : List ℕ) (p : ℕ → ℕ) (c n : ℕ) → Holds path p (c + n) → c + n < length path → reverse (between (c + 1) (c + n + 1) path) ≡ backs p c n
backs_is path p c zero holds room = ap (λ (k : ℕ). reverse (take k (drop (c + 1) path))) {y = 0} (omega arith)
backs_is path p c (suc n) holds room =
    let e : c + suc n + 1 ≡ c + n + 1 + 1 = omega arith in
    let here : get_or path (c + n + 1) 0 ≡ p (c + suc n) = holds (c + n + 1) (omega arith) ∙ ap p (omega arith) in
    ap (λ (k : ℕ). reverse (between (c + 1) k path)) e ∙ ap reverse (between_more path (c + 1) (c + n + 1) 0 (omega arith) (omega arith)) ∙ reverse-append (between (c + 1) (c + n + 1) path) (get_or path (c + n + 1) 0 ∷ []) ∙ ap (λ (xs : List ℕ). get_or path (c + n + 1) 0 ∷ xs) (backs_is path p c n (λ i h. holds i (omega arith)) (omega arith)) ∙ ap (λ (x : ℕ). x ∷ backs p c n) here

module _ (n : ℕ) (p : ℕ → ℕ) (path row after : List ℕ) (c d : ℕ) (met : MetTwice n p c d) (holds : Holds path p d) (room : d < length path) (circled : CircledIn (between (c + 1) (d + 1) path) row after) where
  order : c < d
  order = met.order

  count : length (between (c + 1) (d + 1) path) ≡ d - c
  count = length-between path (c + 1) (d + 1) (omega arith) ∙ omega arith

  circle_is : reverse (between (c + 1) (d + 1) path) ≡ backs p c (d - c)
  circle_is =
      ap (λ (k : ℕ). reverse (between (c + 1) (k + 1) path)) (omega (arith, order)) ∙ backs_is path p c (d - c) (λ i h. holds i (omega (arith, order))) (omega (arith, order))

  -- from the last place down
  stands : (j : ℕ) → j < d - c → get_or (reverse (between (c + 1) (d + 1) path)) j 0 ≡ p (d - j)
  stands j h = ap (λ (xs : List ℕ). get_or xs j 0) circle_is ∙ get_or-backs p c (d - c) j h ∙ ap p (omega (arith, order))

  low_in : circled.low < d - c
  low_in = omega (arith, (circled.lowest (omega (arith, order, count))).0, length-reverse (between (c + 1) (d + 1) path), count)

  least : (i : ℕ) → c < i → i ≤ d → p (d - circled.low) ≤ p i
  least i h k =
      let at : get_or (reverse (between (c + 1) (d + 1) path)) (d - i) 0 ≡ p i = stands (d - i) (omega arith) ∙ ap p (omega arith) in
      omega (arith, stands circled.low low_in, at, (circled.lowest (omega (arith, order, count))).1 (d - i) (omega (arith, length-reverse (between (c + 1) (d + 1) path), count)))

  pub written_is : ClosedPartIn n p row after (d - c)
  written_is = record {
    first = c;
    last = d;
    low = d - circled.low;
    met = met;
    size = refl;
    after_first = omega (arith, low_in);
    to_last = omega arith;
    least = least;
    rotated_in = record {
      events = subst (λ (k : ℕ). take k after ≡ rotated circled.low (reverse (between (c + 1) (d + 1) path))) count circled.events ∙ ap (rotated circled.low) circle_is ∙ ap (λ (k : ℕ). rotated k (backs p c (d - c))) (omega (arith, low_in));
      rest = subst (λ (k : ℕ). drop k after ≡ drop k row) count circled.rest;
    };
  }
