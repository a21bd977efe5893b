-- What the machine's steps make of words of events.
use Rattle.std.proofs.Common.{◌≡◌, ℕ, zero, suc, ◌-◌, ◌*◌, ◌/◌, ◌%◌, ◌^◌, ◌<◌, ◌≤◌, ◌⊎◌, bit_and, bit_or, sym, ap, ◌∙◌, inl, inr, arith, w64, pow_pos}
use Rattle.std.proofs.Math.Nat.{div-lt_iff_lt-mul, le-div_iff_mul-le, pow-suc}
use Rattle.std.proofs.lemmas.Bool.{cases_eq, cases_lt}
use Rattle.std.proofs.lemmas.Nat.{and_le_l, and_le_r, leading_top, one_shl, or_disjoint}
use Rattle.std.proofs.lemmas.Nat.Bits.{bit_at_above, bit_at-suc, bit_at-zero, bit_at_lowest, bit_at_ones, bit_at_ones_above, ones_shr, bit_at_and, bit_at_or, bit_at_not, bit_at-lt, same_from_bits, and_pow, bit_at_set_same, bit_at_set_other, bit_at_clear_same, bit_at_clear_other, bit_at-trailing_zeros}
use Rattle.std.specs.Int.{bit_at, bit_not, leading_zeros, trailing_zeros}
use Rattle.solver.specs.Words.{Added, Among, FirstEvents, Joined, Shared, Split, Without}

-- one less than a word has not the word's lowest event k, and what comes after k is the same
record PastLowest (word k : ℕ) : Type 0 where
  gone : bit_at (word - 1) k ≡ 0
  same : (j : ℕ) → k < j → bit_at (word - 1) j ≡ bit_at word j

past_odd : (word : ℕ) → word % 2 ≡ 1 → PastLowest word 0
past_odd word odd = record { gone = bit_at_lowest (word - 1) ∙ (let even : (word - 1) % 2 ≡ 0 = omega arith in even); same = same }
  where
    half : (word - 1) / 2 ≡ word / 2
    half = omega arith

    same : (j : ℕ) → 0 < j → bit_at (word - 1) j ≡ bit_at word j
    same zero above = absurd (omega arith)
    same (suc j) above = bit_at-suc (word - 1) j ∙ ap (λ (x : ℕ). bit_at x j) half ∙ sym (bit_at-suc word j)

past_even : (word k : ℕ) → word % 2 ≡ 0 → (word / 2 ≡ 0 → ⊥) → PastLowest (word / 2) k → PastLowest word (suc k)
past_even word k even some shorter = record { gone = bit_at-suc (word - 1) k ∙ ap (λ (x : ℕ). bit_at x k) half ∙ shorter.gone; same = same }
  where
    half : (word - 1) / 2 ≡ word / 2 - 1
    half = omega arith

    same : (j : ℕ) → suc k < j → bit_at (word - 1) j ≡ bit_at word j
    same zero above = absurd (omega arith)
    same (suc j) above = bit_at-suc (word - 1) j ∙ ap (λ (x : ℕ). bit_at x j) half ∙ shorter.same j (omega arith) ∙ sym (bit_at-suc word j)

past_lowest : (k word : ℕ) → bit_at word k ≡ 1 → ((j : ℕ) → j < k → bit_at word j ≡ 0) → PastLowest word k
past_lowest zero word set before = past_odd word (sym (bit_at_lowest word) ∙ set)
past_lowest (suc k) word set before =
    let set_half : bit_at (word / 2) k ≡ 1 = sym (bit_at-suc word k) ∙ set in
    let some : word / 2 ≡ 0 → ⊥ = λ none. (let same : bit_at (word / 2) k ≡ bit_at 0 k = ap (λ (x : ℕ). bit_at x k) none in omega (arith, bit_at-zero k, same, set_half)) in
    past_even word k (sym (bit_at_lowest word) ∙ before 0 (omega arith)) some (past_lowest k (word / 2) set_half (λ j below. sym (bit_at-suc word j) ∙ before (suc j) (omega arith)))

-- a word without its lowest event
pub split_lowest : (word : ℕ) → word < 2 ^ 64 → (word ≡ 0 → ⊥) → Split word (trailing_zeros w64 word) (bit_and word (word - 1))
split_lowest word fits some = record {
  inside = low.0;
  has = low.1;
  less = omega (arith, some, and_le_r word (word - 1));
  gone = omega (arith, bit_at_and word (word - 1) k, past.gone);
  others = λ j small other. go j (cases_lt j k) other;
}
  where
    k : ℕ
    k = trailing_zeros w64 word

    low : (k < 64) × (bit_at word k ≡ 1) × ((j : ℕ) → j < k → bit_at word j ≡ 0)
    low = bit_at-trailing_zeros w64 word (omega (arith, some)) fits

    past : PastLowest word k
    past = past_lowest k word low.1 low.2

    go : (j : ℕ) → (j < k) ⊎ (k ≤ j) → (j ≡ k → ⊥) → bit_at (bit_and word (word - 1)) j ≡ bit_at word j
    go j (inl below) other = omega (arith, bit_at_and word (word - 1) j, low.2 j below)
    go j (inr from) other = omega (arith, bit_at_and word (word - 1) j, past.same j (omega (arith, from, other)))

-- a word without an event that was in it
removed : (word k : ℕ) → k < 64 → bit_at word k ≡ 1 → Split word k (bit_and word (bit_not w64 (1 * 2 ^ k % 2 ^ 64)))
removed word k within set =
    let left : ℕ = bit_and word (bit_not w64 (1 * 2 ^ k % 2 ^ 64)) in
    let gone : bit_at left k ≡ 0 = bit_at_clear_same w64 word k within in
    record {
      inside = within;
      has = set;
      less = elim (cases_eq left word) [
        | inl same ↦ absurd (let both : bit_at left k ≡ bit_at word k = ap (λ x. bit_at x k) same in omega arith)
        | inr other ↦ omega (arith, and_le_l word (bit_not w64 (1 * 2 ^ k % 2 ^ 64)))
      ];
      gone = gone;
      others = λ j small other. bit_at_clear_other w64 word k within j small other;
    }

pub split_highest : (word : ℕ) → word < 2 ^ 64 → (word ≡ 0 → ⊥) → Split word (63 - leading_zeros w64 word) (bit_and word (bit_not w64 (1 * 2 ^ (63 - leading_zeros w64 word) % 2 ^ 64)))
split_highest word fits some =
    let top = leading_top 64 word (omega (arith, some)) fits in
    let at : 63 - leading_zeros w64 word ≡ top.0 = omega (arith, top.1) in
    let pos : 0 < 2 ^ top.0 = pow_pos top.0 in
    let once : word / 2 ^ top.0 ≡ 1 = omega (arith, (div-lt_iff_lt-mul {k = 2 ^ top.0} {x = word} {y = 2} pos).1 (omega (arith, top.3, pow-suc 2 top.0)), (le-div_iff_mul-le {k = 2 ^ top.0} {x = 1} {y = word} pos).1 (omega (arith, top.2))) in
    removed word (63 - leading_zeros w64 word) (omega arith) (ap (bit_at word) at ∙ ap (λ (x : ℕ). x % 2) once)

pub added : (word e : ℕ) → e < 64 → Added word e (bit_or word (1 * 2 ^ e % 2 ^ 64))
added word e within = record { has = bit_at_set_same w64 word e within; others = λ k other. bit_at_set_other w64 word e within k other }

pub joined : (one other : ℕ) → Joined one other (bit_or one other)
joined one other k = bit_at_or one other k

pub shared : (one other : ℕ) → Shared one other (bit_and one other)
shared one other k = bit_at_and one other k

-- an event more makes a larger number
pub added_more : (word e after : ℕ) → e < 64 → bit_at word e ≡ 0 → Added word e after → word < after
added_more word e after within unset one =
    let none : bit_at word e * 2 ^ e ≡ 0 * 2 ^ e = ap (λ (x : ℕ). x * 2 ^ e) unset in
    let apart : bit_and word (2 ^ e) ≡ 0 = omega (arith, and_pow word e, none) in
    omega (arith, same_from_bits after set (λ k. same k (cases_eq k e)), ap (bit_or word) (one_shl e 64 within), or_disjoint word (2 ^ e) apart, pow_pos e)
  where
    set : ℕ
    set = bit_or word (1 * 2 ^ e % 2 ^ 64)

    same : (k : ℕ) → (k ≡ e) ⊎ (k ≡ e → ⊥) → bit_at after k ≡ bit_at set k
    same k (inl q) = ap (bit_at after) q ∙ one.has ∙ sym (ap (bit_at set) q ∙ (added word e within).has)
    same k (inr d) = one.others k d ∙ sym ((added word e within).others k d)

pub set_or_not : (word k : ℕ) → (bit_at word k ≡ 0) ⊎ (bit_at word k ≡ 1)
set_or_not word k = go (cases_eq (bit_at word k) 0)
  where
    go : (bit_at word k ≡ 0) ⊎ (bit_at word k ≡ 0 → ⊥) → (bit_at word k ≡ 0) ⊎ (bit_at word k ≡ 1)
    go (inl e) = inl e
    go (inr n) = inr (omega (arith, bit_at-lt word k))

module _ (one other both : ℕ) (h : Joined one other both) (k : ℕ) where
  pub joined_one : bit_at both k ≡ 1 → (bit_at one k ≡ 1) ⊎ (bit_at other k ≡ 1)
  joined_one b = go (set_or_not one k)
    where
      go : (bit_at one k ≡ 0) ⊎ (bit_at one k ≡ 1) → (bit_at one k ≡ 1) ⊎ (bit_at other k ≡ 1)
      go (inl e) = inr (omega (arith, b, e, h k))
      go (inr e) = inl e

  pub joined_left : bit_at one k ≡ 1 → bit_at both k ≡ 1
  joined_left e = omega (arith, e, h k, bit_at-lt other k)

  pub joined_right : bit_at other k ≡ 1 → bit_at both k ≡ 1
  joined_right e = omega (arith, e, h k, bit_at-lt one k)

pub without : (word other : ℕ) → other < 2 ^ 64 → Without word other (bit_and word (bit_not w64 other))
without word other fits k small =
    (λ b. (omega (arith, b, bit_at_and word (bit_not w64 other) k, bit_at-lt word k), omega (arith, b, bit_at_and word (bit_not w64 other) k, bit_at_not w64 other k fits small, bit_at-lt other k)), λ h. omega (arith, h.0, h.1, bit_at_and word (bit_not w64 other) k, bit_at_not w64 other k fits small))

-- and no larger a number
pub without_fewer : (word other left : ℕ) → left < 2 ^ 64 → Without word other left → left ≤ word
without_fewer word other left fits h =
    omega (arith, and_le_l word left, same_from_bits left (bit_and word left) (λ k. same k (cases_lt k 64)))
  where
    inside : (k : ℕ) → k < 64 → (bit_at left k ≡ 0) ⊎ (bit_at left k ≡ 1) → bit_at left k ≡ bit_at (bit_and word left) k
    inside k small (inl e) = omega (arith, e, bit_at_and word left k)
    inside k small (inr e) = omega (arith, e, ((h k small).0 e).0, bit_at_and word left k)

    same : (k : ℕ) → (k < 64) ⊎ (64 ≤ k) → bit_at left k ≡ bit_at (bit_and word left) k
    same k (inl small) = inside k small (set_or_not left k)
    same k (inr large) = omega (arith, bit_at_above left 64 k fits large, bit_at_and word left k)

-- the first n events
ones_are : (n : ℕ) → n ≤ 63 → (2 ^ 64 - 1) / 2 ^ (64 - n) ≡ 2 ^ n - 1
ones_are n le = let e : 64 - (64 - n) ≡ n = omega arith in ones_shr 64 (64 - n) (omega arith) ∙ ap (λ (i : ℕ). 2 ^ i - 1) e

pub first_are : (n : ℕ) → n ≤ 63 → FirstEvents n ((2 ^ 64 - 1) / 2 ^ (64 - n))
first_are n le = record { all = λ k h. ap (λ (x : ℕ). bit_at x k) (ones_are n le) ∙ bit_at_ones n k h; among = λ k small set. go k set (cases_lt k n) }
  where
    go : (k : ℕ) → bit_at ((2 ^ 64 - 1) / 2 ^ (64 - n)) k ≡ 1 → (k < n) ⊎ (n ≤ k) → k < n
    go k set (inl b) = b
    go k set (inr a) = absurd (let z : bit_at (2 ^ n - 1) k ≡ 0 = bit_at_ones_above n k a in let e : bit_at ((2 ^ 64 - 1) / 2 ^ (64 - n)) k ≡ bit_at (2 ^ n - 1) k = ap (λ (x : ℕ). bit_at x k) (ones_are n le) in omega arith)

-- what stays in a word when an event leaves it
pub split_among : (m rest e left : ℕ) → Split rest e left → Among m rest → Among m left
split_among m rest e left split among v small b = go (cases_eq v e)
  where
    go : (v ≡ e) ⊎ (v ≡ e → ⊥) → v < m
    go (inl q) = absurd (let z : bit_at left v ≡ 0 = ap (bit_at left) q ∙ split.gone in omega arith)
    go (inr d) = among v small (sym (split.others v small d) ∙ b)
