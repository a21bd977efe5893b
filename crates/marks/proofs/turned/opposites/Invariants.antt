use Rattle.std.proofs.Common.{◌≡◌, ℕ, ◌<◌, length, get_or, pos, neg_ℤ}
use Rattle.std.specs.Int.{saturate_to_bits}
use Rattle.marks.proofs.turned.opposites.Given as goal

abbrev pub invariant-loop-i : goal.invariant-loop-i
invariant-loop-i l =
    (length l.turned ≡ 8) × ((k : ℕ) → k < l.i → get_or l.turned k (pos 0) ≡ saturate_to_bits 63 (neg_ℤ (get_or l.parts k (pos 0))))
