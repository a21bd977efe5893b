-- Which of two rows is the later, and which the earlier, by what an order of the two answers.
use Rattle.std.proofs.Common.{◌≡◌, Some, Ordering, Less, Equal, Greater, refl, ap, ◌∙◌}
use Rattle.rows.specs.Rows.{Row}
use Rattle.rows.specs.MaxPlus.{later, earlier}
use Rattle.rows.proofs.Extremes.{later_first, later_second, earlier_first, earlier_second}
use Rattle.marks.specs.Meaning.{Ranked}
use Rattle.rows.proofs.Order.{before_asym, NotBefore-same}

pub later_second_at : (o : Ordering) (x y : Row) → Ranked x y o → o ≡ Less → Some y ≡ later (Some x) (Some y)
later_second_at Less x y h e = later_second x y h
later_second_at Equal x y h e = absurd (cc)
later_second_at Greater x y h e = absurd (cc)

pub later_first_at : (o : Ordering) (x y : Row) → Ranked x y o → (o ≡ Less → ⊥) → Some x ≡ later (Some x) (Some y)
later_first_at Less x y h n = absurd (n refl)
later_first_at Equal x y h n = later_first x y (NotBefore-same x y h)
later_first_at Greater x y h n = later_first x y (before_asym y x h)

pub earlier_second_at : (o : Ordering) (x y : Row) → Ranked x y o → o ≡ Greater → Some y ≡ earlier (Some x) (Some y)
earlier_second_at Less x y h e = absurd (cc)
earlier_second_at Equal x y h e = absurd (cc)
earlier_second_at Greater x y h e = earlier_second x y (before_asym y x h)

pub earlier_first_at : (o : Ordering) (x y : Row) → Ranked x y o → (o ≡ Greater → ⊥) → Some x ≡ earlier (Some x) (Some y)
earlier_first_at Less x y h n = earlier_first x y h
earlier_first_at Equal x y h n = ap Some h ∙ earlier_second x y (NotBefore-same x y h)
earlier_first_at Greater x y h n = absurd (n refl)

pub ruleset choices = (later_second_at, later_first_at, earlier_second_at, earlier_first_at)
