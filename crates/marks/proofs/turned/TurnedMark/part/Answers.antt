use Rattle.std.proofs.Common.{◌≡◌, ℤ, pos, ◌-ℤ◌, neg_ℤ, Some, ap, ◌∙◌, arith, w64, to_z, of_z}
use Rattle.std.proofs.lemmas.Int.{ints}
use Rattle.rows.specs.Limits.{total_limit}
use Rattle.rows.proofs.Limits.{relations}
use Rattle.marks.specs.Meaning.{Bounded}
use Rattle.marks.proofs.Parts.{part_inside}
use Rattle.marks.proofs.Turning.{part_none, part_some}
use Rattle.marks.proofs.turned.TurnedMark.part.Given as given
use Rattle.marks.proofs.turned.TurnedMark.part.Goals as goal

pub returns-in_err-number : goal.returns-in_err-number
returns-in_err-number g c =
    c.from_residual.ensures ∙ part_none (g.M.Mark.row c.args.self.inner) c.args.index c.in_err-number.ensures

inside : (g : given.Over) (c : goal.In_ok-number g) → Bounded total_limit c.in_ok-number.number
inside g c =
    part_inside total_limit (g.M.Mark.row c.args.self.inner) c.args.index c.in_ok-number.number (g.met.M.Mark.row_limit c.args.self.inner) c.in_ok-number.ensures

pub overflow_sub-result : goal.overflow_sub-result
overflow_sub-result g c =
    let low = (inside g c).0 in
    let high = (inside g c).1 in
    omega (arith, ints, relations.machine)

pub returns : goal.returns
returns g c =
    let low = (inside g c).0 in
    let high = (inside g c).1 in
    let e : to_z w64 (of_z w64 (pos 0 -ℤ to_z w64 (of_z w64 c.in_ok-number.number))) ≡ neg_ℤ c.in_ok-number.number = omega (arith, ints, relations.machine) in
    ap (λ (n : ℤ). Some n) e ∙ part_some (g.M.Mark.row c.args.self.inner) c.args.index c.in_ok-number.number c.in_ok-number.ensures
