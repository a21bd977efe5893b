use Rattle.std.proofs.Common.{◌≡◌, true, false, length, sym, ap, ◌∙◌, arith, w64, SFits, rules}
use Rattle.std.proofs.lemmas.Int.{to_z-of_z}
use Rattle.std.proofs.lemmas.List.{drop_all}
use Rattle.rows.specs.Limits.{given_limit}
use Rattle.rows.specs.Rows.{inside, bounded}
use Rattle.marks.proofs.Parts.{inside_read, part_missing}
use Rattle.marks.proofs.totals.is_given.Goals as goal

pub returns-in_default : goal.returns-in_default
returns-in_default g c =
    absurd (part_missing (g.K.Mark.row c.args.total) c.loop-index.index (omega (arith, g.met.K.Mark.row_wide c.args.total)) (sym c.in_default.is ∙ c.part.ensures))

pub returns-then-not-allows : goal.returns-then-not-allows
returns-then-not-allows g c =
    let f : SFits w64 c.in-Some.part = search rules in
    let out : false ≡ bounded given_limit c.in-Some.part = simp to_z-of_z at c.if-not-allows.ensures in
    inside_read given_limit (g.K.Mark.row c.args.total) c.loop-index.index c.in-Some.part false c.in-Some.ensures out c.loop-index.invariant

pub loop-index-preserved : goal.loop-index-preserved
loop-index-preserved g c =
    let f : SFits w64 c.in-Some.part = search rules in
    let ok : true ≡ bounded given_limit c.in-Some.part = simp to_z-of_z at c.if-not-allows.ensures in
    inside_read given_limit (g.K.Mark.row c.args.total) c.loop-index.index c.in-Some.part true c.in-Some.ensures ok c.loop-index.invariant

pub returns : goal.returns
returns g c =
    let r = g.K.Mark.row c.args.total in
    let wide : length (g.K.Mark.row c.args.total) ≡ g.K.Mark.WIDTH = g.met.K.Mark.row_wide c.args.total in
    sym (ap (inside given_limit) (drop_all c.loop-index.index (g.K.Mark.row c.args.total) (omega arith))) ∙ c.loop-index.invariant
