use Rattle.std.proofs.Common.{rules, ◌≡◌, ℕ, ◌+◌, ◌*◌, [], ◌∷◌, ℤ, pos, ◌+ℤ◌, ap, ◌∙◌, subst, arith, w64, SFits, to_z, of_z}
use Rattle.std.proofs.lemmas.Int.{to_z-of_z}
use Rattle.std.specs.Int.{saturate_signed}
use Rattle.std.specs.Option.{option_map}
use Rattle.schedules.specs.Tables.{start}
use Rattle.marks.specs.Meaning.{TotalMade}
use Rattle.schedules.specs.Minutes.{minute}
use Rattle.plan.specs.Timed.{best_of}
use Rattle.plan.proofs.Moving.{Within-fits, not_saturated, made}
use Rattle.plan.proofs.calls.closest.timely.Timely.moved.Goals as goal

pub returns : goal.returns
returns g c =
    let K = g.K.Mark in
    let plan = c.args.self.now in
    let x = best_of plan in
    let k = c.args.k + 1 in
    let z : ℤ = minute (x (start k)) +ℤ pos c.args.distance in
    let inside = c.requires.1 k (omega arith) (omega (arith, c.requires.0)) in
    let at : 2 * c.args.k + 1 ≡ start k = omega arith in
    let m : c.minute_of-minute.result ≡ minute (x (start k)) = c.minute_of-minute.ensures ∙ ap (λ o. minute (option_map K.row o)) c.time_at.ensures ∙ ap (λ (i : ℕ). minute (x i)) at in
    let fits : SFits w64 c.minute_of-minute.result = search rules in
    let sum : (to_z w64 (of_z w64 c.minute_of-minute.result) +ℤ pos c.args.distance) ≡ z = ap (λ (y : ℤ). y +ℤ pos c.args.distance) (to_z-of_z w64 c.minute_of-minute.result fits ∙ m) in
    let part : c.saturating_add_unsigned.result ≡ z = c.saturating_add_unsigned.ensures ∙ ap (saturate_signed w64) sum ∙ not_saturated z inside in
    let stored : to_z w64 (of_z w64 c.saturating_add_unsigned.result) ≡ z = ap (λ (y : ℤ). to_z w64 (of_z w64 y)) part ∙ to_z-of_z w64 z (Within-fits z inside) in
    made K.WIDTH K.row z c.make_total.result plan.one inside (subst (λ (y : ℤ). TotalMade K.WIDTH K.row (y ∷ []) c.make_total.result) stored c.make_total.ensures)
