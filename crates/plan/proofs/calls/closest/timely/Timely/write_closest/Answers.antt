use Rattle.std.proofs.Common.{ℕ, ◌+◌, ◌*◌, ◌≤◌, subst}
use Rattle.plan.proofs.Readying.{fits, is_closest}
use Rattle.plan.proofs.calls.closest.timely.Timely.write_closest.Goals as goal

pub write_moved-requires : goal.write_moved-requires
write_moved-requires g c =
    let laws = g.met.K.Mark in
    let e = c.half_up-distance.result in
    let tight = subst (λ (m : ℕ). 2 * e ≤ m + 1) c.largest_miss.ensures c.half_up-distance.ensures.1 in
    (fits laws.row_wide laws.amount_wide laws.amount_limit c.args.self.now e tight, c.requires)

pub returns : goal.returns
returns g c =
    let laws = g.met.K.Mark in
    let e = c.half_up-distance.result in
    let enough = subst (λ (m : ℕ). m ≤ 2 * e) c.largest_miss.ensures c.half_up-distance.ensures.0 in
    let tight = subst (λ (m : ℕ). 2 * e ≤ m + 1) c.largest_miss.ensures c.half_up-distance.ensures.1 in
    record {
      written = is_closest laws.row_wide laws.amount_wide laws.amount_limit c.args.self.now e _ enough tight c.write_moved.ensures.written;
      rest = c.write_moved.ensures.rest;
    }
