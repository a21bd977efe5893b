use Rattle.std.proofs.Common.{rules, ◌≡◌, ◌+◌, None, ap, ◌∙◌, add-one}
use Rattle.std.specs.Option.{option_map}
use Rattle.plan.proofs.Filling.{filled}
use Rattle.schedules.specs.Nearing.{moved}
use Rattle.plan.specs.Timed.{best_of}
use Rattle.plan.proofs.calls.closest.timely.Timely.write_moved.Goals as goal

pub returns : goal.returns
returns g c =
    let K = g.K.Mark in
    let n = c.args.self.now.table.stages in
    let e = c.args.distance in
    let x = best_of c.args.self.now in
    let all = filled K.row (λ k o. o ≡ moved x e k) (λ k o. o ≡ None) _ n c.args.starts.now c.write_stages.new.row c.write_stages.ensures (λ k r l p.
    let is : option_map K.row r.0 ≡ moved x e (k + 1) = search rules in
    (is ∙ ap (moved x e) (add-one k), search rules)) in
    record {
      written = record { opening = all.opening; starts = all.starts; finishes = all.finishes };
      rest = c.write_stages.ensures.rest;
    }
