use Rattle.std.proofs.Common.{◌≡◌, ◌+◌, ◌*◌, ◌<◌, length, None, ◌∙◌, arith}
use Rattle.std.proofs.lemmas.List.{length-set}
use Rattle.plan.proofs.Filling.{staged_step}
use Rattle.plan.proofs.stages.write_stages.Goals as goal

pub loop-stage-preserved : goal.loop-stage-preserved
loop-stage-preserved g c =
    let long : length c.loop-stage.row ≡ length c.args.row.now = c.loop-stage.auto.row ∙ length-set c.args.row.now 0 None in
    let room : 2 * c.loop-stage.stage + 2 < length c.loop-stage.row = omega (arith, c.requires.1) in
    rw c.put_stage.ensures (staged_step (goal.F-post g c.args.times_of) c.loop-stage.stage c.args.row.now c.loop-stage.row c.times_of-start.result room c.loop-stage.invariant c.times_of-start.ensures)
