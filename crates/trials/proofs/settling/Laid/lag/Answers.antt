use Rattle.std.proofs.Common.{rules, ◌+◌, ◌*◌, ◌<◌, length, arith}
use Rattle.std.proofs.lemmas.Grind.{common_steps}
use Rattle.trials.proofs.settling.Laid.lag.Goals as goal

pub offset_bounds-self-to : goal.offset_bounds-self-to
offset_bounds-self-to g c =
    let net = c.args.self.now in
    let inside : c.args.to * net.count + c.args.from < length net.places.now = grind (arith, common_steps) in
    search rules
