use Rattle.std.proofs.lemmas.Nat.Bits.{bit_at_ones}
use Rattle.solver.proofs.Visiting.{chains_over_all}
use Rattle.solver.proofs.reach.reach_by.Goals as goal

pub returns : goal.returns
returns g c =
    let net = g.met.N.Network.sound c.args.net.now in
    chains_over_all _ _ net.few _ _ _ (bit_at_ones 64) c.reach_over.ensures
