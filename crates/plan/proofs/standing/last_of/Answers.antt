use Rattle.std.proofs.Common.{◌≡◌, ℕ, ◌+◌, ◌-◌, ◌*◌, None, subst, arith}
use Rattle.std.proofs.lemmas.List.{get_or_read}
use Rattle.plan.specs.Holding.{HeldFrom}
use Rattle.plan.proofs.Holding.{held_more}
use Rattle.plan.proofs.standing.last_of.Goals as goal

pub loop-k-preserved : goal.loop-k-preserved
loop-k-preserved g c =
    let places = c.args.places.now in
    let k : ℕ = c.loop-k.k - 1 in
    record {
      left = omega arith;
      held = held_more places c.args.count c.args.first c.args.step (omega arith) k c.loop-k.k c.loop-k.word c.with_place-word.result (omega arith) (omega arith) (omega (arith, c.with_place-word.type_inv)) c.loop-k.invariant.held c.index-places-first.result (get_or_read places (c.args.first + k * c.args.step) c.index-places-first.result (c.requires.inside k (omega arith)) c.index-places-first.is None) c.with_place-word.ensures;
    }

pub returns : goal.returns
returns g c =
    let same : c.loop-k.k ≡ c.args.from = omega (arith, c.loop-k.invariant.left) in
    subst (λ (k : ℕ). HeldFrom c.args.places.now c.args.count c.args.first c.args.step k c.loop-k.word) same c.loop-k.invariant.held
