use Rattle.std.proofs.Common.{ℕ, ◌+◌, ◌-◌, ◌*◌, None, arith}
use Rattle.std.proofs.lemmas.List.{get_or_read}
use Rattle.plan.proofs.Holding.{held_more}
use Rattle.plan.proofs.standing.word_of.Goals as goal

pub loop-three-preserved : goal.loop-three-preserved
loop-three-preserved g c =
    let places = c.args.places.now in
    let n = c.args.count in
    let first = c.args.first in
    let step = c.args.step in
    let k : ℕ = 3 * (c.loop-three.three - 1) in
    let high = c.index-places-first.result in
    let middle = c.index-places-first-in-loop-three.result in
    let low = c.index-places-first-in-loop-three-2.result in
    let from_high = held_more places n first step (omega arith) (k + 2) (3 * c.loop-three.three) c.loop-three.word c.with_place-word.result (omega arith) (omega arith) (omega (arith, c.with_place-word.type_inv)) c.loop-three.invariant high (get_or_read places (first + (k + 2) * step) high (c.requires.inside (k + 2) (omega arith)) c.index-places-first.is None) c.with_place-word.ensures in
    let from_middle = held_more places n first step (omega arith) (k + 1) (k + 2) c.with_place-word.result c.with_place-word-in-loop-three.result (omega arith) (omega arith) (omega (arith, c.with_place-word-in-loop-three.type_inv)) from_high middle (get_or_read places (first + (k + 1) * step) middle (c.requires.inside (k + 1) (omega arith)) c.index-places-first-in-loop-three.is None) c.with_place-word-in-loop-three.ensures in
    held_more places n first step (omega arith) k (k + 1) c.with_place-word-in-loop-three.result c.with_place-word-in-loop-three-2.result (omega arith) (omega arith) (omega (arith, c.with_place-word-in-loop-three-2.type_inv)) from_middle low (get_or_read places (first + k * step) low (c.requires.inside k (omega arith)) c.index-places-first-in-loop-three-2.is None) c.with_place-word-in-loop-three-2.ensures
