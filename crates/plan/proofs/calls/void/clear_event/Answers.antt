use Rattle.std.proofs.Common.{◌≡◌, ℕ, ◌∙◌, subst, arith}
use Rattle.plan.proofs.Voiding.{cleared_more, cleared_all, ClearedBelow}
use Rattle.plan.proofs.calls.void.clear_event.Goals as goal

pub loop-other-preserved : goal.loop-other-preserved
loop-other-preserved g c =
    let few = c.requires.count in
    let event = c.requires.event in
    let other = c.loop-other-test.true in
    cleared_more c.args.count c.args.event c.loop-other.other c.args.table.now c.loop-other.table c.put_lag.new.table c.put_lag-in-loop-other.new.table event other (c.loop-other.auto.table ∙ c.requires.full) (c.put_lag.ensures few event other) (c.put_lag-in-loop-other.ensures few other event) c.loop-other.invariant

pub returns : goal.returns
returns g c =
    let end : c.loop-other.other ≡ c.args.count = omega arith in
    cleared_all c.args.count c.args.event c.args.table.now c.loop-other.table (subst (λ (i : ℕ). ClearedBelow c.args.count c.args.event i c.args.table.now c.loop-other.table) end c.loop-other.invariant)
