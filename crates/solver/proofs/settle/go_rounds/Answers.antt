use Rattle.std.proofs.Common.{◌≡◌, ◌+◌, ◌<◌, length, length-set, sym, ◌∙◌, rules, arith}
use Rattle.schedules.specs.Tables.{times}
use Rattle.solver.proofs.Cells.{times_sized}
use Rattle.solver.proofs.Finding.{back_leads, back_meets, written_loop}
use Rattle.solver.proofs.Going.{going_fits, going_more, part_none, suspect_none, still_settled, walks_back}
use Rattle.solver.proofs.settle.go_rounds.Goals as goal
use Rattle.solver.proofs.settle.go_rounds.Goals.{in_default-via-in-None-1, in_default-via-in-Some+in-None-1}

pub go_round-changed-requires-clause-fits : goal.go_round-changed-requires-clause-fits
go_round-changed-requires-clause-fits g c =
    going_fits _ _ _ c.requires.leaves (times g.N.Kind.Mark.row c.loop-done.work.totals.now) c.loop-done.done c.loop-done.invariant.4 c.loop-done.invariant.0.alike

pub returns-then-changed-eq0-clause-ended : goal.returns-then-changed-eq0-clause-ended
returns-then-changed-eq0-clause-ended g c =
    let net = g.met.N.Network.sound c.args.net.now in
    let row = g.N.Kind.Mark.row in
    let sized = times_sized g.N.Kind.Mark.WIDTH (g.N.Network.size c.args.net.now) row g.met.N.Kind.Mark.row_wide in
    (still_settled g.N.Kind.Mark.WIDTH _ net.few _ net.wide (times row c.args.work.now.totals.now) (sized c.args.work.now.totals.now) (times row c.loop-done.work.totals.now) (times row c.go_round-changed.new.work.totals.now) (sized c.loop-done.work.totals.now) c.loop-done.done c.loop-done.sources c.go_round-changed.new.sources c.loop-done.came c.go_round-changed.new.came c.loop-done.changed c.go_round-changed.result c.loop-done.invariant.0 c.go_round-changed.ensures.round c.if-changed-eq0.true c.loop-done.invariant.4 c.go_round-changed.ensures.came, c.loop-done.invariant.3)

pub write_loop-requires-clause-leads : goal.write_loop-requires-clause-leads
write_loop-requires-clause-leads g c =
    let net = g.met.N.Network.sound c.args.net.now in
    let row = g.N.Kind.Mark.row in
    let m = g.N.Network.size c.args.net.now in
    let sized = times_sized g.N.Kind.Mark.WIDTH m row g.met.N.Kind.Mark.row_wide in
    let room : c.loop-done.done < length c.loop-done.sources = omega (arith, c.loop-done.invariant.4, c.loop-done.invariant.5, net.few) in
    let back = walks_back g.N.Kind.Mark.WIDTH _ net.few _ net.wide (times row c.args.work.now.totals.now) (sized c.args.work.now.totals.now) (times row c.loop-done.work.totals.now) (times row c.go_round-changed.new.work.totals.now) (sized c.loop-done.work.totals.now) c.loop-done.done c.loop-done.sources c.go_round-changed.new.sources c.loop-done.came c.go_round-changed.new.came c.loop-done.changed c.go_round-changed.result c.loop-done.invariant.0 c.go_round-changed.ensures.round room c.in-Some.event c.in-Some.ensures in
    rw c.events-count.ensures (back_leads _ _ _ net (times row c.args.work.now.totals.now) (sized c.args.work.now.totals.now) (c.loop-done.done + 1) (omega arith) _ c.in-Some.event back.0 back.1 back.2)

pub returns-in-loop-done-clause-ended : goal.returns-in-loop-done-clause-ended
returns-in-loop-done-clause-ended g c =
    let net = g.met.N.Network.sound c.args.net.now in
    let row = g.N.Kind.Mark.row in
    let m = g.N.Network.size c.args.net.now in
    let sized = times_sized g.N.Kind.Mark.WIDTH m row g.met.N.Kind.Mark.row_wide in
    let room : c.loop-done.done < length c.loop-done.sources = omega (arith, c.loop-done.invariant.4, c.loop-done.invariant.5, net.few) in
    let back = walks_back g.N.Kind.Mark.WIDTH _ net.few _ net.wide (times row c.args.work.now.totals.now) (sized c.args.work.now.totals.now) (times row c.loop-done.work.totals.now) (times row c.go_round-changed.new.work.totals.now) (sized c.loop-done.work.totals.now) c.loop-done.done c.loop-done.sources c.go_round-changed.new.sources c.loop-done.came c.go_round-changed.new.came c.loop-done.changed c.go_round-changed.result c.loop-done.invariant.0 c.go_round-changed.ensures.round room c.in-Some.event c.in-Some.ensures in
    rw (sym c.loop-done.invariant.3) (written_loop _ _ _ net (times row c.args.work.now.totals.now) (sized c.args.work.now.totals.now) (c.loop-done.done + 1) (omega arith) _ c.in-Some.event back.0 back.1 back.2 _ _ _ c.in-Some-write_loop.ensures)

pub loop-done-preserved : goal.loop-done-preserved
loop-done-preserved g c =
    let net = g.met.N.Network.sound c.args.net.now in
    let row = g.N.Kind.Mark.row in
    let m = g.N.Network.size c.args.net.now in
    let sized = times_sized g.N.Kind.Mark.WIDTH m row g.met.N.Kind.Mark.row_wide in
    let room : c.loop-done.done < length c.loop-done.sources = omega (arith, c.loop-done.invariant.4, c.loop-done.invariant.5, net.few) in
    let going = going_more g.N.Kind.Mark.WIDTH _ net.few _ net.wide (times row c.args.work.now.totals.now) (sized c.args.work.now.totals.now) (times row c.loop-done.work.totals.now) (times row c.go_round-changed.new.work.totals.now) (sized c.loop-done.work.totals.now) c.loop-done.done c.loop-done.sources c.go_round-changed.new.sources c.loop-done.came c.go_round-changed.new.came c.loop-done.changed c.go_round-changed.result c.loop-done.invariant.0 c.go_round-changed.ensures.round room c.go_round-changed.type_inv c.if-changed-eq0.false c.go_round-changed.ensures.came in
    let fewer : (c.loop-done.done + 1 ≡ m → ⊥) → c.loop-done.done + 1 < m = λ d. omega (arith, d, c.loop-done.invariant.4) in
    let full = length-set c.loop-done.sources c.loop-done.done _ ∙ c.loop-done.invariant.5 in
    elim c.in_default.branch [
      | in_default-via-in-None-1 w ↦ (going, c.go_round-changed.ensures.step, search rules, w.loop_row-is ∙ c.loop-done.invariant.3, fewer (λ e. c.if-changed-eq0.false (suspect_none _ _ c.suspect.result (search rules) c.suspect.ensures (e ∙ sym c.events-count.ensures))), full)
      | in_default-via-in-Some+in-None-1 w ↦
          let back = walks_back g.N.Kind.Mark.WIDTH _ net.few _ net.wide (times row c.args.work.now.totals.now) (sized c.args.work.now.totals.now) (times row c.loop-done.work.totals.now) (times row c.go_round-changed.new.work.totals.now) (sized c.loop-done.work.totals.now) c.loop-done.done c.loop-done.sources c.go_round-changed.new.sources c.loop-done.came c.go_round-changed.new.came c.loop-done.changed c.go_round-changed.result c.loop-done.invariant.0 c.go_round-changed.ensures.round room w.in-Some.event w.in-Some.ensures in
          let missed = part_none _ _ _ _ w.write_loop.result (search rules) w.write_loop.ensures in
          (going, c.go_round-changed.ensures.step, search rules, w.loop_row-is ∙ missed.1 ∙ c.loop-done.invariant.3, fewer (λ e. back_meets _ _ _ net (times row c.args.work.now.totals.now) (sized c.args.work.now.totals.now) (c.loop-done.done + 1) (omega arith) _ w.in-Some.event back.0 back.1 back.2 (omega (arith, e)) missed.0), full)
    ]
