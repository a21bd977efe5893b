use Rattle.std.proofs.Common.{rules, ℕ, ◌*◌, slice_index, slice_set, sym, subst, inl, inr, arith, get_or-set_other, get_or-set_same}
use Rattle.std.proofs.lemmas.Bool.{cases_eq}
use Rattle.plan.specs.Holding.{Held}
use Rattle.plan.proofs.standing.words_of.Goals as goal

pub loop-event-preserved : goal.loop-event-preserved
loop-event-preserved g c =
    let words = c.loop-event.words in
    let event = c.loop-event.event in
    let word = c.word_of.result in
    record {
      places = search rules;
      held = λ u h. elim (cases_eq u event) [
        | inl e ↦ subst (λ (i : ℕ). Held c.args.places.now c.args.count (i * c.args.apart) c.args.step (slice_index (slice_set words event word) i)) (sym e) (subst (Held c.args.places.now c.args.count (event * c.args.apart) c.args.step) (sym (get_or-set_same words event word 0 (omega arith))) c.word_of.ensures)
        | inr n ↦ subst (Held c.args.places.now c.args.count (u * c.args.apart) c.args.step) (sym (get_or-set_other words event u word 0 n)) (c.loop-event.invariant.held u (omega arith))
      ];
    }
