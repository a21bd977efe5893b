use Rattle.std.proofs.Common.{rules, ℕ, slice_index, sym, ◌∙◌, subst, inl, inr, refl, arith}
use Rattle.std.proofs.lemmas.Bool.{cases_eq}
use Rattle.schedules.specs.Tables.{lags}
use Rattle.solver.specs.Words.{StandsFrom}
use Rattle.trials.proofs.Noting.{none_noted}
use Rattle.trials.proofs.settling.LaidNetwork.stand.Goals as goal

pub loop-from-init : goal.loop-from-init
loop-from-init g c = record {
  noted = λ u l. absurd (omega (arith, l));
  empty = λ u l. none_noted 63 u;
  places = refl;
}

pub loop-from-preserved : goal.loop-from-preserved
loop-from-preserved g c =
    let net = c.args.self.now in
    let from = c.loop-from.from in
    let before = c.loop-from.invariant in
    let stands = StandsFrom net.count (lags g.K.Mark.amount net.count net.places.now) in
    record {
      noted = λ u l. elim (cases_eq u from) [
        | inl e ↦ subst (λ (e : ℕ). stands e (slice_index c.note_from.new.standing e)) (sym e) c.note_from.ensures.noted
        | inr n ↦ subst (stands u) (sym (c.note_from.ensures.others u n)) (before.noted u (omega (arith, l, n)))
      ];
      empty = λ u l. c.note_from.ensures.others u (λ e. absurd (omega (arith, e, l))) ∙ before.empty u (omega (arith, l));
      places = search rules;
    }
