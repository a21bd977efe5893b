use Rattle.std.proofs.Common.{rules, ◌≡◌, ℕ, List, [], ◌∷◌, length, sym, refl}
use Rattle.plan.proofs.Halving.{half}
use Rattle.plan.proofs.calls.closest.closest.Goals as goal

pub invariant_of-timely : goal.invariant_of-timely
invariant_of-timely c =
    let read = c.in_ok-table_read.table_read in
    let found = c.in_ok-table_read.ensures.answer in
    let same : c.args.stages ≡ read.stages = sym found.stages in
    record {
      one = refl;
      laid = same;
      ready = record {
        served = c.in_ok-check_served.ensures.answer;
        greatest = rw (sym same, found.laid.count, found.lags) c.in_ok-backward.ensures.ends.answer.written;
      };
    }

pub returns-clause-ends : goal.returns-clause-ends
returns-clause-ends c = search rules

pub returns-clause-algebra : goal.returns-clause-algebra
returns-clause-algebra c =
    let read = c.in_ok-table_read in
    let ends = returns-clause-ends c in
    let rows : List ℕ = length c.args.due.now ∷ length c.args.starts.now ∷ [] in
    half refl (λ t. refl) (λ a. refl) c.args.stages c.args.table.now rows read.table_read read.ensures.answer c.args.due.now c.write_closest.new.starts c.write_closest.result (search rules) ends.answer.written
