use Rattle.std.proofs.Common.{◌≡◌, ℕ, suc, ◌-◌, ◌≤◌, true, false, cond, List, [], ◌∷◌, length, get_or, Some, None, sym, refl, ap, ◌∙◌, arith}
use Rattle.std.proofs.lemmas.Bool.Decides.{nat_tests}
use Rattle.std.proofs.lemmas.Bool.{cond-false}
use Rattle.plan.specs.Checks.{stages_missed}
use Rattle.schedules.specs.Tables.{places}
use Rattle.plan.proofs.TableRule.{follows, rule_at}
use Rattle.rows.specs.Limits.{most_stages}
use Rattle.plan.proofs.table.count_places.Goals as goal

by_rule : (xs : List ℕ) (n : ℕ) → 1 ≤ n → n ≤ most_stages → length xs ≡ most_stages → follows (λ (i : ℕ). places (suc i)) 0 xs ≡ true → Some (get_or xs (n - 1) 0) ≡ cond (stages_missed most_stages n) None (Some (places n))
by_rule xs n low high len test =
    let in_range : stages_missed most_stages n ≡ false = grind (arith, nat_tests) in
    let one_more : suc (n - 1) ≡ n = omega arith in
    ap Some (rule_at (λ (i : ℕ). places (suc i)) xs test (n - 1) (omega arith) ∙ ap places one_more) ∙ sym (cond-false (stages_missed most_stages n) None (Some (places n)) in_range)

-- the table of the code
abbrev counts : List ℕ
counts = 9 ∷ 25 ∷ 49 ∷ 81 ∷ 121 ∷ 169 ∷ 225 ∷ 289 ∷ 361 ∷ 441 ∷ 529 ∷ 625 ∷ 729 ∷ 841 ∷ 961 ∷ 1089 ∷ 1225 ∷ 1369 ∷ 1521 ∷ 1681 ∷ 1849 ∷ 2025 ∷ 2209 ∷ 2401 ∷ 2601 ∷ 2809 ∷ 3025 ∷ 3249 ∷ 3481 ∷ 3721 ∷ 3969 ∷ []

-- one test over the whole table
pub returns : goal.returns
returns c = by_rule counts c.args.stages (omega arith) (omega arith) refl refl
