use Rattle.std.proofs.Common.{rules, ◌≡◌, ℕ, suc, ◌+◌, Option, ap, ◌∙◌, add-one, arith}
use Rattle.std.proofs.lemmas.Iterator.{YieldsList-from_range, YieldsList-from_map}
use Rattle.std.proofs.lemmas.Iterator.Consumers.{reduce_from_yields_List}
use Rattle.std.proofs.lemmas.List.Folds.{max_of_map}
use Rattle.std.specs.List.{range_with_len}
use Rattle.std.specs.Option.{unwrap_or}
use Rattle.schedules.specs.Nearing.{miss}
use Rattle.plan.specs.Passing.{lags_of}
use Rattle.plan.specs.Timed.{due_of, best_of}
use Rattle.schedules.proofs.Largest.{largest_listed}
use Rattle.plan.proofs.calls.closest.timely.Timely.largest_miss.Goals as goal

pub returns : goal.returns
returns g c =
    let plan = c.args.self.now in
    let n = plan.table.stages in
    let f : ℕ → ℕ = miss n (lags_of plan.table) (due_of plan) (best_of plan) in
    let next : (j : ℕ) → f (j + 1) ≡ f (suc j) = λ j. ap f (add-one j) in
    let is = reduce_from_yields_List _ c.map.result c.max.result c.max.ensures.ran (YieldsList-from_map _ (λ j. f (suc j)) (YieldsList-from_range 0 n n c.map.ensures.source (omega arith)) c.map.ensures.closure (λ j r q h. (search rules, search rules ∙ next j))) in
    search rules ∙ ap (λ (o : Option ℕ). unwrap_or o 0) is ∙ max_of_map (λ j. f (suc j)) (range_with_len 0 n) ∙ largest_listed f n
