-- The relations between the limits.
use Rattle.std.proofs.Common.{ℕ, ◌+◌, ◌*◌, ◌≤◌, mul-le-mul_right, arith}
use Rattle.rows.specs.Limits.{lag_limit, total_limit, given_limit, flow_limit, most_events, Relations}

pub relations : Relations
unfolding lag_limit total_limit given_limit flow_limit
relations = record { chain_fits = omega arith; chains_fit = omega arith; given_fits = omega arith; given_chain_fits = omega arith; twice_fits = omega arith; flow_fits = omega arith; machine = omega arith }

-- a chain over at most so many events, and one lag more, fits into a total
pub few_fit : (m : ℕ) → m ≤ most_events → (m + 1) * lag_limit ≤ total_limit
few_fit m h =
    let p : (m + 1) * lag_limit ≤ (most_events + 1) * lag_limit = mul-le-mul_right lag_limit (omega (arith, h)) in
    let q : (most_events + 1) * lag_limit ≤ total_limit = relations.chain_fits in
    omega arith

-- two chains over at most so many events, one after the other, do so too
pub two_fit : (m : ℕ) → m ≤ most_events → m * lag_limit + m * lag_limit ≤ total_limit
two_fit m h =
    let p : m * lag_limit ≤ most_events * lag_limit = mul-le-mul_right lag_limit h in
    let q : most_events * lag_limit + most_events * lag_limit ≤ total_limit = relations.chains_fit in
    omega arith

-- a given total and a chain over at most so many events do so too
pub given_few_fit : (m : ℕ) → m ≤ most_events → given_limit + m * lag_limit ≤ total_limit
given_few_fit m h =
    let p : m * lag_limit ≤ most_events * lag_limit = mul-le-mul_right lag_limit h in
    let q : given_limit + most_events * lag_limit ≤ total_limit = relations.given_chain_fits in
    omega arith

-- of lags as great as a flow a chain over at most so many events, and one lag more, does so too
pub flow_few_fit : (m : ℕ) → m ≤ most_events → (m + 1) * flow_limit ≤ total_limit
flow_few_fit m h =
    let p : (m + 1) * flow_limit ≤ (most_events + 1) * flow_limit = mul-le-mul_right flow_limit (omega (arith, h)) in
    let q : (most_events + 1) * flow_limit ≤ total_limit = relations.flow_fits in
    omega arith

-- a lag is within the limit of flows, and a flow within that of totals
pub lag_flows : lag_limit ≤ flow_limit
unfolding lag_limit flow_limit
lag_flows = omega arith

pub flow_totals : flow_limit ≤ total_limit
flow_totals = let p : (0 + 1) * flow_limit ≤ total_limit = flow_few_fit 0 (omega arith) in omega arith
