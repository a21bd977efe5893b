-- The limits on parts of lags and totals: proofs use the relations between them (`Relations`) and
-- not the numerals, but for those that tie the constants of the code to them. The counts of stages
-- and events are abbreviations, so that proofs see the numbers.
use Rattle.std.specs.Prelude.{ℕ, ◌+◌, ◌-◌, ◌*◌, ◌^◌, ◌<◌, ◌≤◌}

-- on a part of a lag
unfoldable pub lag_limit : ℕ
lag_limit = 1000000

-- on a part of a total
unfoldable pub total_limit : ℕ
total_limit = 4000000000

-- on a part of a total that a call reads from a row it is given
unfoldable pub given_limit : ℕ
given_limit = 1000000000

-- the most stages that a plan has
abbrev pub most_stages : ℕ
most_stages = 31

-- and so its most events: the opening, and a start and a finish for each stage
abbrev pub most_events : ℕ
most_events = 2 * most_stages + 1

-- on a flow: a loop over every event has at most so many lags beside one that carries the flow, so
-- that no flow is after their sum
unfoldable pub flow_limit : ℕ
flow_limit = (most_events - 1) * lag_limit

-- the most parts that a kind of mark has
abbrev pub most_parts : ℕ
most_parts = 8

pub record Relations : Type 0 where
  -- a chain of lags over every event, and one lag more, fits into a total
  pub chain_fits : (most_events + 1) * lag_limit ≤ total_limit
  -- so do two such chains one after the other
  pub chains_fit : most_events * lag_limit + most_events * lag_limit ≤ total_limit
  -- a given total and a lag fit into a total
  pub given_fits : given_limit + lag_limit ≤ total_limit
  -- so do a given total and a chain of lags over every event
  pub given_chain_fits : given_limit + most_events * lag_limit ≤ total_limit
  -- so do twice a given total and four lags
  pub twice_fits : 2 * given_limit + 4 * lag_limit ≤ total_limit
  -- and so does a chain over every event, and one lag more, of lags as great as a flow
  pub flow_fits : (most_events + 1) * flow_limit ≤ total_limit
  -- and the numbers stay far from the ends of 64 bits
  pub machine : total_limit + total_limit < 2 ^ 62
