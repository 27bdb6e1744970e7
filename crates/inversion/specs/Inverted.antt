-- A frontier with each schedule inverted (Cai et al., PPoPP 2021, inversion).
use Rattle.std.specs.Prelude.{map}
use Rattle.schedule.specs.Inverse.{inverse_of}
use Rattle.candidate_order.specs.Frontiers.{PointValue, FrontierValue}

-- the same candidate and mark, with the inverse of the schedule
abbrev pub inverted_point : PointValue → PointValue
inverted_point p = record { candidate = p.candidate; schedule = inverse_of p.schedule; mark = p.mark }

-- each point with its schedule inverted, and the rest as it is
abbrev pub inverted_frontier : FrontierValue → FrontierValue
inverted_frontier f = record { points = map inverted_point f.points; refuted = f.refuted; unknown = f.unknown }
