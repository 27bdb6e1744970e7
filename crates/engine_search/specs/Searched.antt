-- The frontier of a collective by that of what was searched in its place (Cai et al., PPoPP 2021, inversion).
use Rattle.std.specs.Prelude.{if◌then◌else◌}
use Rattle.collective_spec.specs.{declared.spec.Spec.Spec, Collectives.adds_up}
use Rattle.candidate_order.specs.Frontiers.{FrontierValue}
use Rattle.inversion.specs.Inverted.{inverted_frontier}

-- the frontier of a collective, made of that of what was searched in its place
abbrev pub asked_frontier : Spec → FrontierValue → FrontierValue
asked_frontier spec f = if adds_up spec then inverted_frontier f else f
