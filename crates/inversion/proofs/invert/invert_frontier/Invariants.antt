use Rattle.std.proofs.Common.{◌≡◌, take, map}
use Rattle.inversion.specs.Inverted.{inverted_point}
use Rattle.inversion.proofs.invert.invert_frontier.Given as goal

abbrev pub invariant-loop-point : goal.invariant-loop-point
invariant-loop-point l = l.points.items ≡ map inverted_point (take l.point-index l.point-items)
