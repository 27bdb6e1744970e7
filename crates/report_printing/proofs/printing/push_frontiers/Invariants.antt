use Rattle.std.{proofs.Common.{◌≡◌, ◌++◌, take}, specs.List.flat_map}
use Rattle.report_printing.specs.Printed.{frontier_text}
use Rattle.report_printing.proofs.printing.push_frontiers.Given as goal

abbrev pub invariant-loop-part : goal.invariant-loop-part
invariant-loop-part l = l.out.items ≡ l.initial.out.items ++ flat_map (frontier_text l.names) (take l.part-index l.frontiers)
