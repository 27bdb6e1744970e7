use Rattle.std.proofs.Common.{◌≡◌, take}
use Rattle.report_search.specs.inner.Reporting.{joins_of}
use Rattle.report_search.proofs.joining.joins.Given as goal

abbrev pub invariant-loop-first : goal.invariant-loop-first
invariant-loop-first l = l.joined.items ≡ joins_of (take l.first-index l.reduce) l.gather
