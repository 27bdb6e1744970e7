-- The reports of what was found.
use Rattle.std.specs.Prelude.{List, [], ◌∷◌, map}
use Rattle.outer_ports.specs.declared.part.Part.TheVariants.{Reduce, Gather}
use Rattle.candidate_order.specs.Frontiers.{PointValue, FrontierValue}
use Rattle.allreduce_join.specs.Joins.{join_of, pairs_of}
use Rattle.topology_text.specs.Value.{NamedTopologyValue}
use Rattle.report_form.specs.Reports.{WordsValue, ReportValue}

-- the joins of all pairs of one chunk count
abbrev pub joins_of : List PointValue → List PointValue → List PointValue
joins_of reduce gather = map (λ pair. join_of pair.0 pair.1) (pairs_of reduce gather)

-- a search in two, with the joins
abbrev pub both_report : WordsValue → NamedTopologyValue → FrontierValue → FrontierValue → ReportValue
both_report w t f g = record { words = w; topology = t; frontiers = (Reduce, f) ∷ (Gather, g) ∷ []; joined = joins_of f.points g.points }
