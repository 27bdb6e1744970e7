-- The checks of the joined points of an allreduce (Cai et al., PPoPP 2021, allreduce; the order is this project's own).
use Rattle.std.specs.{Prelude.{◌==◌, ◌&&◌, not, Bool, true, false, List, [], ◌∷◌, bytes_eq, Ok, Err}, Cmp.Lexicographic.pointwise}
use Rattle.text_lines.specs.Check.{◌>>=◌, refuse}
use Rattle.outer_ports.specs.declared.part.Part.{Part}
use Rattle.outer_ports.specs.declared.part.Part.TheVariants as part
use Rattle.schedule.specs.{Links.TopologyValue, Sends.{IsSchedule, IsInRange}}
use Rattle.collective_spec.specs.declared.kind.Kind.TheVariants as kind
use Rattle.collective_spec.specs.Collectives.{chunks_of}
use Rattle.candidate_order.specs.{declared.mark.Mark.Mark, Frontiers.{PointValue, FrontierValue}}
use Rattle.candidate_order.specs.declared.mark.Mark.TheVariants as mark
use Rattle.allreduce_join.specs.{Joins.{join_of, pairs_of}, Judging.joined_verdict_of}
use Rattle.report_form.specs.Reports.{ReportValue}
use Rattle.frontier_audit.specs.{declared.verdict.Reason.TheVariants.JoinWrong, Denials.{Denial, Checked, in_part}, Candidates.same_candidate}
use Rattle.inversion.specs.Saying.{says_sums}

abbrev pub same_mark : Mark → Mark → Bool
same_mark mark.Optimal mark.Optimal = true
same_mark mark.Open mark.Open = true
same_mark (mark.Joined m) (mark.Joined n) = m == n
same_mark _ _ = false

abbrev pub same_point : PointValue → PointValue → Bool
same_point a b =
    same_candidate a.candidate b.candidate
    && (bytes_eq a.schedule.rounds b.schedule.rounds && pointwise (λ g h. g.chunk == h.chunk && g.from == h.from && g.to == h.to && g.step == h.step) a.schedule.sends b.schedule.sends)
    && same_mark a.mark b.mark

-- each pair has its join in its turn, which sums every chunk at every node, and no point is left
abbrev pub joins_checked : TopologyValue → List (PointValue × PointValue) → List PointValue → Checked Denial
joins_checked t [] [] = Ok tt
joins_checked t [] (p ∷ ps) = Err (JoinWrong, p.candidate)
joins_checked t (pair ∷ pairs) [] = Err (JoinWrong, (join_of pair.0 pair.1).candidate)
joins_checked t (pair ∷ pairs) (p ∷ ps) = do
  let due = join_of pair.0 pair.1
  _ ← refuse (not (says_sums (joined_verdict_of t (chunks_of kind.Allreduce t.nodes pair.0.candidate.c) due.schedule pair.0.candidate.s) && same_point due p)) (JoinWrong, due.candidate)
  joins_checked t pairs ps

-- a schedule that is valid, of so many chunks and the topology's nodes
pub record IsSummable (t : TopologyValue) (p : PointValue) : Type 0 where
  pub schedule : IsSchedule p.schedule
  pub in_range : IsInRange (chunks_of kind.Allreduce t.nodes p.candidate.c) t.nodes p.schedule

-- only an allreduce has two parts, which are joined
abbrev pub joined_checked : ReportValue → List (Part × FrontierValue) → Checked (Part × Denial)
joined_checked r ((part.Reduce, f) ∷ (part.Gather, h) ∷ []) = in_part part.Joined (joins_checked r.topology.topology (pairs_of f.points h.points) r.joined)
joined_checked r _ = Ok tt
