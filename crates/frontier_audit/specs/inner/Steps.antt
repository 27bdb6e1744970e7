-- The checks of an audit as its steps do them.
use Rattle.std.specs.{Prelude.{◌≡◌, ◌==◌, ◌&&◌, ◌||◌, ◌+◌, ◌++◌, not, if◌then◌else◌, ℕ, Bool, List, Option, None, Some, drop, filter, map, Ok, Err}, List.{list_any, flat_map, range_with_len}}
use Rattle.text_lines.specs.Check.{◌>>=◌, refuse}
use Rattle.outer_ports.specs.{declared.part.Part.Part, Files.Files}
use Rattle.schedule.specs.{Links.TopologyValue}
use Rattle.inversion.specs.Saying.{says_sums}
use Rattle.collective_spec.specs.{declared.kind.Kind.{Kind, TheVariants.Allreduce}, Collectives.chunks_of}
use Rattle.candidate_order.specs.{declared.{candidate.Candidate.Candidate, mark.Mark.Mark}, Listed.candidate_at, Frontiers.{QuestionValue, PointValue, UnknownValue, FrontierValue, given_up}}
use Rattle.candidate_order.specs.declared.mark.Mark.TheVariants as mark
use Rattle.allreduce_join.specs.{Joins.{join_of, pairs_of}, Judging.joined_verdict_of}
use Rattle.candidate_formula.specs.{Counts.chunk_counts, Pruned.is_cut_away}
use Rattle.report_form.specs.{Tests.{is_better, is_no_worse}, Reports.{ReportValue, question_of}}
use Rattle.proof_audit.specs.declared.verdict.FileVerdict.{FileVerdict, TheVariants.{Missing, Refused, Stands}}
use Rattle.frontier_audit.specs.{declared.verdict.Reason.{Reason, TheVariants.{CandidateMissing, JoinWrong, MarkWrong, ProofMissing, ScheduleWrong}}, Denials.{Denial, Checked, each, in_part}}
use Rattle.frontier_audit.specs.{Candidates.{candidates_within, is_listed, same_candidate}, Beside.denial_of, Solutions.{is_optimal, is_solution}, Joining.{joined_checked, joins_checked, same_mark, same_point}}
use Rattle.frontier_audit.specs.{Parts.{is_gather, is_reduce, points_of}, Auditing.{frontier_checked, refutation_checked}}

-- ---- the checks of each part by name

-- the mark says whether that is so
abbrev pub is_mark : Bool → Mark → Bool
is_mark optimal m = same_mark (if optimal then mark.Optimal else mark.Open) m

abbrev pub point_checked : QuestionValue → PointValue → Checked Denial
point_checked q p = refuse (not (is_solution q p)) (ScheduleWrong, p.candidate)

-- of one that is cut away nothing has to stand there
abbrev pub refuted_checked : Part → QuestionValue → Files → Candidate → Checked Denial
refuted_checked part q files x = if is_cut_away q x then Ok tt else refutation_checked part q files x

-- a point is no worse, or the candidate is refuted, or unknown
abbrev pub is_answered : FrontierValue → Candidate → Bool
is_answered f x = list_any (λ p. is_no_worse p.candidate x) f.points || is_listed f.refuted x || is_listed (given_up f) x

abbrev pub candidate_checked : FrontierValue → Candidate → Checked Denial
candidate_checked f x = refuse (not (is_answered f x)) (CandidateMissing, x)

abbrev pub mark_checked : QuestionValue → FrontierValue → PointValue → Checked Denial
mark_checked q f p = refuse (not (is_mark (is_optimal q f p.candidate) p.mark)) (MarkWrong, p.candidate)

-- the candidates of a step, by rounds and then by chunk count
abbrev pub candidates_of_step : QuestionValue → ℕ → List Candidate
candidates_of_step q s = flat_map (λ r. map (λ c. candidate_at s (r, c)) (chunk_counts q)) (range_with_len s (q.limits.k + 1))

-- ---- files

-- what the verdict on a file says, where this is the reason for one that fails its test
abbrev pub judged : FileVerdict → Reason → Candidate → Checked Denial
judged Missing refused x = Err (ProofMissing, x)
judged Refused refused x = Err (refused, x)
judged Stands refused x = Ok tt

-- ---- candidates

-- those that are not refuted
abbrev pub unrefuted_among : List Candidate → List Candidate → List Candidate
unrefuted_among refuted xs = filter (λ x. not (is_listed refuted x)) xs

-- some point is no worse
abbrev pub is_settled : List PointValue → Candidate → Bool
is_settled points x = list_any (λ p. is_no_worse p.candidate x) points

-- some other is better
abbrev pub is_bettered : List Candidate → Candidate → Bool
is_bettered others x = list_any (λ y. is_better y x) others

-- it was given up
abbrev pub is_given_up : List UnknownValue → Candidate → Bool
is_given_up unknown x = list_any (λ u. same_candidate x u.candidate) unknown

-- a candidate that is not refuted has to be settled or given up
abbrev pub is_left_answered : FrontierValue → Candidate → Bool
is_left_answered f x = is_settled f.points x || is_given_up f.unknown x

-- a mark says whether none of these is better
abbrev pub has_mark_among : List Candidate → PointValue → Bool
has_mark_among left p = is_mark (not (is_bettered left p.candidate)) p.mark

-- the candidates of a part, and then its marks
abbrev pub answers_checked : QuestionValue → FrontierValue → Checked Denial
answers_checked q f = do
  _ ← each (candidate_checked f) (candidates_within q)
  each (mark_checked q f) f.points

-- ---- parts

-- a part of a report
abbrev pub part_checked : ReportValue → Files → Part × FrontierValue → Checked (Part × Denial)
part_checked r files x = in_part x.0 (frontier_checked x.0 (question_of r.words r.topology x.0) files x.1)

abbrev pub parts_checked : ReportValue → Files → List (Part × FrontierValue) → Checked (Part × Denial)
parts_checked r files xs = each (part_checked r files) xs

-- each part, and then what is joined
abbrev pub report_checked : ReportValue → Files → Checked (Part × Denial)
report_checked r files = do
  _ ← parts_checked r files r.frontiers
  joined_checked r r.frontiers

-- ---- joined points

-- the join of the two sums every chunk at every node
abbrev pub is_join : TopologyValue → PointValue × PointValue → Bool
is_join t pair = says_sums (joined_verdict_of t (chunks_of Allreduce t.nodes pair.0.candidate.c) (join_of pair.0 pair.1).schedule pair.0.candidate.s)

-- a point with each of the others that has its chunk count
abbrev pub pairs_with : PointValue → List PointValue → List (PointValue × PointValue)
pairs_with p gather = map (λ q. (p, q)) (filter (λ q. q.candidate.c == p.candidate.c) gather)

-- the next printed point is the join of the two
abbrev pub join_checked : TopologyValue → PointValue × PointValue → Option PointValue → Checked Denial
join_checked t pair None = Err (JoinWrong, (join_of pair.0 pair.1).candidate)
join_checked t pair (Some p) = refuse (not (is_join t pair && same_point (join_of pair.0 pair.1) p)) (JoinWrong, (join_of pair.0 pair.1).candidate)

-- the joins of these pairs are printed from one place to another; or they stop with this denial
abbrev pub JoinsSay : TopologyValue → List (PointValue × PointValue) → List PointValue → ℕ → ℕ → Option Denial → Type 0
JoinsSay t pairs joined before now None = (more : List (PointValue × PointValue)) → joins_checked t (pairs ++ more) (drop before joined) ≡ joins_checked t more (drop now joined)
JoinsSay t pairs joined before now (Some d) = (more : List (PointValue × PointValue)) → denial_of (joins_checked t (pairs ++ more) (drop before joined)) ≡ Some d

-- only an allreduce joins
abbrev pub joins_of : Kind → ReportValue → Checked Denial
joins_of Allreduce r = joins_checked r.topology.topology (pairs_of (points_of is_reduce r.frontiers) (points_of is_gather r.frontiers)) r.joined
joins_of _ r = Ok tt
