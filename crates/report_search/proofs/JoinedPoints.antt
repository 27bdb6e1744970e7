-- The joins of what was found in the two parts of an allreduce: they keep the rules of reports, and are all that are due.
use Rattle.std.proofs.{Common.{◌≡◌, ℕ, ◌*◌, List, All, Option, None, refl, sym, ap, subst, ◌∙◌, arith}, lemmas.List.Elements.{All-contains, All-from_recursion, All-map, All-weaker}}
use Rattle.outer_ports.specs.declared.part.Part.TheVariants.{Reduce, Gather, Joined}
use Rattle.schedule.{specs.Sends.{IsSchedule, IsInRange}, proofs.First.{Contains-from_Among, each_among}}
use Rattle.collective_spec.specs.{declared.kind.Kind.Kind, Patterns.PatternValue, Collectives.{chunks_in, chunks_of, spec_of}}
use Rattle.collective_spec.specs.declared.kind.Kind.TheVariants as kind
use Rattle.candidate_order.{specs.{Frontiers.{QuestionValue, FrontierValue, PointValue, RightFrontier, Searched}, Ranges.IsLimits}, proofs.Orders.has_chunk}
use Rattle.allreduce_join.{specs.Joins.{IsJoinable, Joins, join_of, one_after, pairs_of}, proofs.{Frontiers.frontiers_join, Paired.{IsPair, pairs_among}, Sequence.{in_range_sequence, sizes_sequence, valid_sequence}}}
use Rattle.topology_text.specs.Value.{NamedTopologyValue}
use Rattle.report_form.specs.Reports.{WordsValue, IsJoinedPoint, IsPrintedPoint, question_of}
use Rattle.frontier_audit.specs.Searches.{IsAsked}
use Rattle.engine_search.specs.Found.{IsFound}
use Rattle.report_search.{specs.inner.Reporting.joins_of, proofs.{PartQuestions.none_given, Valid.valid_frontier}}

-- ---- points that may be joined

joinable : (q : QuestionValue) (p : PointValue) → IsLimits q.limits → IsPrintedPoint q p → IsJoinable p
joinable q p limits point = let within = point.within.steps in let most = limits.steps in record { steps = point.has.steps; rounds = point.has.rounds; few = omega (arith, within, most) }

pub all_joinable : (q : QuestionValue) (f : FrontierValue) (points : List PointValue) → points ≡ f.points → IsLimits q.limits → IsFound q f → All IsJoinable points
all_joinable q f points is limits found =
    subst (All IsJoinable) (sym is) (All-weaker (IsPrintedPoint q) IsJoinable (λ p point. joinable q p limits point) f.points (valid_frontier q f found).points)

module _ (w : WordsValue) (t : NamedTopologyValue) (asked : IsAsked w t) (is : w.collective.kind ≡ kind.Allreduce) where
  abbrev nodes : ℕ
  nodes = t.topology.nodes

  -- each part has as many chunks as the whole
  chunks_alike : (k : Kind) (c : ℕ) → chunks_of k nodes c ≡ nodes * c → chunks_in (spec_of (record { kind = k; root = w.collective.root }) t.custom) nodes c ≡ nodes * c
  chunks_alike k c alike = ap (λ custom. chunks_in (spec_of (record { kind = k; root = w.collective.root }) custom) nodes c) (none_given w t asked is) ∙ alike

  joined_schedule : (a b : PointValue) → IsPrintedPoint (question_of w t Reduce) a → IsPrintedPoint (question_of w t Gather) b → IsSchedule (join_of a b).schedule
  joined_schedule a b first second =
      let steps = first.within.steps in
      let more = second.within.steps in
      let most = asked.words.limits.steps in
      let as_many = first.has.steps in
      let more_as_many = second.has.steps in
      subst (λ n. IsSchedule (one_after n a.schedule b.schedule)) first.has.steps (valid_sequence a.schedule b.schedule first.has.schedule second.has.schedule (omega (arith, steps, more, most, as_many, more_as_many)))

  joined_in_range : (a b : PointValue) → IsPrintedPoint (question_of w t Reduce) a → IsPrintedPoint (question_of w t Gather) b → b.candidate.c ≡ a.candidate.c
      → IsInRange (chunks_in (question_of w t Joined).spec nodes a.candidate.c) nodes (join_of a b).schedule
  joined_in_range a b first second same =
      let here : IsInRange (nodes * a.candidate.c) nodes a.schedule = subst (λ n. IsInRange n nodes a.schedule) (chunks_alike kind.Reducescatter a.candidate.c refl) first.has.in_range in
      let there : IsInRange (nodes * a.candidate.c) nodes b.schedule = subst (λ n. IsInRange n nodes b.schedule) (chunks_alike kind.Allgather b.candidate.c refl ∙ ap (λ c. nodes * c) same) second.has.in_range in
      subst (λ n. IsInRange n nodes (join_of a b).schedule) (sym (chunks_alike w.collective.kind a.candidate.c (ap (λ k. chunks_of k nodes a.candidate.c) is)))
      (in_range_sequence (nodes * a.candidate.c) nodes a.candidate.s a.schedule b.schedule here there)

  joined_point : (a b : PointValue) → IsPrintedPoint (question_of w t Reduce) a → IsPrintedPoint (question_of w t Gather) b → b.candidate.c ≡ a.candidate.c → IsJoinedPoint (question_of w t Joined) (join_of a b)
  joined_point a b first second same =
      let sizes = sizes_sequence a.candidate.s a.schedule b.schedule in
      let x = first.within in
      let y = second.within in
      record {
        has = record {
          schedule = joined_schedule a b first second;
          steps = let as_many = first.has.steps in let more = second.has.steps in omega (arith, sizes.0, as_many, more);
          rounds = let as_many = first.has.rounds in let more = second.has.rounds in omega (arith, sizes.1, as_many, more);
          in_range = joined_in_range a b first second same;
        };
        some_steps = omega (arith, x.some_steps, y.some_steps);
        steps = omega (arith, x.steps, y.steps);
        all_rounds = omega (arith, x.all_rounds, y.all_rounds);
        rounds = omega (arith, x.rounds, y.rounds);
        some_chunks = has_chunk (question_of w t Reduce) a.candidate x;
        chunks = x.chunks;
        adding = a.candidate.s;
        mark = refl;
        some_add = x.some_steps;
        some_copy = omega (arith, y.some_steps);
      }

  module _ (f g : FrontierValue) (found : IsFound (question_of w t Reduce) f) (found_too : IsFound (question_of w t Gather) g) where
    of_pair : (pair : PointValue × PointValue) → IsPair f.points g.points pair → IsJoinedPoint (question_of w t Joined) (join_of pair.0 pair.1)
    of_pair pair two =
        let a = All-contains (IsPrintedPoint (question_of w t Reduce)) f.points pair.0 (valid_frontier (question_of w t Reduce) f found).points (Contains-from_Among pair.0 f.points two.of_reduce) in
        let b = All-contains (IsPrintedPoint (question_of w t Gather)) g.points pair.1 (valid_frontier (question_of w t Gather) g found_too).points (Contains-from_Among pair.1 g.points two.of_gather) in
        joined_point pair.0 pair.1 a b two.same_count

    pub joined_points : All (IsJoinedPoint (question_of w t Joined)) (joins_of f.points g.points)
    joined_points =
        let OfPair : PointValue × PointValue → Type 0 = λ pair. IsJoinedPoint (question_of w t Joined) (join_of pair.0 pair.1) in
        All-map (IsJoinedPoint (question_of w t Joined)) (λ pair. join_of pair.0 pair.1) (pairs_of f.points g.points)
        (All-from_recursion OfPair (pairs_of f.points g.points) (each_among OfPair (pairs_of f.points g.points) (λ pair among. of_pair pair (pairs_among f.points g.points pair among))))

    abbrev asked_as : Kind → Option PatternValue → QuestionValue
    asked_as k custom = record { topology = t.topology; spec = spec_of (record { kind = k; root = w.collective.root }) custom; limits = w.limits }

    -- without a pattern the two questions are those of the parts of an allreduce
    same_part : (k : Kind) → asked_as k t.custom ≡ asked_as k None
    same_part k = ap (asked_as k) (none_given w t asked is)

    pub joins_are : Joins t.topology f.points g.points (joins_of f.points g.points)
    joins_are =
        frontiers_join w.collective.root t.topology w.limits f g asked.topology.topology.some
        (subst (λ q. RightFrontier q f) (same_part kind.Reducescatter) found.right)
        (subst (λ q. RightFrontier q g) (same_part kind.Allgather) found_too.right)
        (subst (λ q. Searched q g) (same_part kind.Allgather) found_too.searched)
