-- When every candidate within the limits is passed, what was found is right.
use Rattle.std.proofs.{Common.{◌≡◌, ◌≢◌, ◌<◌, ◌⊎◌, ℕ, inl, inr, true, false, List, ◌++◌, map, subst, ap, sym, ◌∙◌, arith, All, Any, Contains, slice_index_or}, lemmas.List.Elements.{All-contains, Contains-get_or}}
use Rattle.std.specs.List.Sorted.{IsPermutation}
use Rattle.list_laws.proofs.{Each.all_contained, Members.Contains-map}
use Rattle.schedule.{specs.Sends.ScheduleValue, proofs.First.{Among-from_Contains, Contains-from_Among, map_among}}
use Rattle.collective_spec.specs.{declared.{spec.Spec.{Spec, TheVariants.{Standard, Custom}}, kind.Kind.TheVariants.Allreduce}, Collectives.{kind_in, adds_up, reduces}}
use Rattle.candidate_order.specs.{declared.{candidate.Candidate.Candidate, mark.Mark.TheVariants.Optimal}, Costs.{NoWorse, Better, Before}, Ranges.LimitsValue}
use Rattle.candidate_order.specs.Frontiers.{QuestionValue, PointValue, UnknownValue, FrontierValue, solved, given_up, IsAnswered, IsWithin, IsTried, IsPoint, IsUnknown, IsWorthTrying, WastesNothing, RightFrontier, Searched}
use Rattle.candidate_order.proofs.Orders.{has_chunk}
use Rattle.engine_rules.specs.{declared.settled.Settled.{Settled, TheVariants.{Solved, Refuted, Unknown}}, Outcomes.RecordValue}
use Rattle.pareto_search.specs.{inner.Passing.{HasFewerSteps, IsJudged, IsFound, HasPassed, listed}, Recorded.entries_of}
use Rattle.pareto_search.proofs.{Costs.no_worse_than_better, Records.{one_kind, by_kind, by_kind-shuffles}, Steps.{settled_as, listed_as, ascends_as, was_passed, was_worth}, Places.replaced}

-- a collective that copies is not the one that joins two others
copying_is_single : (s : Spec) → adds_up s ≡ false → kind_in s ≢ Allreduce
copying_is_single (Standard collective) copies same = absurd (let adds : true ≡ false = ap reduces (sym same) ∙ copies in cc)
copying_is_single (Custom p) copies same = absurd cc

-- what is said of a whole search
pub record IsFinished (q : QuestionValue) (entries : RecordValue) (f : FrontierValue) : Type 0 where
  pub right : RightFrontier q f
  pub searched : Searched q f
  pub shuffles : IsPermutation entries (entries_of f)

module _ (q : QuestionValue) (suits : Candidate → ScheduleValue → Type 0) (entries : RecordValue) (f : FrontierValue) (copies : adds_up q.spec ≡ false) (was : HasPassed q suits (IsWithin q) entries f) where
  settled : (kind : Settled) (x : Candidate) → Contains (listed kind f) x → Contains entries (x, kind)
  settled = settled_as q suits (IsWithin q) entries f was

  there : (kind : Settled) (x : Candidate) → Contains entries (x, kind) → Contains (listed kind f) x
  there = listed_as q suits (IsWithin q) entries f was

  passed : (kind : Settled) (x : Candidate) → Contains entries (x, kind) → IsWithin q x
  passed = was_passed q suits (IsWithin q) entries f was

  -- a candidate stands in one list
  alone : (k l : Settled) (x : Candidate) → Contains (listed k f) x → Contains (listed l f) x → k ≡ l
  alone k l x one other = one_kind entries x k l was.ascends (settled k x one) (settled l x other)

  -- no point is no worse than what is better than another
  point_rivalled : (p r : Candidate) → Contains entries (p, Solved) → Contains entries (r, Solved) → (x : Candidate) → IsWithin q x → NoWorse r x → Better x p → ⊥
  point_rivalled p r at_p at_r x within h better =
      let first = no_worse_than_better r x p (has_chunk q r (passed Solved r at_r)) (has_chunk q x within) h better in
      was_worth q suits (IsWithin q) entries f was Solved p at_p r at_r first.0 first.1

  right_point : (p : PointValue) → Contains f.points p → IsFound q suits (given_up f) p → IsPoint q f.refuted p
  right_point p at found = record {
    within = passed Solved p.candidate here;
    solves = found.solves.solves;
    optimal = (
      λ mark x within better. refuted_by mark x within better (was.judged x within),
      λ refuted. found.mark.optimal.1 (λ u unknown better.
          let both = alone Unknown Refuted u unknown (refuted u (passed Unknown u (settled Unknown u unknown)) better) in
          absurd cc),
    );
    or_open = found.mark.or_open;
  } where
    here : Contains entries (p.candidate, Solved)
    here = settled Solved p.candidate (Contains-map (λ (a : PointValue). a.candidate) f.points p at)

    refuted_by : p.mark ≡ Optimal → (x : Candidate) → IsWithin q x → Better x p.candidate → IsJudged entries x → Contains f.refuted x
    refuted_by mark x within better (inl ((Solved, tried), worth)) = absurd (point_rivalled p.candidate x here tried x within (omega arith, omega arith) better)
    refuted_by mark x within better (inl ((Refuted, tried), worth)) = there Refuted x tried
    refuted_by mark x within better (inl ((Unknown, tried), worth)) = absurd (found.mark.optimal.0 mark x (there Unknown x tried) better)
    refuted_by mark x within better (inr (never, (r, tried, before, h))) = absurd (point_rivalled p.candidate r here tried x within h better)

  right_unknown : All (IsUnknown q) f.unknown
  right_unknown k d below =
      let u = slice_index_or f.unknown k d in
      let tried = settled Unknown u.candidate (Contains-map (λ (a : UnknownValue). a.candidate) f.unknown u (Contains-get_or f.unknown k d below)) in
      record { within = passed Unknown u.candidate tried; conflicts = was.said.unknown k d below }

  point_there : (p x : Candidate) → Contains entries (p, Solved) → NoWorse p x → Any (λ a. NoWorse a.candidate x) f.points
  point_there p x at h =
      let (a, among, is) = map_among (λ (a : PointValue). a.candidate) p f.points (Among-from_Contains p (solved f) (there Solved p at)) in
      let (k, below, found) = Contains-from_Among a f.points among in
      (k, a, below, found, subst (λ y. NoWorse y x) (sym is) h)

  answered : (x : Candidate) → IsJudged entries x → IsAnswered f x
  answered x (inl ((Solved, at), worth)) = inl (point_there x x at (omega arith, omega arith))
  answered x (inl ((Refuted, at), worth)) = inr (inl (there Refuted x at))
  answered x (inl ((Unknown, at), worth)) = inr (inr (there Unknown x at))
  answered x (inr (never, (p, at, before, h))) = inl (point_there p x at h)

  finished_right : RightFrontier q f
  finished_right = record {
    single = copying_is_single q.spec copies;
    points = λ k d below. right_point (slice_index_or f.points k d) (Contains-get_or f.points k d below) (was.said.points k d below);
    refuted = was.said.refuted;
    unknown = right_unknown;
    whole = λ x within. answered x (was.judged x within);
  }

  worth_trying : (kind : Settled) (x : Candidate) → Contains (listed kind f) x → IsWorthTrying f x
  worth_trying kind x at = all_contained (λ p. Before p x → NoWorse p x → ⊥) (solved f)
      (λ p has. was_worth q suits (IsWithin q) entries f was kind x (settled kind x at) p (settled Solved p has))

  tried_worth : (x : Candidate) → IsTried f x → IsWorthTrying f x
  tried_worth x (inl at) = worth_trying Solved x at
  tried_worth x (inr (inl at)) = worth_trying Refuted x at
  tried_worth x (inr (inr at)) = worth_trying Unknown x at

  worth_tried : (x : Candidate) → IsWorthTrying f x → IsJudged entries x → IsTried f x
  worth_tried x worth (inl ((Solved, at), still)) = inl (there Solved x at)
  worth_tried x worth (inl ((Refuted, at), still)) = inr (inl (there Refuted x at))
  worth_tried x worth (inl ((Unknown, at), still)) = inr (inr (there Unknown x at))
  worth_tried x worth (inr (never, (p, at, before, h))) =
      absurd (All-contains (λ p. Before p x → NoWorse p x → ⊥) (solved f) p worth (there Solved p at) before h)

  point_alone : (x : Candidate) → Contains (solved f) x → (Contains f.refuted x ⊎ Contains (given_up f) x) → ⊥
  point_alone x at (inl other) = absurd (let both = alone Solved Refuted x at other in cc)
  point_alone x at (inr other) = absurd (let both = alone Solved Unknown x at other in cc)

  finished_searched : Searched q f
  finished_searched = record {
    points_ascend = ascends_as q suits (IsWithin q) entries f was Solved;
    refuted_ascend = ascends_as q suits (IsWithin q) entries f was Refuted;
    unknown_ascend = ascends_as q suits (IsWithin q) entries f was Unknown;
    points_apart = all_contained (λ x. (Contains f.refuted x ⊎ Contains (given_up f) x) → ⊥) (solved f) point_alone;
    refuted_apart = all_contained (λ x. Contains (given_up f) x → ⊥) f.refuted (λ x at other. absurd (let both = alone Refuted Unknown x at other in cc));
    tried = λ x within. (tried_worth x, λ worth. worth_tried x worth (was.judged x within));
    tight = subst (λ adds. All (WastesNothing adds q) f.points) (sym copies) (λ k d below. (was.said.points k d below).solves.tight);
  }

  finished_all : IsFinished q entries f
  finished_all =
      let made : List Candidate → List Candidate → List Candidate → RecordValue = λ a b c. map (λ x. (x, Solved)) a ++ map (λ x. (x, Refuted)) b ++ map (λ x. (x, Unknown)) c in
      let same : entries_of f ≡ by_kind entries = λ i. made (was.lists Solved i) (was.lists Refuted i) (was.lists Unknown i) in
      record { right = finished_right; searched = finished_searched; shuffles = subst (IsPermutation entries) (sym same) (by_kind-shuffles entries) }

-- behind the last step every candidate within the limits is passed
pub finished : (q r : QuestionValue) (suits : Candidate → ScheduleValue → Type 0) (entries : RecordValue) (f g : FrontierValue) (limits : LimitsValue) (step : ℕ) → r ≡ q → q.limits ≡ limits → limits.max_s < step → adds_up r.spec ≡ false → HasPassed r suits (HasFewerSteps r step) entries f → g ≡ f → IsFinished q entries g
finished q r suits entries f g limits step asked same past copies was listed =
    let all = replaced r suits (HasFewerSteps r step) (IsWithin r) entries f (λ x. (λ h. h.0, λ within. (within, omega (arith, within.steps, ap (λ (a : QuestionValue). a.limits.max_s) asked, ap (λ (l : LimitsValue). l.max_s) same)))) was in
    subst (λ a. IsFinished a entries g) asked (subst (IsFinished r entries) (sym listed) (finished_all r suits entries f copies all))
