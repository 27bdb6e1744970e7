-- What a search has found when it has passed one candidate more.
use Rattle.std.proofs.{Common.{◌≡◌, ◌≤◌, ◌*◌, inl, inr, ⊎_elim, ℕ, Option, None, [], ◌∷◌, ◌++◌, cond, refl, subst, ap, sym, ◌∙◌, arith, All, AllPairs, Contains, slice_index_or}, lemmas.{Bool.cases_lt, List.map_push}}
use Rattle.std.proofs.lemmas.List.{Quantifiers.all_pairs_push, Elements.{All-push, All-weaker, All-contains, Contains-get_or}}
use Rattle.list_laws.proofs.{Each.all_contained, Members.Contains-map}
use Rattle.schedule.specs.Sends.{ScheduleValue}
use Rattle.candidate_order.specs.{declared.{candidate.Candidate.Candidate, outcome.Outcome.Outcome}, Costs.{NoWorse, Before}, Frontiers.{QuestionValue, PointValue, UnknownValue, FrontierValue, solved, given_up, IsWithin, IsSolvable}}
use Rattle.candidate_order.proofs.Orders.{has_chunk, Before-irrefl}
use Rattle.candidate_order.specs.declared.outcome.Outcome.TheVariants as outcome
use Rattle.engine_rules.specs.{declared.settled.Settled.{Settled, TheVariants.{Solved, Refuted, Unknown}}, Outcomes.{RecordValue, SolvesTightly, kind_of}}
use Rattle.pareto_search.specs.{inner.Passing.{IsBefore, IsUpTo, IsSettled, IsWorth, IsJudged, IsAdded, IsFound, IsSaid, LastSettles, HasPassed, is_same, listed}, Recorded.{StaysWithin, IsStoppedWithin}}
use Rattle.pareto_search.proofs.{Costs.{CostsFall, steps_upto, no_worse_last, last_there}, Records.{of_kind-settled, Contains-of_kind, of_kind-ascends, lists_more}, Passed.{judged_more, mark_stays}}

module _ (q : QuestionValue) (suits : Candidate → ScheduleValue → Type 0) (passed : Candidate → Type 0) (entries : RecordValue) (f : FrontierValue) (was : HasPassed q suits passed entries f) where
  -- what stands in a list was settled so, and what was settled stands in its list
  pub settled_as : (kind : Settled) (x : Candidate) → Contains (listed kind f) x → Contains entries (x, kind)
  settled_as kind x at = of_kind-settled kind entries x (subst (λ xs. Contains xs x) (was.lists kind) at)

  pub listed_as : (kind : Settled) (x : Candidate) → Contains entries (x, kind) → Contains (listed kind f) x
  listed_as kind x at = subst (λ xs. Contains xs x) (sym (was.lists kind)) (Contains-of_kind kind entries x at)

  pub ascends_as : (kind : Settled) → AllPairs Before (listed kind f)
  ascends_as kind = subst (AllPairs Before) (sym (was.lists kind)) (of_kind-ascends kind entries was.ascends)

  pub was_passed : (kind : Settled) (x : Candidate) → Contains entries (x, kind) → passed x
  was_passed kind x at = All-contains (λ e. passed e.0) entries (x, kind) was.were_passed at

  pub was_worth : (kind : Settled) (x : Candidate) → Contains entries (x, kind) → IsWorth entries x
  was_worth kind x at =
      ⊎_elim (λ tried. tried.1) (λ over. absurd (over.0 (kind, at))) (was.judged x (was_passed kind x at))

  -- each point costs less than those before it, since none of these is no worse
  costs_fall : CostsFall (solved f)
  costs_fall i j d before below =
      let xs = solved f in
      let a = slice_index_or xs i d in
      let b = slice_index_or xs j d in
      let first : Before a b = ascends_as Solved i j d before below in
      let here = settled_as Solved a (Contains-get_or xs i d (omega arith)) in
      elim (cases_lt (b.r * a.c) (a.r * b.c)) [
        | inl lower ↦ lower
        | inr upto ↦ absurd (was_worth Solved b (settled_as Solved b (Contains-get_or xs j d below)) a here first (steps_upto a b first, upto))
      ]

-- the lists have the candidate in that of its kind
listed_more : (x : Candidate) (out : Outcome) (f g : FrontierValue) → IsAdded x out f g → (kind : Settled) → listed kind g ≡ cond (is_same kind (kind_of out)) (listed kind f ++ x ∷ []) (listed kind f)
listed_more x (outcome.Solved s) f g (mark, is, same) Solved =
    ap solved same ∙ map_push (λ (p : PointValue). p.candidate) f.points (record { candidate = x; schedule = s; mark = mark })
listed_more x (outcome.Solved s) f g (mark, is, same) Refuted = ap (λ h. h.refuted) same
listed_more x (outcome.Solved s) f g (mark, is, same) Unknown = ap given_up same
listed_more x outcome.Refuted f g same Solved = ap solved same
listed_more x outcome.Refuted f g same Refuted = ap (λ h. h.refuted) same
listed_more x outcome.Refuted f g same Unknown = ap given_up same
listed_more x (outcome.Unknown n) f g same Solved = ap solved same
listed_more x (outcome.Unknown n) f g same Refuted = ap (λ h. h.refuted) same
listed_more x (outcome.Unknown n) f g same Unknown =
    ap given_up same ∙ map_push (λ (u : UnknownValue). u.candidate) f.unknown (record { candidate = x; conflicts = n })

module _ (q : QuestionValue) (suits : Candidate → ScheduleValue → Type 0) (entries : RecordValue) (f : FrontierValue) (here : Candidate) (within : IsWithin q here) (was : HasPassed q suits (IsBefore q here) entries f) where
  point_passed : (x : Candidate) → Contains (solved f) x → IsBefore q here x
  point_passed x at =
      was_passed q suits (IsBefore q here) entries f was Solved x (settled_as q suits (IsBefore q here) entries f was Solved x at)

  -- where the last point is worse, each is
  none_settles : (LastSettles f.points here → ⊥) → IsWorth entries here
  none_settles worse p at before no_worse = worse (no_worse_last f.points here p
      (costs_fall q suits (IsBefore q here) entries f was)
      (all_contained (λ x. 1 ≤ x.c) (solved f) (λ x has. has_chunk q x (point_passed x has).0))
      (all_contained (λ x. x.s ≤ here.s) (solved f) (λ x has. steps_upto x here (point_passed x has).1))
      (listed_as q suits (IsBefore q here) entries f was Solved p at) no_worse)

  were_upto : All (λ e. IsUpTo q here e.0) entries
  were_upto = All-weaker (λ e. IsBefore q here e.0) (λ e. IsUpTo q here e.0) (λ e h. inl h) entries was.were_passed

  -- it is passed over, since the last point is no worse
  pub pass_over : LastSettles f.points here → HasPassed q suits (IsUpTo q here) entries f
  pass_over last = record {
    ascends = was.ascends;
    were_passed = were_upto;
    lists = was.lists;
    said = was.said;
    judged = λ x h. ⊎_elim (was.judged x) (λ (same : x ≡ here). subst (IsJudged entries) (sym same) (inr (not_here, settles))) h;
  } where
    not_here : IsSettled entries here → ⊥
    not_here (kind, at) = Before-irrefl here (was_passed q suits (IsBefore q here) entries f was kind here at).1

    settles : (p : Candidate) × Contains entries (p, Solved) × Before p here × NoWorse p here
    settles =
        let (p, at, no_worse) = last_there f.points here last in
        (p, settled_as q suits (IsBefore q here) entries f was Solved p at, (point_passed p at).1, no_worse)

  -- what the lists say with what came of it is right
  said_more : (out : Outcome) (g : FrontierValue) → IsAdded here out f g → ((s : ScheduleValue) → out ≡ outcome.Solved s → SolvesTightly q here s × suits here s) → (out ≡ outcome.Refuted → IsSolvable q here → ⊥) → ((n : ℕ) → out ≡ outcome.Unknown n → n ≡ q.limits.conflicts) → IsSaid q suits g
  said_more (outcome.Solved s) g (mark, is, same) solves never limit = subst (IsSaid q suits) (sym same) (record {
    points = All-push (IsFound q suits (given_up f)) f.points (record { candidate = here; schedule = s; mark = mark }) was.said.points (record { solves = (solves s refl).0; suited = (solves s refl).1; mark = is });
    refuted = was.said.refuted;
    unknown = was.said.unknown;
  })
  said_more outcome.Refuted g same solves never limit = subst (IsSaid q suits) (sym same) (record {
    points = was.said.points;
    refuted = All-push (λ x. IsSolvable q x → ⊥) f.refuted here was.said.refuted (never refl);
    unknown = was.said.unknown;
  })
  said_more (outcome.Unknown n) g same solves never limit = subst (IsSaid q suits) (sym same) (record {
    points = subst (λ us. All (IsFound q suits us) f.points) (sym (map_push (λ (a : UnknownValue). a.candidate) f.unknown u)) points_stay;
    refuted = was.said.refuted;
    unknown = All-push (λ a. a.conflicts ≡ q.limits.conflicts) f.unknown u was.said.unknown (limit n refl);
  }) where
    u : UnknownValue
    u = record { candidate = here; conflicts = n }

    points_stay : All (IsFound q suits (given_up f ++ here ∷ [])) f.points
    points_stay k d below =
        let p = slice_index_or f.points k d in
        let before = point_passed p.candidate (Contains-map (λ (a : PointValue). a.candidate) f.points p (Contains-get_or f.points k d below)) in
        let found = was.said.points k d below in
        record { solves = found.solves; suited = found.suited; mark = mark_stays q here within (given_up f) p.candidate p.mark before found.mark }

  -- it is settled, since the last point is worse
  pub passed_more : (out : Outcome) (g : FrontierValue) → IsAdded here out f g → (LastSettles f.points here → ⊥) → IsSaid q suits g → HasPassed q suits (IsUpTo q here) (entries ++ (here, kind_of out) ∷ []) g
  passed_more out g added worse said = record {
    ascends = all_pairs_push (λ a b. Before a.0 b.0) entries (here, kind_of out) was.ascends (λ k d below. (was.were_passed k d below).1);
    were_passed = All-push (λ e. IsUpTo q here e.0) entries (here, kind_of out) were_upto (inr refl);
    lists = λ kind. listed_more here out f g added kind ∙ lists_more kind (kind_of out) entries here (listed kind f) (was.lists kind);
    said = said;
    judged = judged_more q here within entries (kind_of out) (none_settles worse) was.judged;
  }

-- what an engine promises of schedules may be said in another way
resuited : (q : QuestionValue) (suits now_suits : Candidate → ScheduleValue → Type 0) (passed : Candidate → Type 0) (entries : RecordValue) (f : FrontierValue) → ((x : Candidate) (s : ScheduleValue) → suits x s → now_suits x s) → HasPassed q suits passed entries f → HasPassed q now_suits passed entries f
resuited q suits now_suits passed entries f still was = record {
  ascends = was.ascends;
  were_passed = was.were_passed;
  lists = was.lists;
  said = record {
    points = All-weaker (IsFound q suits (given_up f)) (IsFound q now_suits (given_up f)) (λ p h. record { solves = h.solves; suited = still p.candidate p.schedule h.suited; mark = h.mark }) f.points was.said.points;
    refuted = was.said.refuted;
    unknown = was.said.unknown;
  };
  judged = was.judged;
}

-- an engine settled the candidate, and goes on with the same question
pub settled_more : (q r : QuestionValue) (suits now_suits : Candidate → ScheduleValue → Type 0) (entries now : RecordValue) (f g : FrontierValue) (here : Candidate) (out : Outcome) → IsWithin q here → HasPassed q suits (IsBefore q here) entries f → (LastSettles f.points here → ⊥) → r ≡ q → now ≡ entries ++ (here, kind_of out) ∷ []
    → ((x : Candidate) (s : ScheduleValue) → suits x s → now_suits x s) → IsAdded here out f g → ((s : ScheduleValue) → out ≡ outcome.Solved s → SolvesTightly q here s × now_suits here s) → (out ≡ outcome.Refuted → IsSolvable q here → ⊥) → ((n : ℕ) → out ≡ outcome.Unknown n → n ≡ q.limits.conflicts)
    → HasPassed r now_suits (IsUpTo r here) now g
settled_more q r suits now_suits entries now f g here out within passed worse asked recorded still added solves never limit =
    let was = resuited q suits now_suits (IsBefore q here) entries f still passed in
    let said = said_more q now_suits entries f here within was out g added solves never limit in
    subst (λ a. HasPassed a now_suits (IsUpTo a here) now g) (sym asked)
    (subst (λ e. HasPassed q now_suits (IsUpTo q here) e g) (sym recorded) (passed_more q now_suits entries f here within was out g added worse said))

-- the candidates of the record are within the limits
pub stays_within : (q : QuestionValue) (here : Candidate) (kind : Settled) (entries now_entries : RecordValue) (stopped : Option Candidate) → IsWithin q here → All (λ e. IsBefore q here e.0) entries → now_entries ≡ entries ++ (here, kind) ∷ [] → stopped ≡ None → StaysWithin q now_entries stopped
stays_within q here kind entries now_entries stopped within before same running = record {
  settled = subst (All (λ e. IsWithin q e.0)) (sym same) (All-push (λ e. IsWithin q e.0) entries (here, kind) (All-weaker (λ e. IsBefore q here e.0) (λ e. IsWithin q e.0) (λ e h. h.0) entries before) within);
  failed = subst (IsStoppedWithin q) (sym running) tt;
}
