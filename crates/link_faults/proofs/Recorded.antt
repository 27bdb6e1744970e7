-- A record of candidates, of which some are carried by old ones.
use Rattle.std.proofs.Common.{arith, ◌≡◌, ℕ, ◌≤◌, Bool, true, false, ◌&&◌, eqb, leb, cond, List, [], ◌∷◌, ◌++◌, sym, ap, ◌∙◌, subst, ⊎_elim, not}
use Rattle.std.specs.List.{AllByRecursion, Contains}
use Rattle.std.proofs.lemmas.{Bool.{false≢true, and_parts, and_from, cases_Bool, or_cases, eqb-true, eq-eqb, leb-true, le-leb, not-true}, List.{append-nil, Elements.{Contains-push_cases, filter-append}}}
use Rattle.schedule.{specs.Judging.group_at, proofs.First.{Among-from_Contains, Contains-from_Among, among_kept, filter_among}}
use Rattle.candidate_order.specs.{declared.candidate.Candidate.Candidate, Frontiers.{QuestionValue, IsSolvable}}
use Rattle.link_faults.{specs.Carrying.{Carries, IsOldRefuted, is_carrier, is_carried, not_carried, narrowed_question}, proofs.Carried.carried}

pub carrier_is : (a b : Candidate) → is_carrier a b ≡ true → Carries a b
carrier_is a b h = grind (arith, and_parts, eqb-true, leb-true)

pub carrier_from : (a b : Candidate) → Carries a b → is_carrier a b ≡ true
carrier_from a b c = and_from (eqb a.s b.s) (leb b.r a.r && leb a.c b.c) (eq-eqb a.s b.s c.0) (and_from (leb b.r a.r) (leb a.c b.c) (le-leb b.r a.r c.1) (le-leb a.c b.c c.2))

-- what has no schedule before a fault, and carries a candidate, leaves it without one
module _ (q : QuestionValue) (g w : ℕ) (less : w ≤ (group_at q.topology g).width) where
  pub none_carried : (old : List Candidate) → AllByRecursion (IsOldRefuted q) old → (x : Candidate) → is_carried old x ≡ true → IsSolvable (narrowed_question q g w) x → ⊥
  none_carried [] none x is solvable = false≢true is
  none_carried (a ∷ old) none x is solvable =
      ⊎_elim
      (λ (here : is_carrier a x ≡ true). none.0.refuted (carried q g w a x less none.0.few (carrier_is a x here) solvable))
      (λ (later : is_carried old x ≡ true). none_carried old none.1 x later solvable)
      (or_cases _ _ is)

-- ---- the record

module _ {K : Type 0} (old : List Candidate) where
  abbrev stays : Candidate × K → Bool
  stays entry = not (is_carried old entry.0)

  pub passes_kept : (x : Candidate × K) (entries : List (Candidate × K)) → Contains (not_carried old entries) x → is_carried old x.0 ≡ false
  passes_kept x entries found =
      not-true (is_carried old x.0) (filter_among stays x entries (Among-from_Contains x (not_carried old entries) found)).1

  pub contains_kept : (x : Candidate) (kind : K) (entries : List (Candidate × K)) → is_carried old x ≡ false → Contains entries (x, kind) → Contains (not_carried old entries) (x, kind)
  contains_kept x kind entries other found =
      Contains-from_Among (x, kind) (not_carried old entries) (among_kept stays (x, kind) entries (Among-from_Contains (x, kind) entries found) (ap not other))

  pub kept_contains : (x : Candidate × K) (entries : List (Candidate × K)) → Contains (not_carried old entries) x → Contains entries x
  kept_contains x entries found =
      Contains-from_Among x entries (filter_among stays x entries (Among-from_Contains x (not_carried old entries) found)).0

  -- what holds of the candidates of a kind that no old one carries, and follows where one does, holds of all of that kind
  pub of_record : (P : Candidate → Type 0) (kind : K) (entries inner : List (Candidate × K)) → inner ≡ not_carried old entries
      → ((x : Candidate) → Contains entries (x, kind) → is_carried old x ≡ true → P x) → ((x : Candidate) → Contains inner (x, kind) → P x)
      → (x : Candidate) → Contains entries (x, kind) → P x
  of_record P kind entries inner is other own x found =
      ⊎_elim
      (λ (carried : is_carried old x ≡ true). other x found carried)
      (λ (not_so : is_carried old x ≡ false). own x (subst (λ es. Contains es (x, kind)) (sym is) (contains_kept x kind entries not_so found)))
      (cases_Bool (is_carried old x))

  -- one more entry
  pub more_carried : (entries : List (Candidate × K)) (x : Candidate) (kind : K) → is_carried old x ≡ true → not_carried old (entries ++ (x, kind) ∷ []) ≡ not_carried old entries
  more_carried entries x kind is =
      filter-append stays entries ((x, kind) ∷ []) ∙ ap (λ b. not_carried old entries ++ cond (not b) ((x, kind) ∷ []) []) is ∙ append-nil (not_carried old entries)

  pub more_kept : (entries : List (Candidate × K)) (x : Candidate) (kind : K) → is_carried old x ≡ false → not_carried old (entries ++ (x, kind) ∷ []) ≡ not_carried old entries ++ (x, kind) ∷ []
  more_kept entries x kind is =
      filter-append stays entries ((x, kind) ∷ []) ∙ ap (λ b. not_carried old entries ++ cond (not b) ((x, kind) ∷ []) []) is

  -- a candidate that the last entry is not of stands in the record before it
  pub alone_more : (P : Candidate → K → Type 0) (entries : List (Candidate × K)) (x : Candidate) (kind : K) → ((y : Candidate) (k : K) → Contains entries (y, k) → P y k) → P x kind
      → (y : Candidate) (k : K) → Contains (entries ++ (x, kind) ∷ []) (y, k) → P y k
  alone_more P entries x kind before new y k found =
      ⊎_elim (before y k) (λ same. subst (λ (e : Candidate × K). P e.0 e.1) same new) (Contains-push_cases entries (x, kind) (y, k) found)
