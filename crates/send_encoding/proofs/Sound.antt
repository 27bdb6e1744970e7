-- Where the clauses of arrivals and sends hold, the tables of an assignment move the chunks.
use Rattle.std.proofs.Common.{◌≡◌, ℕ, ◌+◌, ◌-◌, ◌<◌, ◌≤◌, Bool, true, false, List, [], ◌∷◌, ◌++◌, map, get_or, refl, sym, ap, ◌∙◌, subst, ⊎_elim, arith, if◌then◌else◌, flat_map, filter, All}
use Rattle.std.proofs.lemmas.{Bool.{false≢true, and_parts, or_cases, not-true, Decides.nat_tests}, List.{Elements.{All-nil, All-cons, All-contains}, Folds.{list_all-append, list_all-map}, Sums.AllPass-from_list_all}}
use Rattle.std.{proofs.lemmas.List.FromFn.{length-range_with_len, get_or-range_with_len}, specs.List.{enumerate_from, list_any, list_all, range_with_len}}
use Rattle.schedule.{specs.{Placed.{all_pairs, PlacementValue, holds, same_pair}, Sends.IsStep}, proofs.{Placing.{pair_is, among_all}, First.Contains-from_Among}}
use Rattle.cnf_formula.{specs.Literals.{LitValue, negation, is_true, clause_holds, all_hold}, proofs.Clauses.negation_is}
use Rattle.cardinality.{specs.Counting.at_most_one_of, proofs.Pairs.pairs_decide}
use Rattle.send_encoding.specs.{Variables.{SendMapValue, steps_of, links_into, arrival, sent}, Moving.{IsLinkOf, Moves}, inner.Parts.node_arrives}
use Rattle.send_encoding.{specs.Sending.{at_start, keeps, at_end, send_over, sends_arrive, sends_into, arrives_by_sends, arrives_once, sending}, proofs.{Members.{member, filter_any}, Complete.{any_alike, count_alike}, Clauses.link_listed}}

-- ---- what holds everywhere holds at each

pub flat_passes : {X A : Type 0} (p : A → Bool) (g : X → List A) (xs : List X) → list_all p (flat_map g xs) ≡ true → All (λ x. list_all p (g x) ≡ true) xs
flat_passes p g [] h = All-nil (λ x. list_all p (g x) ≡ true)
flat_passes p g (x ∷ xs) h =
    let parts = and_parts (list_all p (g x)) (list_all p (flat_map g xs)) (sym (list_all-append p (g x) (flat_map g xs)) ∙ h) in
    All-cons (λ x. list_all p (g x) ≡ true) x xs parts.0 (flat_passes p g xs parts.1)

pub map_passes : {X A : Type 0} (p : A → Bool) (g : X → A) (xs : List X) → list_all p (map g xs) ≡ true → All (λ x. p (g x) ≡ true) xs
map_passes p g xs h = AllPass-from_list_all (λ x. p (g x)) xs (sym (list_all-map p g xs) ∙ h)

pub at_range : (P : ℕ → Type 0) (a n k : ℕ) → All P (range_with_len a n) → a ≤ k → k < a + n → P k
at_range P a n k all low high =
    let few : k - a < n = omega (arith, low, high) in
    let is : get_or (range_with_len a n) (k - a) 0 ≡ k = get_or-range_with_len a n (k - a) 0 few ∙ omega (arith, low) in
    subst P is (all (k - a) 0 (omega (arith, few, length-range_with_len a n)))

module _ (values : List Bool) where
  pub said_one : (l : LitValue) → clause_holds values (l ∷ []) ≡ true → is_true values l ≡ true
  said_one l h = ⊎_elim (λ t. t) (λ f. absurd (false≢true f)) (or_cases (is_true values l) false h)

  pub said_if : (l k : LitValue) → clause_holds values (negation l ∷ k ∷ []) ≡ true → is_true values l ≡ true → is_true values k ≡ true
  said_if l k h t = grind (arith, nat_tests, negation_is, said_one)

  pub said_not : (l : LitValue) → is_true values (negation l) ≡ true → is_true values l ≡ false
  said_not l h = not-true (is_true values l) (sym (negation_is values l) ∙ h)

module _ (m : SendMapValue) (pre post : PlacementValue) (values : List Bool) (all : all_hold values (sending m pre post) ≡ true) where
  abbrev a : ℕ → ℕ → ℕ → Bool
  a c n k = is_true values (arrival m c n k)

  abbrev x : ℕ → ℕ → ℕ → Bool
  x c e k = is_true values (sent m c e k)

  abbrev Holds : List (List LitValue) → Type 0
  Holds cs = all_hold values cs ≡ true

  split : (xs ys : List (List LitValue)) → Holds (xs ++ ys) → Holds xs × Holds ys
  split xs ys h = and_parts (all_hold values xs) (all_hold values ys) (sym (list_all-append (clause_holds values) xs ys) ∙ h)

  parts : Holds (at_start m pre) × Holds (keeps m) × Holds (at_end m post) × Holds (sends_arrive m) × Holds (arrives_by_sends m) × Holds (arrives_once m)
  parts = grind (arith, split)

  at_pair : (P : ℕ × ℕ → Type 0) → All P (all_pairs m.chunks m.nodes) → (c n : ℕ) → c < m.chunks → n < m.nodes → P (c, n)
  at_pair P ps c n cl nl = grind (arith, member (same_pair (c, n)) P (all_pairs m.chunks m.nodes) ps (among_all m.chunks m.nodes (c, n) cl nl), pair_is)

  at_step : (P : ℕ → Type 0) → All P (steps_of m) → (k : ℕ) → IsStep m.steps k → P k
  at_step P ps k step = at_range P 1 m.steps k ps (omega (arith, step.from)) (omega (arith, step.to))

  at_link : (P : ℕ × (ℕ × ℕ) → Type 0) → All P (enumerate_from 0 m.links) → (z : ℕ × (ℕ × ℕ)) → IsLinkOf m z → P z
  at_link P ps z at = All-contains P (enumerate_from 0 m.links) z ps (Contains-from_Among z (enumerate_from 0 m.links) (link_listed m z at))

  over : (c k : ℕ) (z : ℕ × (ℕ × ℕ)) → c < m.chunks → IsLinkOf m z → IsStep m.steps k → Holds (send_over m c z k)
  over c k z cl at step =
      at_step (λ k. Holds (send_over m c z k)) (flat_passes (clause_holds values) (send_over m c z) (steps_of m)
      (at_link (λ z. Holds (flat_map (send_over m c z) (steps_of m))) (flat_passes (clause_holds values) (λ z. flat_map (send_over m c z) (steps_of m)) (enumerate_from 0 m.links)
      (at_range (λ c. Holds (flat_map (λ z. flat_map (send_over m c z) (steps_of m)) (enumerate_from 0 m.links))) 0 m.chunks c
      (flat_passes (clause_holds values) (λ c. flat_map (λ z. flat_map (send_over m c z) (steps_of m)) (enumerate_from 0 m.links)) (range_with_len 0 m.chunks) parts.3) (omega arith) (omega (arith, cl)))) z at)) k step

  three : (c k : ℕ) (z : ℕ × (ℕ × ℕ)) → Holds (send_over m c z k) → x c z.0 k ≡ true → (a c z.1.0 (k - 1) ≡ true) × (a c z.1.1 (k - 1) ≡ false) × (a c z.1.1 k ≡ true)
  three c k (e, link) h t = grind (arith, nat_tests, said_if, said_not)

  pub sending_says : Moves m pre post a x
  sending_says = record {
    starts = λ c n cl nl.
        let h = at_pair (λ (c, n). clause_holds values ((if holds pre (c, n) then arrival m c n 0 else negation (arrival m c n 0)) ∷ []) ≡ true) (map_passes (clause_holds values) (λ (c, n). (if holds pre (c, n) then arrival m c n 0 else negation (arrival m c n 0)) ∷ []) (all_pairs m.chunks m.nodes) parts.0) c n cl nl in
        starts_as (holds pre (c, n)) (arrival m c n 0) h;
    keeps = λ c n k cl nl step t.
        said_if values (arrival m c n (k - 1)) (arrival m c n k)
        (at_step (λ k. clause_holds values (negation (arrival m c n (k - 1)) ∷ arrival m c n k ∷ []) ≡ true) (map_passes (clause_holds values) (λ k. negation (arrival m c n (k - 1)) ∷ arrival m c n k ∷ []) (steps_of m)
        (at_pair (λ (c, n). Holds (map (λ k. negation (arrival m c n (k - 1)) ∷ arrival m c n k ∷ []) (steps_of m))) (flat_passes (clause_holds values) (λ (c, n). map (λ k. negation (arrival m c n (k - 1)) ∷ arrival m c n k ∷ []) (steps_of m)) (all_pairs m.chunks m.nodes) parts.1) c n cl nl)) k step) t;
    ends = λ c n cl nl h.
        let here : list_any (same_pair (c, n)) (filter (holds post) (all_pairs m.chunks m.nodes)) ≡ true =
        filter_any (holds post) (same_pair (c, n)) (all_pairs m.chunks m.nodes) (λ p same. ap (holds post) (sym (pair_is (c, n) p same)) ∙ h) (among_all m.chunks m.nodes (c, n) cl nl) in
        let found = member (same_pair (c, n)) (λ (c, n). clause_holds values (arrival m c n m.steps ∷ []) ≡ true) (filter (holds post) (all_pairs m.chunks m.nodes)) (map_passes (clause_holds values) (λ (c, n). arrival m c n m.steps ∷ []) (filter (holds post) (all_pairs m.chunks m.nodes)) parts.2) here in
        said_one values (arrival m c n m.steps) (subst (λ (p : ℕ × ℕ). clause_holds values (arrival m p.0 p.1 m.steps ∷ []) ≡ true) (sym (pair_is (c, n) found.0 found.1)) found.3);
    sender = λ c k z cl at step t. (three c k z (over c k z cl at step) t).0;
    receiver = λ c k z cl at step t. (three c k z (over c k z cl at step) t).1;
    brings = λ c k z cl at step t. (three c k z (over c k z cl at step) t).2;
    sent = λ c n k cl nl step has lacks.
        let clause = at_step (λ k. clause_holds values (arrival m c n (k - 1) ∷ negation (arrival m c n k) ∷ sends_into m c n k) ≡ true)
        (map_passes (clause_holds values) (λ k. arrival m c n (k - 1) ∷ negation (arrival m c n k) ∷ sends_into m c n k) (steps_of m)
        (at_pair (λ p. Holds (node_arrives m p)) (flat_passes (clause_holds values) (node_arrives m) (all_pairs m.chunks m.nodes) parts.4) c n cl nl)) k step in
        let rest = ⊎_elim (λ t. absurd (false≢true (sym lacks ∙ t))) (λ r. r) (or_cases (a c n (k - 1)) (clause_holds values (negation (arrival m c n k) ∷ sends_into m c n k)) clause) in
        let some : clause_holds values (sends_into m c n k) ≡ true =
        ⊎_elim (λ t. absurd (false≢true (sym (said_not values (arrival m c n k) t) ∙ has))) (λ r. r) (or_cases (is_true values (negation (arrival m c n k))) (clause_holds values (sends_into m c n k)) rest) in
        sym (any_alike (is_true values) (λ z. x c z.0 k) (λ z. Unit {0}) (λ (e, link). sent m c e k) (links_into m n) (λ z _. refl) (λ i d low. tt)) ∙ some;
    once = λ c n k cl nl step.
        let h = at_step (λ k. Holds (at_most_one_of (sends_into m c n k))) (flat_passes (clause_holds values) (λ k. at_most_one_of (sends_into m c n k)) (steps_of m)
        (at_pair (λ (c, n). Holds (flat_map (λ k. at_most_one_of (sends_into m c n k)) (steps_of m))) (flat_passes (clause_holds values) (λ (c, n). flat_map (λ k. at_most_one_of (sends_into m c n k)) (steps_of m)) (all_pairs m.chunks m.nodes) parts.5) c n cl nl)) k step in
        let same = count_alike (is_true values) (λ z. x c z.0 k) (λ z. Unit {0}) (λ (e, link). sent m c e k) (links_into m n) (λ z _. refl) (λ i d low. tt) in
        omega (arith, same, (pairs_decide values (sends_into m c n k)).0 h);
  }
    where
      starts_as : (b : Bool) (l : LitValue) → clause_holds values ((if b then l else negation l) ∷ []) ≡ true → is_true values l ≡ b
      starts_as true l h = said_one values l h
      starts_as false l h = said_not values l (said_one values (negation l) h)
