-- Where the tables move chunks, the clauses of arrivals and sends hold.
use Rattle.std.proofs.{lemmas.Grind.common_steps, Common.{◌≡◌, ℕ, ◌-◌, ◌<◌, ◌≤◌, Bool, true, false, List, [], ◌∷◌, map, length, refl, sym, ap, ◌∙◌, ⊎_elim, arith, ◌||◌, if◌then◌else◌, flat_map, count_by, All}}
use Rattle.std.proofs.lemmas.{Bool.{and_from, or_left, or_right, cases_Bool, not_from_false, Decides.nat_tests}, List.{Elements.{All-head, All-tail, All-filter}, Sums.{sum_by-cons, AllPass-from_list_all, list_all-from_AllPass}}}
use Rattle.std.specs.List.{enumerate_from, list_any, list_all}
use Rattle.schedule.specs.{Placed.{PlacementValue, holds}, Sends.IsStep}
use Rattle.cnf_formula.{specs.Literals.{LitValue, negation, is_true, clause_holds, all_hold}, proofs.Clauses.negation_is}
use Rattle.cardinality.{specs.Counting.at_most_one_of, proofs.Pairs.pairs_decide}
use Rattle.send_encoding.specs.{Variables.{SendMapValue, links_into, arrival, sent}, Sending.{send_over, sends_into, sending}, Moving.{IsLinkOf, Moves, JoinsNodes}}
use Rattle.send_encoding.proofs.{Everywhere.{in_map, in_flat}, Clauses.{numbered_are, all_of_each}}

-- ---- clauses, everywhere

pub passes_flat : {X A : Type 0} (p : A → Bool) (Q : X → Type 0) (g : X → List A) (xs : List X) → ((x : X) → Q x → list_all p (g x) ≡ true) → All Q xs → list_all p (flat_map g xs) ≡ true
passes_flat p Q g xs h all = list_all-from_AllPass p (flat_map g xs) (in_flat (λ y. p y ≡ true) Q g xs (λ x q. AllPass-from_list_all p (g x) (h x q)) all)

pub passes_map : {X A : Type 0} (p : A → Bool) (Q : X → Type 0) (g : X → A) (xs : List X) → ((x : X) → Q x → p (g x) ≡ true) → All Q xs → list_all p (map g xs) ≡ true
passes_map p Q g xs h all = list_all-from_AllPass p (map g xs) (in_map (λ y. p y ≡ true) Q g xs h all)

pub any_alike : {X A : Type 0} (p : A → Bool) (q : X → Bool) (Q : X → Type 0) (g : X → A) (xs : List X) → ((x : X) → Q x → p (g x) ≡ q x) → All Q xs → list_any p (map g xs) ≡ list_any q xs
any_alike p q Q g [] h all = refl
any_alike p q Q g (x ∷ xs) h all = ap (λ b. b || list_any p (map g xs)) (h x (All-head Q x xs all)) ∙ ap (λ b. q x || b) (any_alike p q Q g xs h (All-tail Q x xs all))

pub count_alike : {X A : Type 0} (p : A → Bool) (q : X → Bool) (Q : X → Type 0) (g : X → A) (xs : List X) → ((x : X) → Q x → p (g x) ≡ q x) → All Q xs → count_by p (map g xs) ≡ count_by q xs
count_alike p q Q g [] h all = refl
count_alike p q Q g (x ∷ xs) h all = grind (arith, nat_tests, common_steps, sum_by-cons, count_by, All-head, All-tail, count_alike p q Q g xs h (All-tail Q x xs all))

-- ---- clauses of one and two literals

module _ (values : List Bool) where
  pub one_true : (l : LitValue) → is_true values l ≡ true → clause_holds values (l ∷ []) ≡ true
  one_true l t = or_left (is_true values l) false t

  pub not_true : (l : LitValue) → is_true values l ≡ false → is_true values (negation l) ≡ true
  not_true l f = negation_is values l ∙ not_from_false (is_true values l) f

  pub if_true : (l k : LitValue) → (is_true values l ≡ true → is_true values k ≡ true) → clause_holds values (negation l ∷ k ∷ []) ≡ true
  if_true l k h = grind (arith, nat_tests, not_true, one_true)

module _ (m : SendMapValue) (pre post : PlacementValue) (a x : ℕ → ℕ → ℕ → Bool) (values : List Bool) (links : All (JoinsNodes m) m.links)
    (ha : (c n s : ℕ) → c < m.chunks → n < m.nodes → s ≤ m.steps → is_true values (arrival m c n s) ≡ a c n s)
    (hx : (c e s : ℕ) → c < m.chunks → e < length m.links → IsStep m.steps s → is_true values (sent m c e s) ≡ x c e s)
    (moves : Moves m pre post a x) where
  abbrev Holds : List LitValue → Type 0
  Holds clause = clause_holds values clause ≡ true

  into : (n : ℕ) → All (IsLinkOf m) (links_into m n)
  into n = All-filter _ (IsLinkOf m) (enumerate_from 0 m.links) (numbered_are m links)

  was : (c n s : ℕ) → c < m.chunks → n < m.nodes → IsStep m.steps s → is_true values (arrival m c n (s - 1)) ≡ a c n (s - 1)
  was c n s cl nl step = ha c n (s - 1) cl nl (omega (arith, step.to))

  starts_as : (b : Bool) (l : LitValue) → is_true values l ≡ b → Holds ((if b then l else negation l) ∷ [])
  starts_as true l e = one_true values l e
  starts_as false l e = one_true values (negation l) (not_true values l e)

  over_holds : (c s : ℕ) (z : ℕ × (ℕ × ℕ)) → c < m.chunks → IsLinkOf m z → IsStep m.steps s → all_hold values (send_over m c z s) ≡ true
  over_holds c s (e, link) low at step =
      let go : IsStep m.steps s → s - 1 ≤ m.steps = λ st. omega (arith, st.to) in
      let was : is_true values (sent m c e s) ≡ true → x c e s ≡ true = λ t. sym (hx c e s low at.number step) ∙ t in
      let first = if_true values (sent m c e s) (arrival m c link.0 (s - 1)) (λ t. ha c link.0 (s - 1) low at.from (go step) ∙ moves.sender c s (e, link) low at step (was t)) in
      let second = if_true values (sent m c e s) (negation (arrival m c link.1 (s - 1))) (λ t. not_true values (arrival m c link.1 (s - 1)) (ha c link.1 (s - 1) low at.to (go step) ∙ moves.receiver c s (e, link) low at step (was t))) in
      let third = if_true values (sent m c e s) (arrival m c link.1 s) (λ t. ha c link.1 s low at.to step.to ∙ moves.brings c s (e, link) low at step (was t)) in
      let no = negation (sent m c e s) in
      and_from (clause_holds values (no ∷ arrival m c link.0 (s - 1) ∷ [])) (all_hold values ((no ∷ negation (arrival m c link.1 (s - 1)) ∷ []) ∷ (no ∷ arrival m c link.1 s ∷ []) ∷ [])) first
      (and_from (clause_holds values (no ∷ negation (arrival m c link.1 (s - 1)) ∷ [])) (all_hold values ((no ∷ arrival m c link.1 s ∷ []) ∷ [])) second
      (and_from (clause_holds values (no ∷ arrival m c link.1 s ∷ [])) true third refl))

  arrives : (c n s : ℕ) → c < m.chunks → n < m.nodes → IsStep m.steps s → Holds (arrival m c n (s - 1) ∷ negation (arrival m c n s) ∷ sends_into m c n s)
  arrives c n s cl nl step =
      let before = arrival m c n (s - 1) in
      let after = arrival m c n s in
      let b = clause_holds values (negation after ∷ sends_into m c n s) in
      ⊎_elim (λ t. or_left (is_true values before) b t)
      (λ f. or_right (is_true values before) b
      (⊎_elim (λ t. or_right (is_true values (negation after)) (clause_holds values (sends_into m c n s))
      (any_alike (is_true values) (λ z. x c z.0 s) (IsLinkOf m) (λ (e, link). sent m c e s) (links_into m n) (λ z ok. hx c z.0 s cl ok.number step) (into n)
      ∙ moves.sent c n s cl nl step (sym (ha c n s cl nl step.to) ∙ t) (sym (was c n s cl nl step) ∙ f)))
      (λ fails. or_left (is_true values (negation after)) (clause_holds values (sends_into m c n s)) (not_true values after fails))
      (cases_Bool (is_true values after))))
      (cases_Bool (is_true values before))

  once : (c n s : ℕ) → c < m.chunks → n < m.nodes → IsStep m.steps s → all_hold values (at_most_one_of (sends_into m c n s)) ≡ true
  once c n s cl nl step =
      let same = count_alike (is_true values) (λ z. x c z.0 s) (IsLinkOf m) (λ (e, link). sent m c e s) (links_into m n) (λ z ok. hx c z.0 s cl ok.number step) (into n) in
      (pairs_decide values (sends_into m c n s)).1 (omega (arith, same, moves.once c n s cl nl step))

  pub sending_holds : all_hold values (sending m pre post) ≡ true
  sending_holds = list_all-from_AllPass (clause_holds values) (sending m pre post) (all_of_each m pre post Holds links (record {
    starts = λ c n cl nl. starts_as (holds pre (c, n)) (arrival m c n 0) (ha c n 0 cl nl (omega arith) ∙ moves.starts c n cl nl);
    keeps = λ c n s cl nl step. if_true values (arrival m c n (s - 1)) (arrival m c n s) (λ t. ha c n s cl nl step.to ∙ moves.keeps c n s cl nl step (sym (was c n s cl nl step) ∙ t));
    ends = λ c n cl nl h. one_true values (arrival m c n m.steps) (ha c n m.steps cl nl (omega arith) ∙ moves.ends c n cl nl h);
    sends = λ c s z cl at step. AllPass-from_list_all (clause_holds values) (send_over m c z s) (over_holds c s z cl at step);
    arrives = arrives;
    once = λ c n s cl nl step. AllPass-from_list_all (clause_holds values) (at_most_one_of (sends_into m c n s)) (once c n s cl nl step);
  }))
