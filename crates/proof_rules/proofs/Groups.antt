-- The groups of a line have no fault exactly where each closes its clause, and no clause has two.
use Rattle.std.{proofs.{Common.{◌≡◌, ℕ, ◌+◌, Bool, false, List, [], ◌∷◌, None, refl, arith, ◌≢◌, ◌==◌, All, AllPairs}, lemmas.List.{Elements.{All-nil, All-head, All-tail}, Kept.AllPairs-cons}}, specs.List.list_any}
use Rattle.list_laws.proofs.Pairs.{pairs_head, pairs_tail}
use Rattle.cnf_formula.specs.Literals.{LitValue}
use Rattle.proof_rules.{specs.{Held.{Entry, clause_at}, Judging.{assumed, closing_fault, group_fault, groups_fault}, Accepting.{Group, without_negated, Closes, Answers}}, proofs.Hints.{conflicts, leads_to_conflict}}

-- ---- one group

pub closes : (held : List Entry) (group : Group) (falses ls : List LitValue) → closing_fault held group (assumed falses ls) ≡ None → Closes held group.hints falses ls
closes held group falses [] h = conflicts held falses (group.place + 1) group.hints (grind arith)
closes held group falses (l ∷ ls) h = grind (arith, closes held group (l ∷ falses) ls)

pub closing : (held : List Entry) (group : Group) (falses ls : List LitValue) → Closes held group.hints falses ls → closing_fault held group (assumed falses ls) ≡ None
closing held group falses [] c = rw (leads_to_conflict held falses (group.place + 1) group.hints c, closing_fault) refl
closing held group falses (l ∷ ls) c = grind (arith, closing held group (l ∷ falses) ls)

abbrev pub is_earlier : List ℕ → Group → Bool
is_earlier earlier group = list_any (λ id. id == group.named) earlier

module _ (held : List Entry) (pivot : LitValue) (start : List LitValue) where
  pub one_answers : (earlier : List ℕ) (group : Group) → group_fault held pivot start earlier group (clause_at held group.named) ≡ None → Answers held pivot start group × (is_earlier earlier group ≡ false)
  one_answers earlier group h = grind (arith, closes)

  pub answers_one : (earlier : List ℕ) (group : Group) → Answers held pivot start group → is_earlier earlier group ≡ false → group_fault held pivot start earlier group (clause_at held group.named) ≡ None
  answers_one earlier group a once = grind (arith, closing held group start (without_negated pivot a.clause) a.closes)

  -- ---- all of them

  abbrev pub Apart : Group → Group → Type 0
  Apart a b = a.named ≢ b.named

  abbrev New : List ℕ → Group → Type 0
  New earlier group = is_earlier earlier group ≡ false

  pub record AreRight (earlier : List ℕ) (groups : List Group) : Type 0 where
    pub answers : All (Answers held pivot start) groups
    pub new : All (New earlier) groups
    pub apart : AllPairs Apart groups

  pub right : (earlier : List ℕ) (groups : List Group) → groups_fault held pivot start earlier groups ≡ None → AreRight earlier groups
  right earlier [] h = record { answers = All-nil (Answers held pivot start); new = All-nil (New earlier); apart = λ i j d a b. absurd (omega (arith, b)) }
  right earlier (group ∷ groups) h = grind (arith, one_answers, AllPairs-cons, right (group.named ∷ earlier) groups)

  pub no_fault : (earlier : List ℕ) (groups : List Group) → AreRight earlier groups → groups_fault held pivot start earlier groups ≡ None
  no_fault earlier [] r = refl
  no_fault earlier (group ∷ groups) r =
      let one = answers_one earlier group (All-head (Answers held pivot start) group groups r.answers) (All-head (New earlier) group groups r.new) in
      let head = pairs_head Apart group groups r.apart in
      let tail_new = All-tail (New earlier) group groups r.new in
      let rest : AreRight (group.named ∷ earlier) groups = grind (arith, All-tail (Answers held pivot start) group groups r.answers, pairs_tail Apart group groups r.apart) in
      rw (one, groups_fault) (no_fault (group.named ∷ earlier) groups rest)
