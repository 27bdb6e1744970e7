-- Where some assignment satisfies a formula, some assignment satisfies all that is held after any accepted lines, and none of them refutes it.
use Rattle.std.proofs.{lemmas.Bool.{or_from, or_cases, or_left, cases_Bool}, Common.{◌≡◌, ℕ, ◌+◌, ◌≤◌, max, Bool, true, false, List, [], ◌∷◌, ◌++◌, length, get_or, refl, sym, ap, ◌∙◌, subst, ⊎_elim, arith, ◌==◌, not, All}}
use Rattle.std.{proofs.lemmas.List.Elements.{All-nil, All-push, All-filter}, specs.List.{list_any, enumerate_from}}
use Rattle.cnf_formula.specs.{Literals.{LitValue, same_literal, has_literal, value_of, all_hold}, Formulas.{FormulaValue, Satisfiable}, Lines.ProofLineValue, declared.line.LratLine.{LratLine, TheVariants.{Addition, Deletion}}}
use Rattle.proof_rules.proofs.{Sound.{none_any, is_so, holds, Holds, no_conflict, still_untrue, turned, own_holds, entry_holds}, Tested.{rup_by, rat_by}, Numbered.{Numbered, start_numbered, more_numbered, fewer_numbered}}
use Rattle.proof_rules.{proofs.Taking.same_itself, specs.{Refuting.{with_line, with_accepted, all_accepted, after_lines, IsChecker, Refutes}, Held.{CheckerValue, start_of, has_none}, Testing.{is_rup, is_rat, accepts}}}
use Rattle.proof_rules.specs.Accepting.{Implied, Redundant, groups_of, leading, IsNew}

-- all that is held can be satisfied together, each by its number, and nothing was refuted
pub record Calm (c : CheckerValue) : Type 0 where
  pub values : ℕ → Bool
  pub all : All (Holds values) c.held
  pub calm : c.refuted ≡ false
  pub numbered : Numbered c.held (max (length c.formula.clauses) c.greatest + 1)

with_clause : (c : CheckerValue) (line : ProofLineValue) (v : ℕ → Bool) → IsNew c line → Calm c → All (Holds v) c.held → holds v line.lits ≡ true → Calm (with_line c line)
with_clause c line v n q all h =
    let old = max (length c.formula.clauses) c.greatest in
    let high : old + 1 ≤ line.id = omega (arith, n.above_formula, n.above_lines) in
    let is : max (length c.formula.clauses) line.id ≡ line.id = omega (arith, n.above_formula) in
    let more = more_numbered c.held (old + 1) line.id line.lits high q.numbered in
    record {
      values = v;
      all = All-push (Holds v) c.held (line.id, line.lits) all h;
      calm = or_from c.refuted (has_none line.lits) q.calm (grind arith);
      numbered = subst (λ k. Numbered (c.held ++ (line.id, line.lits) ∷ []) (k + 1)) (sym is) more;
    }

by_implied_line : (c : CheckerValue) (line : ProofLineValue) → Implied c line → Calm c → Calm (with_line c line)
by_implied_line c line i q =
    let v = q.values in
    let h : holds v line.lits ≡ true = grind (arith, no_conflict v c.held line.lits (leading line.hints) q.all, none_any (is_so v) line.lits) in
    with_clause c line v i.new q q.all h

by_redundant_line : (c : CheckerValue) (line : ProofLineValue) → Redundant c line → Calm c → Calm (with_line c line)
by_redundant_line c line r q =
    let v = q.values in
    ⊎_elim (λ t. with_clause c line v r.new q q.all t)
    (λ f.
    let w = turned v r.pivot in
    let untrue = still_untrue v r.start c.held line.lits (leading line.hints) q.all (none_any (is_so v) line.lits f) r.leads in
    let all : All (Holds w) c.held = λ k d i. entry_holds v r.pivot c.held r.start (groups_of line.hints) q.all untrue r.answers (get_or c.held k d) (q.numbered.found k d i) (q.all k d i) (r.each k d i) in
    let own : holds w (r.pivot ∷ r.rest) ≡ true = own_holds v r.pivot (r.pivot ∷ r.rest) (or_left (same_literal r.pivot r.pivot) (has_literal r.rest r.pivot) (same_itself r.pivot)) in
    with_clause c line w r.new q all (ap (holds w) r.first ∙ own))
    (cases_Bool (holds v line.lits))

stays_calm : (c : CheckerValue) (line : LratLine) → accepts c line ≡ true → Calm c → Calm (with_accepted c line)
stays_calm c (Addition line) h q = ⊎_elim (λ r. by_implied_line c line (rup_by c line r) q) (λ r. by_redundant_line c line (rat_by c line r) q) (or_cases (is_rup c line) (is_rat c line) h)
stays_calm c (Deletion deletion) h q =
    let stays : ℕ → Bool = λ id. not (list_any (λ other. other == id) deletion.ids) in
    record {
      values = q.values;
      all = All-filter (λ entry. stays entry.0) (Holds q.values) c.held q.all;
      calm = q.calm;
      numbered = fewer_numbered stays c.held (max (length c.formula.clauses) c.greatest + 1) q.numbered;
    }

pub all_calm : (lines : List LratLine) (c : CheckerValue) → all_accepted c lines ≡ true → Calm c → Calm (after_lines c lines)
all_calm [] c a q = q
all_calm (line ∷ lines) c a q = grind (arith, all_calm lines (with_accepted c line), stays_calm c line)

start_holds : (values : List Bool) (clauses : List (List LitValue)) (n : ℕ) → all_hold values clauses ≡ true → All (Holds (value_of values)) (enumerate_from n clauses)
start_holds values [] n h = All-nil (Holds (value_of values))
start_holds values (clause ∷ clauses) n h = grind (arith, start_holds values clauses (n + 1))

pub starts_calm : (f : FormulaValue) → Satisfiable f → Calm (start_of f)
starts_calm f s =
    let is : max (length f.clauses) 0 ≡ length f.clauses = omega arith in
    record {
      values = value_of s.values;
      all = start_holds s.values f.clauses 1 s.satisfies.holds;
      calm = refl;
      numbered = subst (λ k. Numbered (enumerate_from 1 f.clauses) (k + 1)) (sym is) (start_numbered f.clauses);
    }

pub never_refuted : (f : FormulaValue) (lines : List LratLine) → Satisfiable f → Refutes lines f → ⊥
never_refuted f lines s r = grind (arith, all_calm lines (start_of f) r.accepted (starts_calm f s))

pub never_refuted_after : (c : CheckerValue) → IsChecker c → c.refuted ≡ true → Satisfiable c.formula → ⊥
never_refuted_after c i r s = never_refuted c.formula i.lines s (record { accepted = i.accepted; refuted = ap (λ d. d.refuted) i.is ∙ r })
