-- What is held stays held under more additions, and so does a conflict.
use Rattle.std.proofs.{lemmas.Bool.and_from, Math.Logic.∥∥₁_elim, Common.{◌≡◌, ℕ, suc, max, List, [], ◌∷◌, ◌++◌, length, Some, refl, subst, arith, true, map}}
use Rattle.cnf_formula.specs.{Literals.{LitValue, negation}, Formulas.FormulaValue, Lines.ProofLineValue, declared.line.LratLine.{LratLine, TheVariants.Addition}}
use Rattle.proof_rules.specs.{declared.verdict.LineVerdict.TheVariants.Accepted as AcceptedVerdict, Held.{Entry, CheckerValue, start_of, clause_at}, Testing.accepts, Judging.{verdict_of, is_accepted, verdict_on}}
use Rattle.proof_rules.{specs.{Accepting.{Conflicts, Implied, leading}, Refuting.{with_line, with_accepted, all_accepted, after_lines, IsChecker, Exhaustion, Exhausted}}, proofs.{Numbered.kept, Verdicts.implied_by, Tested.{by_rup, acceptance_said}}}

abbrev pub Keeps : List Entry → List Entry → Type 0
Keeps held more = (id : ℕ) (clause : List LitValue) → clause_at held id ≡ Some clause → clause_at more id ≡ Some clause

pub keeps_append : (held more : List Entry) → Keeps held (held ++ more)
keeps_append held more = kept held more

pub conflict_kept : (held more : List Entry) → Keeps held more → (falses : List LitValue) (ids : List ℕ) → Conflicts held falses ids → Conflicts more falses ids
conflict_kept held more k falses (id ∷ next ∷ ids) c = grind (arith, conflict_kept held more k (negation c.0 ∷ falses) (next ∷ ids) c.2)
conflict_kept held more k falses ids c = grind arith

pub additions_keep : (lines : List ProofLineValue) (c : CheckerValue) → Keeps c.held (after_lines c (map Addition lines)).held
additions_keep [] c id clause h = h
additions_keep (line ∷ lines) c id clause h = additions_keep lines (with_line c line) id clause (kept c.held ((line.id, line.lits) ∷ []) id clause h)

no_exhaustion : (f : FormulaValue) (line : ProofLineValue) (n : ℕ) → line.lits ≡ [] → verdict_of (start_of f) line ≡ AcceptedVerdict true → Exhaustion f n → ⊥
no_exhaustion f line n e v x =
    let end = after_lines (start_of f) (map Addition x.lines) in
    let i = implied_by (start_of f) line v in
    let conflict = subst (λ lits. Conflicts (start_of f).held lits (leading line.hints)) e i.conflict in
    let again : ProofLineValue = record { id = suc (max (length end.formula.clauses) end.greatest); lits = []; hints = line.hints } in
    let implied : Implied end again = record {
      new = grind arith;
      no_groups = i.no_groups;
      conflict = conflict_kept (start_of f).held end.held (additions_keep x.lines (start_of f)) [] (leading line.hints) conflict;
    } in
    x.not_closed again refl (by_rup end again implied)

pub never_exhausted : (f : FormulaValue) (line : ProofLineValue) (n : ℕ) → line.lits ≡ [] → verdict_of (start_of f) line ≡ AcceptedVerdict true → Exhausted f n → ⊥
never_exhausted f line n e v x = ∥∥₁_elim x (λ a b. absurd a) (no_exhaustion f line n e v)

-- ---- checkers

more_accepted : (lines : List LratLine) (c : CheckerValue) (line : LratLine) → all_accepted c lines ≡ true → accepts (after_lines c lines) line ≡ true → all_accepted c (lines ++ line ∷ []) ≡ true
more_accepted [] c line a v = and_from (accepts c line) true v refl
more_accepted (l ∷ lines) c line a v = grind (arith, more_accepted lines (with_accepted c l) line)

after_more : (lines : List LratLine) (c : CheckerValue) (line : LratLine) → after_lines c (lines ++ line ∷ []) ≡ with_accepted (after_lines c lines) line
after_more [] c line = refl
after_more (l ∷ lines) c line = after_more lines (with_accepted c l) line

pub starts_as_checker : (f : FormulaValue) → IsChecker (start_of f)
starts_as_checker f = record { lines = []; accepted = refl; is = refl }

same_formula : (c : CheckerValue) (line : LratLine) → (with_accepted c line).formula ≡ c.formula
same_formula c line = grind arith

pub stays_checker : (c : CheckerValue) (line : LratLine) → IsChecker c → is_accepted (verdict_on c line) ≡ true → IsChecker (with_accepted c line)
stays_checker c line i v =
    grind (arith, more_accepted i.lines (start_of c.formula) line i.accepted, acceptance_said c line, after_more i.lines (start_of c.formula) line, same_formula c line)
