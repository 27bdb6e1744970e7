-- Where some assignment satisfies a formula, some assignment of its variables satisfies all that is held after any accepted lines.
use Rattle.std.proofs.{lemmas.{Grind.common_steps, Bool.and_from, List.FromFn.{get_or-map-range_with_len, length-map-range_with_len}}, Common.{◌≡◌, ℕ, ◌+◌, ◌-◌, Bool, true, false, List, [], ◌∷◌, map, refl, ◌∙◌, arith, ◌==◌, not, All}}
use Rattle.std.{proofs.lemmas.List.Elements.{All-nil, All-cons, All-head, All-tail, All-filter}, specs.List.{list_any, enumerate_from, range_with_len}}
use Rattle.cnf_formula.specs.{Literals.{LitValue, value_of, clause_holds, all_hold}, Formulas.{FormulaValue, IsFormula, IsClause, IsAbout, Satisfiable}, declared.line.LratLine.{LratLine, TheVariants.{Addition, Deletion}}}
use Rattle.proof_rules.{specs.{Held.{Entry, CheckerValue, start_of}, Testing.accepts, Refuting.{with_accepted, all_accepted, after_lines, formula_after}}, proofs.{Sound.{holds, Holds}, Calm.{all_calm, starts_calm}}}

-- ---- what is held is about the formula's variables

abbrev InRange : ℕ → Entry → Type 0
InRange vars entry = IsClause vars entry.1

start_in_range : (vars : ℕ) (clauses : List (List LitValue)) (n : ℕ) → All (IsClause vars) clauses → All (InRange vars) (enumerate_from n clauses)
start_in_range vars [] n h = All-nil (InRange vars)
start_in_range vars (clause ∷ clauses) n h = grind (arith, All-cons, All-head, All-tail, start_in_range vars clauses (n + 1) (All-tail (IsClause vars) clause clauses h))

-- of the formula that a checker began with, and about its variables
record Kept (f : FormulaValue) (c : CheckerValue) : Type 0 where
  same : c.formula ≡ f
  in_range : All (InRange f.vars) c.held

new_in_range : (c : CheckerValue) (line : LratLine) (vars : ℕ) → c.formula.vars ≡ vars → accepts c line ≡ true → All (InRange vars) c.held → All (InRange vars) (with_accepted c line).held
new_in_range c (Deletion deletion) vars e a h = All-filter (λ entry. not (list_any (λ id. id == entry.0) deletion.ids)) (InRange vars) c.held h
new_in_range c (Addition line) vars e a h = grind (arith, common_steps)

all_kept : (f : FormulaValue) (lines : List LratLine) (c : CheckerValue) → all_accepted c lines ≡ true → Kept f c → Kept f (after_lines c lines)
all_kept f [] c a k = k
all_kept f (line ∷ lines) c a k = grind (arith, all_kept f lines (with_accepted c line), new_in_range c line f.vars)

-- ---- a valuation of all numbers as an assignment

abbrev listed : (ℕ → Bool) → ℕ → List Bool
listed v vars = map v (range_with_len 1 vars)

value_listed : (v : ℕ → Bool) (vars : ℕ) (l : LitValue) → IsAbout vars l → value_of (listed v vars) l.var ≡ v l.var
value_listed v vars l a = grind (arith, get_or-map-range_with_len v 1 vars (l.var - 1) l.var false)

clause_listed : (v : ℕ → Bool) (vars : ℕ) (clause : List LitValue) → IsClause vars clause → clause_holds (listed v vars) clause ≡ holds v clause
clause_listed v vars [] h = refl
clause_listed v vars (l ∷ clause) h = grind (arith, value_listed, All-head, All-tail, clause_listed v vars clause (All-tail (IsAbout vars) l clause h))

all_listed : (v : ℕ → Bool) (vars : ℕ) (held : List Entry) → All (InRange vars) held → All (Holds v) held → all_hold (listed v vars) (map (λ entry. entry.1) held) ≡ true
all_listed v vars [] r h = refl
all_listed v vars (entry ∷ held) r h =
    and_from (clause_holds (listed v vars) entry.1) (all_hold (listed v vars) (map (λ e. e.1) held))
    (clause_listed v vars entry.1 (All-head (InRange vars) entry held r) ∙ All-head (Holds v) entry held h)
    (all_listed v vars held (All-tail (InRange vars) entry held r) (All-tail (Holds v) entry held h))

pub still_satisfiable : (f : FormulaValue) (lines : List LratLine) → IsFormula f → Satisfiable f → all_accepted (start_of f) lines ≡ true → Satisfiable (formula_after f lines)
still_satisfiable f lines i s a =
    let end = all_calm lines (start_of f) a (starts_calm f s) in
    let kept = all_kept f lines (start_of f) a (record { same = refl; in_range = start_in_range f.vars f.clauses 1 i }) in
    record {
      values = listed end.values f.vars;
      satisfies = record {
        values_are = length-map-range_with_len end.values 1 f.vars;
        holds = all_listed end.values f.vars (after_lines (start_of f) lines).held kept.in_range end.all;
      };
    }
