-- A trail of literals of its variables, each once; and clauses of them.
use Rattle.std.proofs.{Common.{ℕ, ◌<◌, List, Option, length, map, sym, subst, arith, All}, lemmas.List.{length-map, get_or-map}}
use Rattle.cnf_formula.specs.{Literals.LitValue, Formulas.IsClause}
use Rattle.trail_core.{specs.{Formed.IsTrail, Trails.{step_of, IsAssigned, IsLeveled}, Search.clauses_of, Watching.{RowValue, no_row, AreRows}}, proofs.Trails.lits-steps}

pub formed_by : (vars : ℕ) (values levels : List ℕ) (reasons : List (Option ℕ)) (lits : List LitValue) (limits : List ℕ) → IsAssigned vars values lits → IsLeveled vars levels lits limits → IsTrail vars (map (step_of reasons) lits) limits
formed_by vars values levels reasons lits limits a v = grind (arith, length-map lits (step_of reasons), lits-steps reasons lits)

pub about_by : (vars : ℕ) (rows : List RowValue) → AreRows vars rows → All (IsClause vars) (clauses_of rows)
about_by vars rows a e d w =
    let v : e < length rows = omega (arith, w, length-map rows (λ r. r.lits)) in
    subst (IsClause vars) (sym (get_or-map (λ r. r.lits) rows e no_row d v)) (a e v).within
