-- A checker stays one, line by line.
use Rattle.std.proofs.{lemmas.{Bool.Decides.nat_tests, Grind.common_steps}, Common.{◌≡◌, ℕ, ◌<◌, ◌≤◌, max, Bool, true, false, List, [], ◌∷◌, ◌++◌, length, Result, ap, arith, ◌&&◌, ◌||◌, ◌==◌, not, filter, IfOk, if◌then◌else◌}}
use Rattle.std.specs.List.{list_any}
use Rattle.cnf_formula.specs.{Lines.{ProofLineValue, DeletionValue}, Literals.LitValue, declared.line.LratLine.TheVariants.{Addition, Deletion}}
use Rattle.proof_rules.specs.{declared.verdict.{LineVerdict.{LineVerdict, TheVariants.{Accepted, Refused}}, LineCode.TheVariants.{VariableRange, VariableTwice}}, Held.{Entry, CheckerValue, has_none}, Testing.{are_held, has_number_twice}}
use Rattle.proof_rules.{specs.Judging.{verdict_of, deletion_verdict, is_foreign, has_variable_twice, led_verdict, is_accepted}, proofs.Kept.stays_checker}
use Rattle.lrat_checker.specs.{inner.Marking.MarksValue, Stored.TableValue, Checking.{checker_of, CanCheck}}

-- ---- one line more

abbrev pub table_with : TableValue → ProofLineValue → TableValue
table_with table line = record { vars = table.vars; clauses = table.clauses ++ line.lits ∷ []; held = table.held ++ (line.id, line.lits) ∷ []; last = line.id }

pub can_add : (table : TableValue) (marks : MarksValue) (o g : ℕ) (r : Bool) (line : ProofLineValue) → CanCheck table marks o g r → is_accepted (verdict_of (checker_of table o g r) line) ≡ true
    → CanCheck (table_with table line) marks o line.id (r || has_none line.lits)
can_add table marks o g r line c a =
    grind (arith, common_steps, stays_checker (checker_of table o g r) (Addition line) c.checker a)

-- ---- some clauses fewer

abbrev pub table_without : TableValue → List ℕ → TableValue
table_without table ids = record { vars = table.vars; clauses = table.clauses; held = filter (λ entry. not (list_any (λ id. id == entry.0) ids)) table.held; last = table.last }

pub deletion_accepted : (c : CheckerValue) (deletion : DeletionValue) → (are_held c.held deletion.ids && not (has_number_twice deletion.ids)) ≡ true → deletion_verdict c deletion ≡ Accepted false
deletion_accepted c deletion h = grind arith

pub can_delete : (table : TableValue) (marks : MarksValue) (o g : ℕ) (r : Bool) (deletion : DeletionValue) → CanCheck table marks o g r → (are_held table.held deletion.ids && not (has_number_twice deletion.ids)) ≡ true
    → CanCheck (table_without table deletion.ids) marks o g r
can_delete table marks o g r deletion c h =
    grind (arith, stays_checker (checker_of table o g r) (Deletion deletion) c.checker (ap is_accepted (deletion_accepted (checker_of table o g r) deletion h)))

-- ---- the verdict

abbrev pub judged : ℕ → List Entry → ProofLineValue → LineVerdict
judged vars held line =
    if list_any (λ l. is_foreign vars l) line.lits then Refused VariableRange 0
    else if has_variable_twice line.lits then Refused VariableTwice 0
    else led_verdict held line

pub judged_ok : {E : Type 0} (table : TableValue) (o g : ℕ) (r : Bool) (line : ProofLineValue) (result : Result LineVerdict E) → o ≤ length table.clauses → max g o < line.id
    → IfOk result (λ v. v ≡ judged table.vars table.held line) → IfOk result (λ v. v ≡ verdict_of (checker_of table o g r) line)
judged_ok table o g r line result w high h = grind (arith, common_steps)

pub empty_is : (xs : List LitValue) → (length xs == 0) ≡ has_none xs
empty_is xs = grind (arith, nat_tests)
