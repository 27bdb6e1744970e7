-- The checks of a line in their order, and the verdict: the first that fails (LRAT: Cruz-Filipe et al. 2017; the order and the codes are this project's own).
use Rattle.std.specs.{Prelude.{◌==◌, ◌||◌, ℕ, ◌+◌, Bool, true, false, not, List, [], ◌∷◌, length, Option, None, Some, Result, Ok, Err, max, nat_le, nat_lt, if◌then◌else◌}, List.{list_any, list_all}}
use Rattle.cnf_formula.specs.{Literals.{LitValue, negation, same_literal}, Lines.{ProofLineValue, DeletionValue}, declared.line.LratLine.{LratLine, TheVariants.{Addition, Deletion}}}
use Rattle.proof_rules.specs.declared.verdict.{LineCode.LineCode, LineVerdict.{LineVerdict, TheVariants.{Accepted, Refused}}}
use Rattle.proof_rules.specs.declared.verdict.LineCode.TheVariants.{IdNotGreater, UnknownHint, HintNotUnit, NoConflict, HintsAfterConflict, UnknownDeletion, VariableRange, VariableTwice, NoPivot, PivotNotNegated, GroupTwice, GroupMissing}
use Rattle.proof_rules.specs.{Held.{Entry, CheckerValue, clause_at, open_literals}, Testing.{has_number_twice, are_held}, Accepting.{Group, leading, groups_of, has_negated, without_negated, is_made_true, is_answered}}

-- ---- hints of one sign

-- what a clause gives by the literals of it that are not false: a conflict where there is none, the one literal where there is one, which may stand there twice
abbrev pub given_by : List LitValue → Result (Option LitValue) LineCode
given_by [] = Ok None
given_by (l ∷ ls) = if list_all (same_literal l) ls then Ok (Some l) else Err HintNotUnit

abbrev pub given_by_clause : List LitValue → Option (List LitValue) → Result (Option LitValue) LineCode
given_by_clause falses None = Err UnknownHint
given_by_clause falses (Some clause) = given_by (open_literals falses clause)

-- a code, and the place of the hint that it is about
abbrev pub Fault : Type 0
Fault = LineCode × ℕ

-- hints lead to a conflict at the last of them, or to literals that are false; a hint after a conflict is one too many
abbrev pub after_conflict : ℕ → List ℕ → Result (Option (List LitValue)) Fault
after_conflict place [] = Ok None
after_conflict place (id ∷ ids) = Err (HintsAfterConflict, place)

abbrev pub led_to : List Entry → List LitValue → ℕ → List ℕ → Result (Option (List LitValue)) Fault
led_to held falses place [] = Ok (Some falses)
led_to held falses place (id ∷ ids) = elim (given_by_clause falses (clause_at held id)) [
  | Err code ↦ Err (code, place)
  | Ok None ↦ after_conflict (place + 1) ids
  | Ok (Some l) ↦ led_to held (negation l ∷ falses) (place + 1) ids
]

-- ---- groups

-- the literals are assumed false in their order, unless one of them is true when its turn comes
abbrev pub assumed : List LitValue → List LitValue → Option (List LitValue)
assumed falses [] = Some falses
assumed falses (l ∷ ls) = if is_made_true falses l then None else assumed (l ∷ falses) ls

-- where one is true, the hints of the group count for nothing
abbrev pub closing_fault : List Entry → Group → Option (List LitValue) → Option Fault
closing_fault held group None = None
closing_fault held group (Some falses) = elim (led_to held falses (group.place + 1) group.hints) [
  | Err fault ↦ Some fault
  | Ok None ↦ None
  | Ok (Some last) ↦ Some (NoConflict, group.place)
]

abbrev pub group_fault : List Entry → LitValue → List LitValue → List ℕ → Group → Option (List LitValue) → Option Fault
group_fault held pivot start earlier group None = Some (UnknownHint, group.place)
group_fault held pivot start earlier group (Some clause) =
    if not (has_negated pivot clause) then Some (PivotNotNegated, group.place)
    else if list_any (λ id. id == group.named) earlier then Some (GroupTwice, group.place)
    else closing_fault held group (assumed start (without_negated pivot clause))

-- the first fault of the groups, where clauses of these numbers had groups before them
abbrev pub groups_fault : List Entry → LitValue → List LitValue → List ℕ → List Group → Option Fault
groups_fault held pivot start earlier [] = None
groups_fault held pivot start earlier (group ∷ groups) = elim (group_fault held pivot start earlier group (clause_at held group.named)) [
  | Some fault ↦ Some fault
  | None ↦ groups_fault held pivot start (group.named ∷ earlier) groups
]

-- ---- an addition

-- a group after a conflict is one too many
abbrev pub implied_verdict : List Group → LineVerdict
implied_verdict [] = Accepted true
implied_verdict (group ∷ groups) = Refused HintsAfterConflict group.place

-- a clause without a literal has no pivot
abbrev pub pivotless_verdict : List Group → LineVerdict
pivotless_verdict [] = Refused NoConflict 0
pivotless_verdict (group ∷ groups) = Refused NoPivot group.place

abbrev pub unanswered_code : List Group → LineCode
unanswered_code [] = NoConflict
unanswered_code (group ∷ groups) = GroupMissing

abbrev pub redundant_verdict : List Entry → List LitValue → List Group → List LitValue → LineVerdict
redundant_verdict held start groups [] = pivotless_verdict groups
redundant_verdict held start groups (pivot ∷ rest) = elim (groups_fault held pivot start [] groups) [
  | Some fault ↦ Refused fault.0 fault.1
  | None ↦ if list_all (is_answered pivot start groups) held then Accepted false else Refused (unanswered_code groups) 0
]

abbrev pub has_variable_twice : List LitValue → Bool
has_variable_twice [] = false
has_variable_twice (l ∷ ls) = list_any (λ other. other.var == l.var) ls || has_variable_twice ls

abbrev pub led_verdict : List Entry → ProofLineValue → LineVerdict
led_verdict held line = elim (led_to held line.lits 0 (leading line.hints)) [
  | Err fault ↦ Refused fault.0 fault.1
  | Ok None ↦ implied_verdict (groups_of line.hints)
  | Ok (Some start) ↦ redundant_verdict held start (groups_of line.hints) line.lits
]

-- the literal is about none of so many variables
abbrev pub is_foreign : ℕ → LitValue → Bool
is_foreign vars l = l.var == 0 || nat_lt vars l.var

-- the verdict on an addition: its literals are assumed false
abbrev pub verdict_of : CheckerValue → ProofLineValue → LineVerdict
verdict_of c line =
    if nat_le line.id (max (length c.formula.clauses) c.greatest) then Refused IdNotGreater 0
    else if list_any (λ l. is_foreign c.formula.vars l) line.lits then Refused VariableRange 0
    else if has_variable_twice line.lits then Refused VariableTwice 0
    else led_verdict c.held line

-- ---- a deletion

-- the verdict on a deletion; the number at its front is not checked
abbrev pub deletion_verdict : CheckerValue → DeletionValue → LineVerdict
deletion_verdict c deletion = if not (are_held c.held deletion.ids) || has_number_twice deletion.ids then Refused UnknownDeletion 0 else Accepted false

-- ---- a line

abbrev pub verdict_on : CheckerValue → LratLine → LineVerdict
verdict_on c (Addition line) = verdict_of c line
verdict_on c (Deletion deletion) = deletion_verdict c deletion

-- accepted, whether implied or not
abbrev pub is_accepted : LineVerdict → Bool
is_accepted (Accepted implied) = true
is_accepted (Refused code hint) = false

-- accepted as an addition that follows from what is held
abbrev pub is_implied : LineVerdict → Bool
is_implied (Accepted implied) = implied
is_implied (Refused code hint) = false
