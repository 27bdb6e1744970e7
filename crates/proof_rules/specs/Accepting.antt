-- When an addition is accepted (LRAT: Cruz-Filipe et al. 2017; which groups may be left out is this project's own). Implied is RUP
-- (reverse unit propagation) along the hints, redundant is RAT (resolution asymmetric tautology).
use Rattle.std.specs.{Prelude.{◌≡◌, ◌≢◌, ◌==◌, ◌||◌, ℕ, ◌+◌, ◌<◌, Bool, true, false, not, ◌⊎◌, List, [], ◌∷◌, length, filter, Some, ℤ, pos, negsuc, All, AllPairs}, List.list_any}
use Rattle.cnf_formula.specs.{Literals.{LitValue, has_literal, same_literal, negation}, Formulas.IsClause, Lines.ProofLineValue}
use Rattle.proof_rules.specs.Held.{Entry, CheckerValue, clause_at}

-- ---- hints of one sign

abbrev pub IsFalse : List LitValue → LitValue → Type 0
IsFalse falses l = has_literal falses l ≡ true

-- the number names a held clause with exactly one literal that is not false; it may stand there twice
pub record Takes (held : List Entry) (falses : List LitValue) (id : ℕ) (l : LitValue) : Type 0 where
  pub clause : List LitValue
  pub names : clause_at held id ≡ Some clause
  pub stands : has_literal clause l ≡ true
  pub not_false : has_literal falses l ≡ false
  pub others : All (λ other. IsFalse falses other ⊎ (other ≡ l)) clause

-- the number names a held clause with every literal false
pub record Falsifies (held : List Entry) (falses : List LitValue) (id : ℕ) : Type 0 where
  pub clause : List LitValue
  pub names : clause_at held id ≡ Some clause
  pub each : All (IsFalse falses) clause

-- each hint is taken, its literal becomes true, and so these are false at the end
abbrev pub LeadsTo : List LitValue → List Entry → List LitValue → List ℕ → Type 0
LeadsTo last held falses [] = falses ≡ last
LeadsTo last held falses (id ∷ ids) = (l : LitValue) × Takes held falses id l × LeadsTo last held (negation l ∷ falses) ids

-- each hint before the last is taken, and the last is a conflict
abbrev pub Conflicts : List Entry → List LitValue → List ℕ → Type 0
Conflicts held falses [] = ⊥
Conflicts held falses (id ∷ []) = Falsifies held falses id
Conflicts held falses (id ∷ next ∷ ids) = (l : LitValue) × Takes held falses id l × Conflicts held (negation l ∷ falses) (next ∷ ids)

-- ---- groups

-- the hints before the first negative one
abbrev pub leading : List ℤ → List ℕ
leading [] = []
leading (pos id ∷ hints) = id ∷ leading hints
leading (negsuc n ∷ hints) = []

-- a negative hint, with its place, and the hints behind it up to the next negative one
pub record Group : Type 0 where
  pub place : ℕ
  pub named : ℕ
  pub hints : List ℕ

-- the groups of these hints, the first of which stands at this place
abbrev pub hint_groups_from : ℕ → List ℤ → List Group
hint_groups_from place [] = []
hint_groups_from place (pos id ∷ hints) = hint_groups_from (place + 1) hints
hint_groups_from place (negsuc n ∷ hints) = record { place = place; named = n + 1; hints = leading hints } ∷ hint_groups_from (place + 1) hints

abbrev pub groups_of : List ℤ → List Group
groups_of hints = hint_groups_from 0 hints

-- ---- clauses with the negation of a literal, the pivot

abbrev pub has_negated : LitValue → List LitValue → Bool
has_negated pivot clause = has_literal clause (negation pivot)

abbrev pub without_negated : LitValue → List LitValue → List LitValue
without_negated pivot clause = filter (λ l. not (same_literal (negation pivot) l)) clause

-- a literal is true where its negation is false
abbrev pub is_made_true : List LitValue → LitValue → Bool
is_made_true falses l = has_literal falses (negation l)

-- the literals are assumed false in their order: one of them is true when its turn comes, or the hints are a conflict
abbrev pub Closes : List Entry → List ℕ → List LitValue → List LitValue → Type 0
Closes held ids falses [] = Conflicts held falses ids
Closes held ids falses (l ∷ ls) = (is_made_true falses l ≡ true) ⊎ Closes held ids (l ∷ falses) ls

-- a group closes a held clause with the negated pivot
pub record Answers (held : List Entry) (pivot : LitValue) (start : List LitValue) (group : Group) : Type 0 where
  pub clause : List LitValue
  pub names : clause_at held group.named ≡ Some clause
  pub negated : has_negated pivot clause ≡ true
  pub closes : Closes held group.hints start (without_negated pivot clause)

-- a clause is answered without the negated pivot, by a group, or by another literal that is true at the start
abbrev pub is_answered : LitValue → List LitValue → List Group → Entry → Bool
is_answered pivot start groups entry =
    not (has_negated pivot entry.1)
    || list_any (λ group. group.named == entry.0) groups
    || list_any (is_made_true start) (without_negated pivot entry.1)

-- ---- an addition

-- a new number, and variables of the formula, each once
pub record IsNew (c : CheckerValue) (line : ProofLineValue) : Type 0 where
  pub above_formula : length c.formula.clauses < line.id
  pub above_lines : c.greatest < line.id
  pub in_range : IsClause c.formula.vars line.lits
  pub once : AllPairs (λ l other. l.var ≢ other.var) line.lits

-- it follows from what is held: its hints are a conflict where every literal of the clause is assumed false
pub record Implied (c : CheckerValue) (line : ProofLineValue) : Type 0 where
  pub new : IsNew c line
  pub no_groups : groups_of line.hints ≡ []
  pub conflict : Conflicts c.held line.lits (leading line.hints)

-- it leaves satisfiable what is held: where its hints lead to no conflict, a group closes each clause with the negation of its first literal, unless another literal of that clause is true already
pub record Redundant (c : CheckerValue) (line : ProofLineValue) : Type 0 where
  pub new : IsNew c line
  pub pivot : LitValue
  pub rest : List LitValue
  pub first : line.lits ≡ pivot ∷ rest
  pub start : List LitValue
  pub leads : LeadsTo start c.held line.lits (leading line.hints)
  pub answers : All (Answers c.held pivot start) (groups_of line.hints)
  pub named_once : AllPairs (λ a b. a.named ≢ b.named) (groups_of line.hints)
  pub each : All (λ entry. is_answered pivot start (groups_of line.hints) entry ≡ true) c.held
