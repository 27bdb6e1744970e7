-- Whether a line is accepted, as tests that give no reason (LRAT: Cruz-Filipe et al. 2017; which groups may be left out is this
-- project's own). RUP is reverse unit propagation along the hints, RAT the same on resolvents with the first literal.
use Rattle.std.specs.{Prelude.{◌==◌, ◌&&◌, ◌||◌, ℕ, Bool, true, false, not, List, [], ◌∷◌, length, map, max, Option, None, Some, option_map, nat_le, nat_lt, if◌then◌else◌}, List.{list_any, list_all}}
use Rattle.cnf_formula.specs.{Literals.{LitValue, negation, same_literal}, Lines.ProofLineValue, declared.line.LratLine.{LratLine, TheVariants.{Addition, Deletion}}}
use Rattle.proof_rules.specs.{Held.{Entry, CheckerValue, clause_at, open_literals, has_none}, Accepting.{Group, leading, groups_of, has_negated, without_negated, is_made_true, is_answered}}

-- ---- unit propagation

-- the literals that are false at the end, where each hint leaves one literal, which becomes true; no literals where the last leaves none, a conflict; nothing where a hint is wrong
abbrev pub propagated : List Entry → List LitValue → List ℕ → Option (Option (List LitValue))
propagated held falses [] = Some (Some falses)
propagated held falses (id ∷ ids) = elim (option_map (open_literals falses) (clause_at held id)) [
  | None ↦ None
  | Some [] ↦ if has_none ids then Some None else None
  | Some (l ∷ ls) ↦ if list_all (same_literal l) ls then propagated held (negation l ∷ falses) ids else None
]

abbrev pub is_conflict : Option (Option (List LitValue)) → Bool
is_conflict (Some None) = true
is_conflict _ = false

-- ---- groups

-- the literals are assumed false in their order: one of them is true when its turn comes, or the hints are a conflict
abbrev pub closes : List Entry → List ℕ → List LitValue → List LitValue → Bool
closes held ids falses [] = is_conflict (propagated held falses ids)
closes held ids falses (l ∷ ls) = is_made_true falses l || closes held ids (l ∷ falses) ls

-- a group closes a held clause with the negated pivot
abbrev pub closes_one : List Entry → LitValue → List LitValue → Group → Bool
closes_one held pivot start group = elim (clause_at held group.named) [
  | None ↦ false
  | Some clause ↦ has_negated pivot clause && closes held group.hints start (without_negated pivot clause)
]

-- ---- an addition

abbrev pub has_number_twice : List ℕ → Bool
has_number_twice [] = false
has_number_twice (id ∷ ids) = list_any (λ other. other == id) ids || has_number_twice ids

-- a new number, and variables of the formula, each once
abbrev pub is_new : CheckerValue → ProofLineValue → Bool
is_new c line =
    nat_lt (max (length c.formula.clauses) c.greatest) line.id
    && list_all (λ l. nat_lt 0 l.var && nat_le l.var c.formula.vars) line.lits
    && not (has_number_twice (map (λ l. l.var) line.lits))

-- it follows from what is held: its hints are a conflict where every literal of the clause is assumed false
abbrev pub is_rup : CheckerValue → ProofLineValue → Bool
is_rup c line = is_new c line && has_none (groups_of line.hints) && is_conflict (propagated c.held line.lits (leading line.hints))

-- a group closes each clause with the negation of the first literal, unless another literal of that clause is true already; none has two groups
abbrev pub are_resolved : List Entry → List Group → List LitValue → Option (Option (List LitValue)) → Bool
are_resolved held groups (pivot ∷ rest) (Some (Some start)) =
    list_all (closes_one held pivot start) groups && not (has_number_twice (map (λ group. group.named) groups)) && list_all (is_answered pivot start groups) held
are_resolved held groups lits led = false

-- it leaves satisfiable what is held: its hints lead to no conflict, and its groups close what has to be closed
abbrev pub is_rat : CheckerValue → ProofLineValue → Bool
is_rat c line = is_new c line && are_resolved c.held (groups_of line.hints) line.lits (propagated c.held line.lits (leading line.hints))

-- ---- a line

-- each of these numbers is held
abbrev pub are_held : List Entry → List ℕ → Bool
are_held held ids = list_all (λ id. list_any (λ entry. entry.0 == id) held) ids

-- a deletion is of clauses that are held, each once; the number at its front is not checked
abbrev pub accepts : CheckerValue → LratLine → Bool
accepts c (Addition line) = is_rup c line || is_rat c line
accepts c (Deletion deletion) = are_held c.held deletion.ids && not (has_number_twice deletion.ids)
