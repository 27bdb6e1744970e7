-- Where each clause that is held has two literals, nothing falls at once.
use Rattle.std.{proofs.{Common.{arith, ◌≡◌, ℕ, Bool, true, false, List, [], ◌∷◌, Some, subst, not, All}, lemmas.{Bool.false≢true, List.Elements.{All-head, All-tail}}}, specs.List.list_all}
use Rattle.cnf_formula.specs.{Literals.{LitValue, same_literal}, Lines.ProofLineValue}
use Rattle.proof_rules.{specs.{Held.{Entry, CheckerValue, clause_at}, Testing.is_rup, Accepting.{IsFalse, Conflicts, leading}}, proofs.{Taking.FalseOrIs, Tested.rup_by}}

-- the first two literals of the clause differ
abbrev pub has_two : List LitValue → Bool
has_two [] = false
has_two (x ∷ []) = false
has_two (x ∷ y ∷ clause) = not (same_literal x y)

abbrev pub all_two : List Entry → Bool
all_two held = list_all (λ entry. has_two entry.1) held

found : (held : List Entry) (id : ℕ) (clause : List LitValue) → all_two held ≡ true → clause_at held id ≡ Some clause → has_two clause ≡ true
found [] id clause a h = absurd (cc)
found (entry ∷ held) id clause a h = grind (arith, found held id clause)

none_falsified : (clause : List LitValue) → has_two clause ≡ true → All (IsFalse []) clause → ⊥
none_falsified [] t f = false≢true t
none_falsified (x ∷ clause) t f = false≢true (All-head (IsFalse []) x clause f)

none_taken : (clause : List LitValue) (l : LitValue) → has_two clause ≡ true → All (FalseOrIs [] l) clause → ⊥
none_taken (x ∷ y ∷ clause) l t o =
    grind (arith, All-head (FalseOrIs [] l) y clause (All-tail (FalseOrIs [] l) x (y ∷ clause) o), All-head (FalseOrIs [] l) x (y ∷ clause) o)
none_taken clause l t o = grind arith

no_conflict_at_once : (held : List Entry) (ids : List ℕ) → all_two held ≡ true → Conflicts held [] ids → ⊥
no_conflict_at_once held [] a c = c
no_conflict_at_once held (id ∷ []) a c = none_falsified c.clause (found held id c.clause a c.names) c.each
no_conflict_at_once held (id ∷ next ∷ ids) a c = none_taken c.1.clause c.0 (found held id c.1.clause a c.1.names) c.1.others

pub nothing_falls : (c : CheckerValue) → all_two c.held ≡ true → (line : ProofLineValue) → line.lits ≡ [] → is_rup c line ≡ true → ⊥
nothing_falls c a line e v = no_conflict_at_once c.held (leading line.hints) a (subst (λ lits. Conflicts c.held lits (leading line.hints)) e (rup_by c line v).conflict)
