-- What a clause gives, by its literals that are not false.
use Rattle.std.{proofs.{lemmas.{Bool.{false≢true, eq-eqb}, List.Elements.{All-nil, All-head, All-tail}}, Common.{arith, ◌≡◌, true, false, List, [], ◌∷◌, Some, Ok, refl, ◌⊎◌, All}}, specs.List.list_all}
use Rattle.cnf_formula.specs.Literals.{LitValue, same_literal, has_literal}
use Rattle.proof_rules.specs.{Held.open_literals, Judging.given_by, Accepting.IsFalse}

pub same_itself : (l : LitValue) → same_literal l l ≡ true
same_itself l = grind (arith, eq-eqb l.var l.var)

abbrev pub FalseOrIs : List LitValue → LitValue → LitValue → Type 0
FalseOrIs falses l other = IsFalse falses other ⊎ (other ≡ l)

pub none_open : (falses clause : List LitValue) → open_literals falses clause ≡ [] → All (IsFalse falses) clause
none_open falses [] h = All-nil (IsFalse falses)
none_open falses (x ∷ clause) h = grind (arith, none_open falses clause)

pub open_none : (falses clause : List LitValue) → All (IsFalse falses) clause → open_literals falses clause ≡ []
open_none falses [] h = refl
open_none falses (x ∷ clause) h = grind (arith, All-head, All-tail, open_none falses clause (All-tail (IsFalse falses) x clause h))

-- the literals that are not false are all one
pub rest_is : (falses clause : List LitValue) (l : LitValue) → list_all (same_literal l) (open_literals falses clause) ≡ true → All (FalseOrIs falses l) clause
rest_is falses [] l h = All-nil (FalseOrIs falses l)
rest_is falses (x ∷ clause) l h = grind (arith, rest_is falses clause l)

pub is_rest : (falses clause : List LitValue) (l : LitValue) → All (FalseOrIs falses l) clause → list_all (same_literal l) (open_literals falses clause) ≡ true
is_rest falses [] l h = refl
is_rest falses (x ∷ clause) l h = grind (arith, All-tail, All-head, is_rest falses clause l (All-tail (FalseOrIs falses l) x clause h))

-- the first literal that is not false stands in the clause
pub first_open : (falses clause : List LitValue) (l : LitValue) (ls : List LitValue) → open_literals falses clause ≡ l ∷ ls → (has_literal clause l ≡ true) × (has_literal falses l ≡ false)
first_open falses [] l ls h = absurd (cc)
first_open falses (x ∷ clause) l ls h = grind (arith, first_open falses clause l ls)

-- a clause with a literal that is not false has a first one
pub some_open : (falses clause : List LitValue) (l : LitValue) → has_literal clause l ≡ true → has_literal falses l ≡ false → open_literals falses clause ≡ [] → ⊥
some_open falses [] l s o h = false≢true s
some_open falses (x ∷ clause) l s o h = grind (arith, some_open falses clause l)

-- ---- what is given

pub gives_some : (ls : List LitValue) (l : LitValue) → given_by ls ≡ Ok (Some l) → (rest : List LitValue) × (ls ≡ l ∷ rest) × (list_all (same_literal l) rest ≡ true)
gives_some ls l h = grind arith

-- the first of literals that are all one is that one
pub given_one : (falses clause : List LitValue) (l : LitValue) → has_literal clause l ≡ true → has_literal falses l ≡ false → All (FalseOrIs falses l) clause → given_by (open_literals falses clause) ≡ Ok (Some l)
given_one falses clause l s o h = go (open_literals falses clause) refl (is_rest falses clause l h)
  where
    go : (ls : List LitValue) → open_literals falses clause ≡ ls → list_all (same_literal l) ls ≡ true → given_by ls ≡ Ok (Some l)
    go [] e h = absurd (some_open falses clause l s o e)
    go (x ∷ xs) e h = grind arith
