-- Lists without the places of clauses that are no longer held.
use Rattle.std.proofs.{Common.{◌≡◌, ◌⊎◌, ℕ, ◌<◌, Bool, true, List, length, set, arith, All, Contains, filter}, lemmas.{Bool.cases_eq, List.{get_or-set_same, get_or-set_other, length-set, Elements.filter_passes}}}
use Rattle.list_laws.proofs.Members.{Contains-filter}
use Rattle.cnf_formula.specs.Literals.{LitValue}
use Rattle.lrat_checker.{specs.{declared.leads.LedClause.LedClause, Stored.{list_at, is_held, kept_live, IsStored}}, proofs.{Placed.live_within, Removed.{kept_at, kept_long}}}

-- a list without what is no longer held
abbrev pub cleaned : List Bool → List (List ℕ) → ℕ → List (List ℕ)
cleaned live lists code = set lists code (filter (is_held live) (list_at lists code))

pub still_there : (live : List Bool) (lists : List (List ℕ)) (code other k : ℕ) → code < length lists → is_held live k ≡ true → Contains (list_at lists other) k → Contains (list_at (cleaned live lists code) other) k
still_there live lists code other k w a h =
    grind (arith, Contains-filter (is_held live) (list_at lists code) k a, get_or-set_same, get_or-set_other, cases_eq other code)

pub all_held : (live : List Bool) (lists new : List (List ℕ)) (code : ℕ) → code < length lists → new ≡ cleaned live lists code → All (λ k. is_held live k ≡ true) (list_at new code)
all_held live lists new code w e = grind (arith, get_or-set_same lists code, filter_passes (is_held live) (list_at lists code))

pub stored_cleaned : (vars : ℕ) (ids : List ℕ) (live : List Bool) (clauses : List (List LitValue)) (lists : List (List ℕ)) (leads : List (List LedClause)) (code : ℕ) → IsStored vars ids live clauses lists leads → code < length lists
    → IsStored vars ids live clauses (cleaned live lists code) leads
stored_cleaned vars ids live clauses lists leads code s w = grind (arith, length-set lists code, still_there live lists code)

-- ---- clauses that are let go

held_before : (ids : List ℕ) (live : List Bool) (gone : List ℕ) (k : ℕ) → length live ≡ length ids → is_held (kept_live ids live gone) k ≡ true → is_held live k ≡ true
held_before ids live gone k l a = grind (arith, live_within (kept_live ids live gone) k a, kept_long ids live gone l, kept_at ids live gone k l)

pub stored_let_go : (vars : ℕ) (ids : List ℕ) (live live' : List Bool) (clauses : List (List LitValue)) (lists : List (List ℕ)) (leads : List (List LedClause)) (gone : List ℕ) → IsStored vars ids live clauses lists leads
    → (live' ≡ kept_live ids live gone) ⊎ (live' ≡ live) → IsStored vars ids live' clauses lists leads
stored_let_go vars ids live live' clauses lists leads gone s new = grind (arith, held_before ids live gone, kept_long ids live gone s.lives)
