-- Clauses that are let go, and held again.
use Rattle.std.proofs.{lemmas.Grind.common_steps, Common.{◌≡◌, ℕ, zero, suc, ◌+◌, ◌<◌, Bool, true, false, List, [], ◌∷◌, ◌++◌, length, take, get_or, set, refl, sym, ap, ◌∙◌, arith, ◌⊎◌, ◌≢◌, ◌==◌, ◌&&◌, ◌||◌, not, filter}}
use Rattle.std.proofs.lemmas.{Bool.{Decides.nat_tests, false≢true, eqb-true, cases_eq}, List.{Elements.{All-head, All-tail}, length-set, get_or-set_same, get_or-set_other, get_or_default, same_lists, drop_more, take_more, take-append-drop}}
use Rattle.std.specs.List.{list_any, list_all}
use Rattle.cnf_formula.specs.Literals.{LitValue}
use Rattle.proof_rules.specs.Testing.{has_number_twice, are_held}
use Rattle.lrat_checker.{specs.Stored.{held_of, is_live, kept_live, Rises}, proofs.Placed.{Others, rises_tail, head_below, others_above}}

abbrev pub among : List ℕ → ℕ → Bool
among gone x = list_any (λ id. id == x) gone

-- ---- which is held

pub live_not : (ids : List ℕ) (live : List Bool) (id : ℕ) → Others id ids → is_live ids live id ≡ false
live_not (x ∷ ids) (b ∷ live) id a = grind (arith, nat_tests, live_not ids live id (All-tail (λ other. other ≢ id) x ids a), All-head (λ other. other ≢ id) x ids a)
live_not ids live id a = refl

pub live_at : (ids : List ℕ) (live : List Bool) (place : ℕ) → Rises ids → length live ≡ length ids → place < length ids → is_live ids live (get_or ids place 0) ≡ get_or live place false
live_at (x ∷ ids) (b ∷ live) zero r l w = grind (arith, nat_tests, live_not ids live x (others_above x ids (head_below x ids r)))
live_at (x ∷ ids) (b ∷ live) (suc place) r l w = grind (arith, nat_tests, head_below x ids r place 0, live_at ids live place (rises_tail x ids r) (omega (arith, l)) (omega (arith, w)))
live_at ids live place r l w = absurd (omega (arith, w, l))

pub held_live : (ids : List ℕ) (live : List Bool) (clauses : List (List LitValue)) (id : ℕ) → length live ≡ length ids → length clauses ≡ length ids → list_any (λ entry. entry.0 == id) (held_of ids live clauses) ≡ is_live ids live id
held_live (x ∷ ids) (b ∷ live) (c ∷ clauses) id l m = grind (arith, held_live ids live clauses id (omega (arith, l)) (omega (arith, m)))
held_live ids live clauses id l m = grind (arith, nat_tests)

pub all_held_live : (ids : List ℕ) (live : List Bool) (clauses : List (List LitValue)) (gone : List ℕ) → length live ≡ length ids → length clauses ≡ length ids → are_held (held_of ids live clauses) gone ≡ list_all (λ id. is_live ids live id) gone
all_held_live ids live clauses [] l m = refl
all_held_live ids live clauses (g ∷ gone) l m = rw (held_live ids live clauses g l m, all_held_live ids live clauses gone l m) refl

-- ---- what stays

pub kept_long : (ids : List ℕ) (live : List Bool) (gone : List ℕ) → length live ≡ length ids → length (kept_live ids live gone) ≡ length ids
kept_long (x ∷ ids) (b ∷ live) gone l = ap suc (kept_long ids live gone (omega (arith, l)))
kept_long ids live gone l = grind (arith, nat_tests)

pub kept_at : (ids : List ℕ) (live : List Bool) (gone : List ℕ) (k : ℕ) → length live ≡ length ids → k < length ids → get_or (kept_live ids live gone) k false ≡ (get_or live k false && not (among gone (get_or ids k 0)))
kept_at (x ∷ ids) (b ∷ live) gone (suc k) l w = kept_at ids live gone k (omega (arith, l)) (omega (arith, w))
kept_at ids live gone k l w = grind (arith, nat_tests)

pub kept_none : (ids : List ℕ) (live : List Bool) → length live ≡ length ids → kept_live ids live [] ≡ live
kept_none (x ∷ ids) (b ∷ live) l = grind (arith, kept_none ids live (omega (arith, l)))
kept_none ids live l = grind (arith, common_steps)

pub held_kept : (ids : List ℕ) (live : List Bool) (clauses : List (List LitValue)) (gone : List ℕ) → length live ≡ length ids → length clauses ≡ length ids
    → held_of ids (kept_live ids live gone) clauses ≡ filter (λ entry. not (list_any (λ id. id == entry.0) gone)) (held_of ids live clauses)
held_kept (x ∷ ids) (b ∷ live) (c ∷ clauses) gone l m = grind (arith, held_kept ids live clauses gone (omega (arith, l)) (omega (arith, m)))
held_kept ids live clauses gone l m = grind (arith, nat_tests)

-- ---- one more is let go

among_push : (gone : List ℕ) (g x : ℕ) → among (gone ++ g ∷ []) x ≡ (among gone x || g == x)
among_push [] g x = grind arith
among_push (h ∷ gone) g x = grind (arith, among_push gone g x)

pub places_apart : (ids : List ℕ) → Rises ids → (i j : ℕ) → i < length ids → j < length ids → (i ≡ j → ⊥) → get_or ids i 0 ≡ get_or ids j 0 → ⊥
places_apart ids r i j a b n e = grind (arith, r i j, r j i)

pub goes : (ids : List ℕ) (live : List Bool) (gone : List ℕ) (place : ℕ) → Rises ids → length live ≡ length ids → place < length ids
    → set (kept_live ids live gone) place false ≡ kept_live ids live (gone ++ get_or ids place 0 ∷ [])
goes ids live gone place r l w =
    let g = get_or ids place 0 in
    let n = kept_long ids live gone l in
    let n' = kept_long ids live (gone ++ g ∷ []) l in
    same_lists (set (kept_live ids live gone) place false) (kept_live ids live (gone ++ g ∷ []))
    (length-set (kept_live ids live gone) place false ∙ n ∙ sym n')
    (λ k d u.
    let in' : k < length ids = omega (arith, u, length-set (kept_live ids live gone) place false, n) in
    grind (arith, nat_tests, kept_at ids live (gone ++ g ∷ []) k l in', kept_at ids live gone k l in', among_push gone g (get_or ids k 0), places_apart ids r place k w in', get_or-set_same, get_or-set_other, get_or_default, length-set, n, n', cases_eq k place))

-- ---- the answer

pub live_kept : (ids : List ℕ) (live : List Bool) (gone : List ℕ) (g : ℕ) → is_live ids (kept_live ids live gone) g ≡ (is_live ids live g && not (among gone g))
live_kept (x ∷ ids) (b ∷ live) gone g = grind (arith, live_kept ids live gone g, eqb-true x g)
live_kept ids live gone g = refl

pub twice_push : (gone : List ℕ) (g : ℕ) → has_number_twice gone ≡ false → among gone g ≡ false → has_number_twice (gone ++ g ∷ []) ≡ false
twice_push [] g t a = refl
twice_push (h ∷ gone) g t a = grind (arith, nat_tests, twice_push gone g, among_push gone g h)

among_there : (gone : List ℕ) (g : ℕ) (more : List ℕ) → among (gone ++ g ∷ more) g ≡ true
among_there [] g more = grind (arith, nat_tests)
among_there (h ∷ gone) g more = grind (arith, among_there gone g more)

pub twice_again : (gone : List ℕ) (g : ℕ) (more : List ℕ) → among gone g ≡ true → has_number_twice (gone ++ g ∷ more) ≡ true
twice_again [] g more a = absurd (false≢true a)
twice_again (h ∷ gone) g more a = grind (arith, nat_tests, twice_again gone g more, among_there gone g more)

pub not_all_live : (test : ℕ → Bool) (gone : List ℕ) (g : ℕ) (more : List ℕ) → test g ≡ false → list_all test (gone ++ g ∷ more) ≡ false
not_all_live test [] g more f = rw f refl
not_all_live test (h ∷ gone) g more f = grind (arith, not_all_live test gone g more f)

pub all_push : (test : ℕ → Bool) (gone : List ℕ) (g : ℕ) → list_all test gone ≡ true → test g ≡ true → list_all test (gone ++ g ∷ []) ≡ true
all_push test [] g a t = rw t refl
all_push test (h ∷ gone) g a t = grind (arith, all_push test gone g)

-- ---- a step that lets a clause go, and one that refuses

pub record Goes (ids : List ℕ) (live now : List Bool) (gone : List ℕ) (place k : ℕ) : Type 0 where
  pub lives : set now place false ≡ kept_live ids live (take (k + 1) gone)
  pub held : list_all (λ id. is_live ids live id) (take (k + 1) gone) ≡ true
  pub once : has_number_twice (take (k + 1) gone) ≡ false

pub one_goes : (ids : List ℕ) (live now : List Bool) (gone : List ℕ) (place k : ℕ) → Rises ids → length live ≡ length ids → k < length gone → place < length ids → get_or ids place 0 ≡ get_or gone k 0
    → now ≡ kept_live ids live (take k gone) → get_or now place false ≡ true → list_all (λ id. is_live ids live id) (take k gone) ≡ true → has_number_twice (take k gone) ≡ false → Goes ids live now gone place k
one_goes ids live now gone place k r l w p at is t held once =
    grind (arith, take_more gone k 0 w, live_at ids, kept_long ids live (take k gone) l, live_kept ids live (take k gone), goes ids live (take k gone) place r l p, all_push, twice_push (take k gone))

refused : (a b : Bool) → (a ≡ false) ⊎ (b ≡ true) → (a && not b) ≡ false
refused a b h = grind arith

pub one_stays : (ids : List ℕ) (live now : List Bool) (gone : List ℕ) (k : ℕ) → k < length gone → now ≡ kept_live ids live (take k gone) → is_live ids now (get_or gone k 0) ≡ false
    → (list_all (λ id. is_live ids live id) gone && not (has_number_twice gone)) ≡ false
one_stays ids live now gone k w is f =
    grind (arith, take-append-drop k gone, drop_more gone k 0 w, live_kept ids live, not_all_live, twice_again)

-- ---- clauses are held again

abbrev pub Back : List ℕ → List Bool → List Bool → List ℕ → Type 0
Back ids live before rest = (k : ℕ) → k < length ids → among rest (get_or ids k 0) ≡ false → get_or live k false ≡ get_or before k false

pub back_first : (ids : List ℕ) (live before : List Bool) (gone : List ℕ) → length before ≡ length ids → live ≡ kept_live ids before gone → Back ids live before gone
back_first ids live before gone n e k w f = grind (arith, kept_at ids before gone k n w)

pub back_one : (ids : List ℕ) (live before : List Bool) (rest : List ℕ) (g place : ℕ) → Rises ids → length live ≡ length ids → length before ≡ length ids → place < length ids → get_or ids place 0 ≡ g → is_live ids before g ≡ true
    → Back ids live before (g ∷ rest) → Back ids (set live place true) before rest
back_one ids live before rest g place r l m p at t b k w f = grind (arith, nat_tests, live_at ids before place r m p, places_apart ids r place k p w, b k w, get_or-set_same, get_or-set_other, cases_eq k place)

pub back_all : (ids : List ℕ) (live before : List Bool) → length live ≡ length ids → length before ≡ length ids → Back ids live before [] → live ≡ before
back_all ids live before l m b = same_lists live before (l ∙ sym m) (λ k d w. grind (arith, b k, get_or_default))
