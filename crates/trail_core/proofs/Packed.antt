-- The decision level, the reason and the place of each variable, in one table.
use Rattle.std.proofs.{Common.{◌≡◌, ◌≢◌, ℕ, List, Some, None, set, eqb, cond, ap}, lemmas.{Bool.ne_eqb, List.map-set}}
use Rattle.trail_core.specs.{inner.Packed.{reason_of, reasons_of, levels_of, places_of}, declared.trail.Assignment.Assignment}

pub levels_set : (xs : List Assignment) (i : ℕ) (a : Assignment) → levels_of (set xs i a) ≡ set (levels_of xs) i a.level
levels_set xs i a = map-set (λ x. x.level) xs i a

pub places_set : (xs : List Assignment) (i : ℕ) (a : Assignment) → places_of (set xs i a) ≡ set (places_of xs) i a.place
places_set xs i a = map-set (λ x. x.place) xs i a

pub reasons_set : (xs : List Assignment) (i : ℕ) (a : Assignment) → reasons_of (set xs i a) ≡ set (reasons_of xs) i (reason_of a)
reasons_set xs i a = map-set reason_of xs i a

pub no_reason : (a : Assignment) → a.reason ≡ 4294967295 → reason_of a ≡ None
no_reason a e = ap (λ n. cond (eqb n 4294967295) None (Some a.reason)) e

-- the number of a clause is its reason
pub some_reason : (a : Assignment) → a.reason ≢ 4294967295 → reason_of a ≡ Some a.reason
some_reason a d = ap (λ b. cond b None (Some a.reason)) (ne_eqb a.reason 4294967295 d)
