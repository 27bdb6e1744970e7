-- Parts that repeat, turn by turn, and the last of those that were read.
use Rattle.std.{proofs.Common.{◌≡◌, ℕ, suc, ◌+◌, ◌-◌, ◌<◌, ◌≤◌, ◌&&◌, ◌==◌, Bool, true, false, if◌then◌else◌, List, [], ◌∷◌, ◌++◌, length, map, slice_get, Option, None, Some, Result, Ok, ap, refl, sym, arith, length-append, sub-one}, proofs.lemmas.Bool.Decides.nat_tests, specs.{List.last_or, Option.option_map}}
use Rattle.text_lines.specs.{Text.{Row, Place}, Check.first, Repeated.{row_begins, parts_from}}

some_begins : (word : List ℕ) (rows : List Row) → row_begins word (first rows) ≡ true → 0 < length rows
some_begins word [] e = absurd (cc)
some_begins word (row ∷ rows) e = omega arith

-- behind a part go on those that may still come
pub turn_taken : {A C : Type 0} (word : List ℕ) (check : List A → Place → Result (A × Place) (C × ℕ)) (most : ℕ) (before now : List A) (p q : Place) (x : A) → true ≡ row_begins word (first p.rows) → check before p ≡ Ok (x, q) → now ≡ before ++ x ∷ [] → length before + length p.rows ≤ most
    → parts_from word check (most - length now) now q ≡ parts_from word check (most - length before) before p
turn_taken word check most before now p q x begun read all few =
    let left : most - length before ≡ suc (most - length now) = omega (arith, some_begins word p.rows (sym begun), ap length all, length-append before (x ∷ []), few) in
    rw (left, sym begun, read, all)

-- each takes a line at least
pub turn_counted : {A : Type 0} (before now : List A) (x : A) (left rest most : ℕ) → now ≡ before ++ x ∷ [] → rest < left → length before + left ≤ most → length now + rest ≤ most
turn_counted before now x left rest most all fewer few = omega (arith, ap length all, length-append before (x ∷ []))

last_behind : {A : Type 0} (xs : List A) (x : A) (o : Option A) → slice_get (x ∷ xs) (length xs) ≡ last_or o (x ∷ xs)
last_behind [] x o = refl
last_behind (y ∷ ys) x o = last_behind ys y (Some x)

pub last_of : {A : Type 0} (xs : List A) → slice_get xs (length xs - 1) ≡ last_or None xs
last_of [] = refl
last_of (x ∷ xs) = rw sub-one (last_behind xs x None)

part_of_last : {A B : Type 0} (f : A → B) (xs : List A) (o : Option A) → last_or (option_map f o) (map f xs) ≡ option_map f (last_or o xs)
part_of_last f [] o = refl
part_of_last f (x ∷ xs) o = part_of_last f xs (Some x)

pub last_part : {A B : Type 0} (f : A → B) (xs : List A) → last_or None (map f xs) ≡ option_map f (last_or None xs)
last_part f xs = part_of_last f xs None

-- ---- two tests in a row

pub not_tested : {A B : Type 0} (t u : Bool) (x : A) (y : B) → None ≡ (if t then Some x else None) → None ≡ (if t && u then Some y else None)
not_tested true u x y e = absurd (cc)
not_tested false u x y e = refl

pub tested : {A B : Type 0} (f : A → ℕ → B) (t : Bool) (n k : ℕ) (x z : A) → Some z ≡ (if t then Some x else None) → (n == k) ≡ true → Some (f z k) ≡ (if t && n == k then Some (f x n) else None)
tested f true n k x z e given =
    let same : z ≡ x = cc in
    let as_many : n ≡ k = grind (arith, nat_tests) in
    rw (given, same, as_many)
tested f false n k x z e given = absurd (cc)
