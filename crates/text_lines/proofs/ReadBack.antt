-- Lines that are spelled are read, one by one, many of a kind, and many parts of a kind.
use Rattle.std.proofs.{Common.{◌≡◌, ℕ, zero, suc, ◌+◌, ◌≤◌, Bool, true, false, List, [], ◌∷◌, ◌++◌, map, length, Option, Some, Result, Ok, refl, sym, ap, ◌∙◌, subst, append_assoc, arith, flat_map, if◌then◌else◌}, lemmas.List.append-nil}
use Rattle.text_lines.{specs.{Text.{Row, Place}, Check.{◌>>=◌, at_line, first, line_part}, Repeated.{begins, row_begins, lines_from, parts_from}}, proofs.{Gives.rows_split, Repeated.place, Rows.row_of}}

-- ---- what was read, and the lines that are left, at whatever number they stand

pub record Reads {A C : Type 0} (r : Result (A × Place) (C × ℕ)) (x : A) (rest : List Row) : Type 0 where
  pub number : ℕ
  pub is : r ≡ Ok (x, place number rest)

pub reads_here : {A C : Type 0} (x : A) (n : ℕ) (rest : List Row) → Reads {C = C} (Ok (x, place n rest)) x rest
reads_here x n rest = record { number = n; is = refl }

pub reads_as : {A C : Type 0} {x y : A} {rest : List Row} (r : Result (A × Place) (C × ℕ)) → x ≡ y → Reads r x rest → Reads r y rest
reads_as {A} {C} {x} {y} {rest} r same one = subst (λ (z : A). Reads r z rest) same one

-- one step that passes, and then the rest
pub reads_on : {A B C : Type 0} {x : A} {y : B} {rest : List Row} (r : Result A (C × ℕ)) (f : A → Result (B × Place) (C × ℕ)) → r ≡ Ok x → Reads (f x) y rest → Reads (r >>= f) y rest
reads_on r f one later = record { number = later.number; is = ap (λ z. z >>= f) one ∙ later.is }

pub reads_then : {A B C : Type 0} {x : A} {y : B} {rest last : List Row} (r : Result (A × Place) (C × ℕ)) (f : A × Place → Result (B × Place) (C × ℕ)) → Reads r x rest → ((n : ℕ) → Reads (f (x, place n rest)) y last) → Reads (r >>= f) y last
reads_then r f one later = reads_on r f one.is (later one.number)

-- the same of what comes to an end
pub reads_end : {A B C : Type 0} {x : A} {y : B} {rest : List Row} (r : Result (A × Place) (C × ℕ)) (f : A × Place → Result B (C × ℕ)) → Reads r x rest → ((n : ℕ) → f (x, place n rest) ≡ Ok y) → (r >>= f) ≡ Ok y
reads_end r f one later = ap (λ z. z >>= f) one.is ∙ later one.number

-- where the test holds
reads_if : {A C : Type 0} {x : A} {rest : List Row} (b : Bool) (r s : Result (A × Place) (C × ℕ)) → b ≡ true → Reads r x rest → Reads (if b then r else s) x rest
reads_if true r s e one = one
reads_if false r s e one = absurd (cc)

reads_else : {A C : Type 0} {x : A} {rest : List Row} (b : Bool) (r s : Result (A × Place) (C × ℕ)) → b ≡ false → Reads s x rest → Reads (if b then r else s) x rest
reads_else true r s e one = absurd (cc)
reads_else false r s e one = one

pub line_again : {A C : Type 0} (check : Option Row → Result A C) (row : Row) (x : A) (n : ℕ) (rows : List Row) → check (Some row) ≡ Ok x → Reads (line_part check (place n (row ∷ rows))) x rows
line_again check row x n rows e = reads_on _ _ (ap (at_line n) e) (reads_here x (n + 1) rows)

-- the next line, if there is one, does not begin with the word
abbrev pub Ends : List ℕ → List Row → Type 0
Ends word rows = row_begins word (first rows) ≡ false

-- ---- lines that repeat

-- a check that reads the line of a value, where the value and those around it are valid
pub record ReadsLine {A C : Type 0} (word : List ℕ) (check : List A → Option Row → Result A C) (spell : A → List (List ℕ)) (Q : List A → Type 0) : Type 0 where
  pub line : (before : List A) (x : A) (more : List A) → Q (before ++ x ∷ more) → check before (Some (row_of (spell x))) ≡ Ok x
  pub starts : (x : A) → begins word (row_of (spell x)).bytes ≡ true

module _ {A C : Type 0} (word : List ℕ) (check : List A → Option Row → Result A C) (spell : A → List (List ℕ)) (Q : List A → Type 0) (reads : ReadsLine word check spell Q) where
  pub lines_again : (before more : List A) (n : ℕ) (rest : List Row) → Q (before ++ more) → Ends word rest → Reads (lines_from word check before n (map row_of (map spell more) ++ rest)) (before ++ more) rest
  lines_again before [] n [] valid ends = reads_as _ (sym (append-nil before)) (reads_here before n [])
  lines_again before [] n (row ∷ rows) valid ends = reads_else _ _ _ ends (reads_as _ (sym (append-nil before)) (reads_here before n (row ∷ rows)))
  lines_again before (x ∷ more) n rest valid ends =
      let moved = append_assoc before (x ∷ []) more in
      reads_if _ _ _ (reads.starts x) (reads_on _ _ (ap (at_line n) (reads.line before x more valid)) (reads_as _ moved (lines_again (before ++ x ∷ []) more (n + 1) rest (subst Q (sym moved) valid) ends)))

-- ---- parts of several lines that repeat

-- a check that reads the lines of a value, where what follows them ends them
pub record ReadsPart {A C : Type 0} (word : List ℕ) (check : List A → Place → Result (A × Place) (C × ℕ)) (spell : A → List (List (List ℕ))) (Q : List A → Type 0) (Stops : List Row → Type 0) : Type 0 where
  pub part : (before : List A) (x : A) (more : List A) (n : ℕ) (rest : List Row) → Q (before ++ x ∷ more) → Stops rest → Reads (check before (place n (map row_of (spell x) ++ rest))) x rest
  pub starts : (x : A) (rest : List Row) → row_begins word (first (map row_of (spell x) ++ rest)) ≡ true
  pub stops : (x : A) (rest : List Row) → Stops (map row_of (spell x) ++ rest)

module _ {A C : Type 0} (word : List ℕ) (check : List A → Place → Result (A × Place) (C × ℕ)) (spell : A → List (List (List ℕ))) (Q : List A → Type 0) (Stops : List Row → Type 0) (reads : ReadsPart word check spell Q Stops) where
  -- what follows a part: the next one, or what follows them all
  parts_stop : (more : List A) (rest : List Row) → Stops rest → Stops (map row_of (flat_map spell more) ++ rest)
  parts_stop [] rest last = last
  parts_stop (x ∷ more) rest last = subst Stops (sym (rows_split (spell x) (flat_map spell more) rest)) (reads.stops x (map row_of (flat_map spell more) ++ rest))

  pub parts_again : (fuel : ℕ) (before more : List A) (n : ℕ) (rest : List Row) → length more ≤ fuel → Q (before ++ more) → Ends word rest → Stops rest
      → Reads (parts_from word check fuel before (place n (map row_of (flat_map spell more) ++ rest))) (before ++ more) rest
  parts_again zero before [] n rest enough valid ends stops = reads_as _ (sym (append-nil before)) (reads_here before n rest)
  parts_again (suc fuel) before [] n rest enough valid ends stops = reads_else _ _ _ ends (reads_as _ (sym (append-nil before)) (reads_here before n rest))
  parts_again zero before (x ∷ more) n rest enough valid ends stops = absurd (omega (arith, enough))
  parts_again (suc fuel) before (x ∷ more) n rest enough valid ends stops =
      let behind : List Row = map row_of (flat_map spell more) ++ rest in
      let moved = append_assoc before (x ∷ []) more in
      subst (λ (rs : List Row). Reads (parts_from word check (suc fuel) before (place n rs)) (before ++ x ∷ more) rest) (sym (rows_split (spell x) (flat_map spell more) rest))
      (reads_if _ _ _ (reads.starts x behind) (reads_then _ _ (reads.part before x more n behind valid (parts_stop more rest stops))
      (λ k. reads_as _ moved (parts_again fuel (before ++ x ∷ []) more k rest (omega (arith, enough)) (subst Q (sym moved) valid) ends stops))))
