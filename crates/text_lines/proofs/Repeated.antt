-- Lines that repeat are parts of one line each, and parts that repeat go on behind the one before.
use Rattle.std.proofs.{Common.{◌≡◌, ℕ, zero, suc, ◌+◌, ◌<◌, ◌≤◌, Bool, true, false, List, [], ◌∷◌, ◌++◌, length, drop, Option, Some, Result, Ok, Err, refl, ap, ◌∙◌, arith, if◌then◌else◌}, lemmas.{Grind.common_steps, Bool.Decides.nat_tests}}
use Rattle.text_lines.{specs.{Text.{Row, Place, behind}, Check.{◌>>=◌, at_line, first, line_part}, Repeated.{begins, row_begins, lines_from, lines_at, parts_from, parts_at}}, proofs.Checks.{first_is, part_ok, after_line}}

abbrev pub place : ℕ → List Row → Place
place n rows = record { number = n; rows = rows }

-- ---- alike, step by step

pub same_then : {X B E : Type 0} (r : Result X E) (f g : X → Result B E) → ((x : X) → r ≡ Ok x → f x ≡ g x) → (r >>= f) ≡ (r >>= g)
same_then (Ok x) f g each = each x refl
same_then (Err e) f g each = refl

same_if : {X : Type 0} (b : Bool) (x y z : X) → (b ≡ true → x ≡ y) → (if b then x else z) ≡ (if b then y else z)
same_if true x y z same = same refl
same_if false x y z same = refl

-- ---- lines are parts of one line

-- the check of a line, as one of a part
abbrev pub line_by : {A C : Type 0} → (List A → Option Row → Result A C) → List A → Place → Result (A × Place) (C × ℕ)
line_by check before p = line_part (check before) p

module _ {A C : Type 0} (word : List ℕ) (check : List A → Option Row → Result A C) where
  by_rows : (rows : List Row) (before : List A) (n : ℕ) → lines_from word check before n rows ≡ parts_from word (line_by check) (length rows) before (place n rows)
  by_rows [] before n = refl
  by_rows (row ∷ rows) before n =
      same_if (begins word row.bytes) _ _ _ (λ begun. same_then (at_line n (check before (Some row))) _ _ (λ a read. by_rows rows (before ++ a ∷ []) (n + 1))
      ∙ after_line n (check before (Some row)) (place (n + 1) rows) (λ x. parts_from word (line_by check) (length rows) (before ++ x.0 ∷ []) x.1))

  pub lines_are_parts : (p : Place) → lines_at word check p ≡ parts_at word (line_by check) p
  lines_are_parts p = by_rows p.rows [] p.number

-- ---- one line at a time

module _ {A C : Type 0} (word : List ℕ) (check : List A → Option Row → Result A C) where
  -- all lines from here on
  abbrev pub lines_on : List A → Place → Result (List A × Place) (C × ℕ)
  lines_on before p = lines_from word check before p.number p.rows

  pub line_refused : (before : List A) (p : Place) (row : Row) (code : C) → first p.rows ≡ Some row → row_begins word (first p.rows) ≡ true → check before (Some row) ≡ Err code → lines_on before p ≡ Err (code, p.number)
  line_refused before p row code here begun e = grind (arith, first_is)

  pub line_accepted : (before now : List A) (p q : Place) (row : Row) (x : A) → first p.rows ≡ Some row → row_begins word (first p.rows) ≡ true → check before (Some row) ≡ Ok x → now ≡ before ++ x ∷ [] → q ≡ behind p → lines_on now q ≡ lines_on before p
  line_accepted before now p q row x here begun e all at = grind (arith, first_is)

  pub lines_ended : (before : List A) (p : Place) → row_begins word (first p.rows) ≡ false → lines_on before p ≡ Ok (before, p)
  lines_ended before p other = over p.rows other
    where
      over : (rows : List Row) → row_begins word (first rows) ≡ false → lines_from word check before p.number rows ≡ Ok (before, place p.number rows)
      over [] e = refl
      over (row ∷ rows) e = rw e refl

-- ---- as many parts as lines

-- each part takes a line at least
abbrev pub Shortens : {A C : Type 0} → List ℕ → (List A → Place → Result (A × Place) (C × ℕ)) → Type 0
Shortens {A} word check = (before : List A) (p : Place) (x : A × Place) → row_begins word (first p.rows) ≡ true → check before p ≡ Ok x → length x.1.rows < length p.rows

pub one_less : (word : List ℕ) (rows : List Row) → row_begins word (first rows) ≡ true → length (drop 1 rows) < length rows
one_less word [] e = absurd (cc)
one_less word (row ∷ rows) e = omega arith

pub line_shortens : {A C : Type 0} (word : List ℕ) (check : Option Row → Result A C) (p : Place) (x : A × Place) → row_begins word (first p.rows) ≡ true → line_part check p ≡ Ok x → length x.1.rows < length p.rows
line_shortens word check p x begun read = let at = (part_ok check p x read).1 in omega (arith, ap (λ z. length z.rows) at, one_less word p.rows begun)

none_begins : (word : List ℕ) (rows : List Row) → length rows ≤ 0 → row_begins word (first rows) ≡ false
none_begins word [] none = refl
none_begins word (row ∷ rows) none = absurd (omega (arith, none))

module _ {A C : Type 0} (word : List ℕ) (check : List A → Place → Result (A × Place) (C × ℕ)) where
  -- all parts from here on
  abbrev pub parts_on : List A → Place → Result (List A × Place) (C × ℕ)
  parts_on before p = parts_from word check (length p.rows) before p

  -- a part was read, and then the others
  abbrev pub parts_behind : List A → A × Place → Result (List A × Place) (C × ℕ)
  parts_behind before x = parts_on (before ++ x.0 ∷ []) x.1

  module _ (shorter : Shortens word check) where
    enough : (few most : ℕ) (before : List A) (p : Place) → length p.rows ≤ few → few ≤ most → parts_from word check few before p ≡ parts_from word check most before p
    enough zero zero before p low le = refl
    enough zero (suc most) before p low le = rw (none_begins word p.rows low) refl
    enough (suc few) zero before p low le = absurd (omega (arith, le))
    enough (suc few) (suc most) before p low le =
        same_if (row_begins word (first p.rows)) _ _ _ (λ begun. same_then (check before p) _ _ (λ x read. let less = shorter before p x begun read in enough few most (before ++ x.0 ∷ []) x.1 (omega (arith, less, low)) (omega (arith, le))))

    -- one turn
    pub parts_turn : (before : List A) (p : Place) → parts_on before p ≡ (if row_begins word (first p.rows) then (check before p >>= parts_behind before) else Ok (before, p))
    parts_turn before p = grind (arith, nat_tests, common_steps, enough, same_if, same_then)
