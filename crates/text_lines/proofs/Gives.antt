-- What a reader gives: the lines of a valid value, or a fault behind the first lines of one.
use Rattle.std.proofs.Common.{◌≡◌, ℕ, zero, suc, ◌+◌, ◌-◌, Bool, true, false, List, [], ◌∷◌, ◌++◌, map, length, take, Option, Some, Result, Ok, Err, ◌⊎◌, inl, inr, refl, sym, ap, ◌∙◌, subst, append_assoc, arith, if◌then◌else◌, flat_map}
use Rattle.std.proofs.{lemmas.{Grind.common_steps, Bool.Decides.nat_tests, List.{append-nil, length-append, length-map, map-append}}, Math.Seq.take-append_seam}
use Rattle.text_lines.specs.{Text.{Row, Place}, Check.{◌>>=◌, first, line_part}, Repeated.{row_begins, lines_at, parts_from, parts_at}}
use Rattle.text_lines.proofs.{Checks.{bind_ok, bind_err, part_ok, part_err_at, first_is, ok_is}, Repeated.{line_by, lines_are_parts}, Rows.row_of}

-- ---- answers

-- this holds of each fault, and that of each value
pub record Gives {A C : Type 0} (E : C → Type 0) (N : A → Type 0) (r : Result A C) : Type 0 where
  pub ok : (x : A) → r ≡ Ok x → N x
  pub err : (e : C) → r ≡ Err e → E e

pub gives_done : {A C : Type 0} {E : C → Type 0} {N : A → Type 0} (x : A) → N x → Gives E N (Ok x)
gives_done {A} {C} {E} {N} x n = record { ok = λ y e. subst N (ok_is {C = C} x y e) n; err = λ e h. absurd (cc) }

pub gives_fail : {A C : Type 0} {E : C → Type 0} {N : A → Type 0} (c : C) → E c → Gives {A = A} E N (Err c)
gives_fail {A} {C} {E} {N} c holds = record { ok = λ x e. absurd (cc); err = λ f e. let same : c ≡ f = cc in subst E same holds }

pub gives_like : {A C : Type 0} {E F : C → Type 0} {N M : A → Type 0} {r : Result A C} → ((e : C) → E e → F e) → ((x : A) → N x → M x) → Gives E N r → Gives F M r
gives_like stops goes g = record { ok = λ x e. goes x (g.ok x e); err = λ e h. stops e (g.err e h) }

pub gives_then : {A B C : Type 0} {E F : C → Type 0} {N : A → Type 0} {M : B → Type 0} (r : Result A C) (f : A → Result B C) → Gives E N r → ((e : C) → E e → F e) → ((x : A) → r ≡ Ok x → N x → Gives F M (f x)) → Gives F M (r >>= f)
gives_then {A} {B} {C} {E} {F} r f begin stops later = record {
  ok = λ y e. let (x, read, rest) = bind_ok r f y e in let g = later x read (begin.ok x read) in g.ok y rest;
  err = λ e h. by_step e (bind_err r f e h);
}
  where
    by_step : (e : C) → (r ≡ Err e) ⊎ ((x : A) × (r ≡ Ok x) × (f x ≡ Err e)) → F e
    by_step e (inl here) = stops e (begin.err e here)
    by_step e (inr (x, read, there)) = let g = later x read (begin.ok x read) in g.err e there

-- ---- places

pub rows_split : (a b : List (List (List ℕ))) (rest : List Row) → map row_of (a ++ b) ++ rest ≡ map row_of a ++ (map row_of b ++ rest)
rows_split a b rest = ap (λ rs. rs ++ rest) (map-append row_of a b) ∙ append_assoc (map row_of a) (map row_of b) rest

-- these lines stand between the two places
pub record Between (lines : List (List (List ℕ))) (p q : Place) : Type 0 where
  pub rows : p.rows ≡ map row_of lines ++ q.rows
  pub number : q.number ≡ p.number + length lines

pub here : (p : Place) → Between [] p p
here p = record { rows = refl; number = omega arith }

pub then_on : (a b : List (List (List ℕ))) (p q r : Place) → Between a p q → Between b q r → Between (a ++ b) p r
then_on a b p q r one two = grind (arith, row_of, rows_split, length-append)

-- the numbers and the lines that are left are as many as before
pub as_many : (lines : List (List (List ℕ))) (p q : Place) → Between lines p q → q.number + length q.rows ≡ p.number + length p.rows
as_many lines p q t = let number = t.number in omega (arith, number, ap length t.rows, length-append (map row_of lines) q.rows, length-map lines row_of)

-- ---- lines that go on where a reader failed

-- the lines of the place before line n are the first of these lines
pub record Cut (lines : List (List (List ℕ))) (p : Place) (n : ℕ) : Type 0 where
  pub done : List (List (List ℕ))
  pub more : List (List (List ℕ))
  pub at : Place
  pub is : lines ≡ done ++ more
  pub read : Between done p at
  pub line : n ≡ at.number

pub cut_here : (lines : List (List (List ℕ))) (p : Place) (n : ℕ) → n ≡ p.number → Cut lines p n
cut_here lines p n e = record { done = []; more = lines; at = p; is = refl; read = here p; line = e }

pub cut_more : (lines extra : List (List (List ℕ))) (p : Place) (n : ℕ) → Cut lines p n → Cut (lines ++ extra) p n
cut_more lines extra p n c = record { done = c.done; more = c.more ++ extra; at = c.at; is = ap (λ l. l ++ extra) c.is ∙ append_assoc c.done c.more extra; read = c.read; line = c.line }

-- lines that were read, and then others
pub cut_on : (a b : List (List (List ℕ))) (p q : Place) (n : ℕ) → Between a p q → Cut b q n → Cut (a ++ b) p n
cut_on a b p q n t c = record { done = a ++ c.done; more = c.more; at = c.at; is = ap (λ l. a ++ l) c.is ∙ sym (append_assoc a c.done c.more); read = then_on a c.done p q c.at t c.read; line = c.line }

-- up to the line before it, the lines of a place and of these are the same
pub cut_agrees : (lines : List (List (List ℕ))) (p : Place) (n : ℕ) → p.number ≡ 1 → Cut lines p n → take (n - 1) p.rows ≡ take (n - 1) (map row_of lines)
cut_agrees lines p n one c = grind (arith, nat_tests, common_steps, row_of, length-map, map-append, take-append_seam)

-- ---- one line

-- a line of these words was read
line_read : {A C : Type 0} (check : Option Row → Result A C) (p : Place) (x : A × Place) (words : List (List ℕ)) → line_part check p ≡ Ok x → first p.rows ≡ Some (row_of words) → Between (words ∷ []) p x.1
line_read check p x words e is = grind (arith, part_ok, first_is, row_of)

pub line_gives : {A C : Type 0} {N : A → Type 0} (check : Option Row → Result A C) (spell : A → List (List ℕ)) (p : Place) → ((x : A) → check (first p.rows) ≡ Ok x → (first p.rows ≡ Some (row_of (spell x))) × N x)
    → Gives (λ (e : C × ℕ). e.1 ≡ p.number) (λ (x : A × Place). N x.0 × Between (spell x.0 ∷ []) p x.1) (line_part check p)
line_gives check spell p taken = grind (arith, part_ok, line_read, part_err_at)

-- ---- parts

-- the lines of a valid value were read
pub record Took {A : Type 0} (spell : A → List (List (List ℕ))) (Q : A → Type 0) (p : Place) (x : A × Place) : Type 0 where
  pub valid : Q x.0
  pub lines : Between (spell x.0) p x.1

-- the lines before this one are the first of a valid value
pub record Stops {A : Type 0} (spell : A → List (List (List ℕ))) (Q : A → Type 0) (p : Place) (n : ℕ) : Type 0 where
  pub value : A
  pub valid : Q value
  pub cut : Cut (spell value) p n

abbrev pub GivesPart : {A C : Type 0} → (A → List (List (List ℕ))) → (A → Type 0) → Place → Result (A × Place) (C × ℕ) → Type 0
GivesPart {A} {C} spell Q p r = Gives (λ (e : C × ℕ). Stops spell Q p e.1) (λ (x : A × Place). Took spell Q p x) r

-- ---- lists that go on

-- the same of one more value of a list, which may fail at its first line too
abbrev pub StopsNext : {A C : Type 0} → (A → List (List (List ℕ))) → (List A → Type 0) → List A → Place → C × ℕ → Type 0
StopsNext one Q before p e = (e.1 ≡ p.number) ⊎ Stops one (λ x. Q (before ++ x ∷ [])) p e.1

-- a check that takes one more value, behind those before it
abbrev pub Steps : {A C : Type 0} → List ℕ → (List A → Place → Result (A × Place) (C × ℕ)) → (A → List (List (List ℕ))) → (List A → Type 0) → Type 0
Steps {A} {C} word check one Q = (before : List A) (p : Place) → row_begins word (first p.rows) ≡ true → Q before
    → Gives (λ (e : C × ℕ). StopsNext one Q before p e) (λ (x : A × Place). Took one (λ y. Q (before ++ y ∷ [])) p x) (check before p)

module _ {A : Type 0} (one : A → List (List (List ℕ))) (Q : List A → Type 0) where
  record More (before : List A) (p : Place) (x : List A × Place) : Type 0 where
    more : List A
    all : x.0 ≡ before ++ more
    valid : Q x.0
    lines : Between (flat_map one more) p x.1

module _ {A C : Type 0} (one : A → List (List (List ℕ))) (Q : List A → Type 0) where
  abbrev Many : List A → Place → Result (List A × Place) (C × ℕ) → Type 0
  Many before p r = Gives (λ (e : C × ℕ). Stops (flat_map one) (λ more. Q (before ++ more)) p e.1) (λ (x : List A × Place). More one Q before p x) r

  none_more : (before : List A) (p : Place) → Q before → Many before p (Ok (before, p))
  none_more before p q = gives_done (before, p) (record { more = []; all = sym (append-nil before); valid = q; lines = here p })

  turn : (before : List A) (p : Place) (b : Bool) (r : Result (A × Place) (C × ℕ)) (again : A × Place → Result (List A × Place) (C × ℕ)) → Q before
      → (b ≡ true → Gives (λ (e : C × ℕ). StopsNext one Q before p e) (λ (x : A × Place). Took one (λ y. Q (before ++ y ∷ [])) p x) r)
      → ((x : A × Place) → Q (before ++ x.0 ∷ []) → Many (before ++ x.0 ∷ []) x.1 (again x)) → Many before p (if b then (r >>= again) else Ok (before, p))
  turn before p false r again q step later = none_more before p q
  turn before p true r again q step later =
      gives_then r again (step refl) (λ e s. stopped e s)
      (λ y read took. gives_like
      (λ e s. record { value = y.0 ∷ s.value; valid = subst Q (append_assoc before (y.0 ∷ []) s.value) s.valid; cut = cut_on (one y.0) (flat_map one s.value) p y.1 e.1 took.lines s.cut })
      (λ x m. record { more = y.0 ∷ m.more; all = m.all ∙ append_assoc before (y.0 ∷ []) m.more; valid = m.valid; lines = then_on (one y.0) (flat_map one m.more) p y.1 x.1 took.lines m.lines })
      (later y took.valid))
    where
      stopped : (e : C × ℕ) → StopsNext one Q before p e → Stops (flat_map one) (λ more. Q (before ++ more)) p e.1
      stopped e (inl line) = record { value = []; valid = subst Q (sym (append-nil before)) q; cut = cut_here [] p e.1 line }
      stopped e (inr s) = record { value = s.value ∷ []; valid = s.valid; cut = cut_more (one s.value) [] p e.1 s.cut }

  module _ (word : List ℕ) (check : List A → Place → Result (A × Place) (C × ℕ)) (steps : Steps word check one Q) where
    parts_more : (fuel : ℕ) (before : List A) (p : Place) → Q before → Many before p (parts_from word check fuel before p)
    parts_more zero before p q = none_more before p q
    parts_more (suc fuel) before p q =
        turn before p (row_begins word (first p.rows)) (check before p) (λ x. parts_from word check fuel (before ++ x.0 ∷ []) x.1) q (λ begun. steps before p begun q) (λ x valid. parts_more fuel (before ++ x.0 ∷ []) x.1 valid)

    -- those behind none are all of them
    pub parts_give : Q [] → (p : Place) → GivesPart (flat_map one) Q p (parts_at word check p)
    parts_give none p = gives_like (λ e s. record { value = s.value; valid = s.valid; cut = s.cut })
        (λ x m. record { valid = m.valid; lines = subst (λ (xs : List A). Between (flat_map one xs) p x.1) (sym m.all) m.lines }) (parts_more (length p.rows) [] p none)

-- a check that takes the line of its value, and keeps what holds of the values before it
abbrev pub Takes : {A C : Type 0} → List ℕ → (List A → Option Row → Result A C) → (A → List (List ℕ)) → (List A → Type 0) → Type 0
Takes {A} word check spell Q = (before : List A) (line : Option Row) (x : A) → row_begins word line ≡ true → Q before → check before line ≡ Ok x → (line ≡ Some (row_of (spell x))) × Q (before ++ x ∷ [])

module _ {A C : Type 0} (word : List ℕ) (check : List A → Option Row → Result A C) (spell : A → List (List ℕ)) (Q : List A → Type 0) (takes : Takes word check spell Q) where
  abbrev alone : A → List (List (List ℕ))
  alone x = spell x ∷ []

  each_line : (xs : List A) → flat_map alone xs ≡ map spell xs
  each_line [] = refl
  each_line (x ∷ xs) = ap (λ ls. spell x ∷ ls) (each_line xs)

  line_steps : Steps word (line_by check) alone Q
  line_steps before p begun q = gives_like (λ e line. inl line) (λ x t. record { valid = t.0; lines = t.1 }) (line_gives (check before) spell p (λ x e. takes before (first p.rows) x begun q e))

  pub lines_give : Q [] → (p : Place) → GivesPart (map spell) Q p (lines_at word check p)
  lines_give none p = subst (λ (r : Result (List A × Place) (C × ℕ)). GivesPart (map spell) Q p r) (sym (lines_are_parts word check p)) (gives_like
      (λ e s. record { value = s.value; valid = s.valid; cut = subst (λ (ls : List (List (List ℕ))). Cut ls p e.1) (each_line s.value) s.cut })
      (λ x t. record { valid = t.valid; lines = subst (λ (ls : List (List (List ℕ))). Between ls p x.1) (each_line x.0) t.lines })
      (parts_give alone Q word (line_by check) line_steps none p))
