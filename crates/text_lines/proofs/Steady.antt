-- Readers that fail alike where their lines are the same, and how they are put together.
use Rattle.std.proofs.{Common.{◌≡◌, ℕ, zero, suc, ◌+◌, ◌-◌, ◌≤◌, Bool, true, false, List, [], ◌∷◌, ◌++◌, length, drop, take, Option, Some, Result, Ok, Err, refl, sym, ap, ◌∙◌, subst, arith, if◌then◌else◌}, lemmas.List.drop-take}
use Rattle.text_lines.specs.{Text.{Row, Place, behind}, Check.{◌>>=◌, first, line_part}, Repeated.{row_begins, lines_at, parts_at}}
use Rattle.text_lines.proofs.{Checks.{bind_ok, part_ok, part_err_at}, Gives.{Gives, gives_done, gives_like, gives_then}, Repeated.{line_by, lines_are_parts, Shortens, line_shortens, parts_on, parts_behind, parts_turn}}

-- ---- lines that are the same

-- two places at the same line, whose lines are the same up to line n
pub record Same (n : ℕ) (p q : Place) : Type 0 where
  pub many : ℕ
  pub number : p.number ≡ q.number
  pub up_to : p.number + many ≡ suc n
  pub rows : take many p.rows ≡ take many q.rows

same_first : {A : Type 0} (many : ℕ) (xs ys : List A) → 1 ≤ many → take many xs ≡ take many ys → first xs ≡ first ys
same_first zero xs ys some e = absurd (omega (arith, some))
same_first (suc m) [] [] some e = refl
same_first (suc m) [] (y ∷ ys) some e = absurd (cc)
same_first (suc m) (x ∷ xs) [] some e = absurd (cc)
same_first (suc m) (x ∷ xs) (y ∷ ys) some e = let head : x ≡ y = cc in ap (λ z. Some z) head

first_same : (n : ℕ) (p q : Place) → Same n p q → p.number ≤ n → first p.rows ≡ first q.rows
first_same n p q same low = same_first same.many p.rows q.rows (omega (arith, same.up_to, low)) same.rows

behind_same : (n : ℕ) (p q : Place) → Same n p q → p.number ≤ n → Same n (behind p) (behind q)
behind_same n p q same low =
    let left : ℕ = same.many - 1 in
    let more : 1 + left ≡ same.many = omega (arith, same.up_to, low) in
    let rows : drop 1 (take (1 + left) p.rows) ≡ drop 1 (take (1 + left) q.rows) = ap (λ k. drop 1 (take k p.rows)) more ∙ ap (drop 1) same.rows ∙ ap (λ k. drop 1 (take k q.rows)) (sym more) in
    record { many = left; number = ap (λ k. k + 1) same.number; up_to = omega (arith, more, same.up_to); rows = sym (drop-take 1 left p.rows) ∙ rows ∙ drop-take 1 left q.rows }

-- ---- what two readers do

-- it fails at line n, whatever the code
pub record FailsAt {A C : Type 0} (s : Result A (C × ℕ)) (n : ℕ) : Type 0 where
  pub why : C
  pub is : s ≡ Err (why, n)

-- the same value is read, and what is left is the same up to line n
pub record ReadsTo {A C : Type 0} (n : ℕ) (s : Result (A × Place) (C × ℕ)) (x : A × Place) : Type 0 where
  pub rest : Place
  pub is : s ≡ Ok (x.0, rest)
  pub same : Same n x.1 rest

-- a fault blames no line before the place, and the reader fails there at each place that is the same up to that line
pub record FailsLike {A C : Type 0} (s : Place → Result A (C × ℕ)) (p : Place) (e : C × ℕ) : Type 0 where
  pub late : p.number ≤ e.1
  pub alike : (q : Place) → Same e.1 p q → FailsAt (s q) e.1

-- what is left has no more lines and begins no earlier, and the reader reads the same at each place that is still the same behind it
pub record ReadsLike {A C : Type 0} (s : Place → Result (A × Place) (C × ℕ)) (p : Place) (x : A × Place) : Type 0 where
  pub later : p.number ≤ x.1.number
  pub fewer : length x.1.rows ≤ length p.rows
  pub alike : (n : ℕ) (q : Place) → Same n p q → x.1.number ≤ n → ReadsTo n (s q) x

abbrev pub SteadyAt : {A C : Type 0} → Result (A × Place) (C × ℕ) → (Place → Result (A × Place) (C × ℕ)) → Place → Type 0
SteadyAt {A} {C} r s p = Gives (λ (e : C × ℕ). FailsLike s p e) (λ (x : A × Place). ReadsLike s p x) r

-- the same of readers to the end
abbrev pub SettlesAt : {B C : Type 0} → Result B (C × ℕ) → (Place → Result B (C × ℕ)) → Place → Type 0
SettlesAt {B} {C} r s p = Gives (λ (e : C × ℕ). FailsLike s p e) (λ (x : B). Unit {0}) r

pub record Steady {A C : Type 0} (f g : Place → Result (A × Place) (C × ℕ)) : Type 0 where
  pub at : (p : Place) → SteadyAt (f p) g p

pub record Settles {B C : Type 0} (f g : Place → Result B (C × ℕ)) : Type 0 where
  pub at : (p : Place) → SettlesAt (f p) g p

-- ---- one step

-- where the first of them fails, the whole does
pub fails_begun : {A B C : Type 0} {s : Place → Result A (C × ℕ)} {p : Place} {e : C × ℕ} (h : A → Result B (C × ℕ)) → FailsLike s p e → FailsLike (λ q. s q >>= h) p e
fails_begun h f = record { late = f.late; alike = λ q same. let w = f.alike q same in record { why = w.why; is = ap (λ z. z >>= h) w.is } }

pub fails_behind : {A B C : Type 0} {s : Place → Result (A × Place) (C × ℕ)} {p : Place} {x : A × Place} {e : C × ℕ} (h : A × Place → Result B (C × ℕ)) → ReadsLike s p x → FailsLike (λ q. h (x.0, q)) x.1 e → FailsLike (λ q. s q >>= h) p e
fails_behind {A} {B} {C} {s} {p} {x} {e} h one two =
    let later = one.later in
    let late = two.late in
    record {
      late = omega (arith, later, late);
      alike = λ q same. let to = one.alike e.1 q same late in let w = two.alike to.rest to.same in record { why = w.why; is = ap (λ z. z >>= h) to.is ∙ w.is };
    }

reads_behind : {A B C : Type 0} {s : Place → Result (A × Place) (C × ℕ)} {p : Place} {x : A × Place} {y : B × Place} (h : A × Place → Result (B × Place) (C × ℕ)) → ReadsLike s p x → ReadsLike (λ q. h (x.0, q)) x.1 y → ReadsLike (λ q. s q >>= h) p y
reads_behind {A} {B} {C} {s} {p} {x} {y} h one two =
    let later = one.later in
    let more = two.later in
    record {
      later = omega (arith, later, more);
      fewer = omega (arith, one.fewer, two.fewer);
      alike = λ n q same low.
          let to = one.alike n q same (omega (arith, more, low)) in
          let last = two.alike n to.rest to.same low in
          record { rest = last.rest; is = ap (λ z. z >>= h) to.is ∙ last.is; same = last.same };
    }

steady_bind : {A B C : Type 0} (r : Result (A × Place) (C × ℕ)) (g : A × Place → Result (B × Place) (C × ℕ)) (s : Place → Result (A × Place) (C × ℕ)) (h : A × Place → Result (B × Place) (C × ℕ)) (p : Place)
    → SteadyAt r s p → ((x : A × Place) → r ≡ Ok x → SteadyAt (g x) (λ q. h (x.0, q)) x.1) → SteadyAt (r >>= g) (λ q. s q >>= h) p
steady_bind r g s h p one later = gives_then r g one (λ e f. fails_begun h f) (λ x read l. gives_like (λ e f. fails_behind h l f) (λ y m. reads_behind h l m) (later x read))

-- the same as another reader
pub steady_as : {A C : Type 0} {r : Result (A × Place) (C × ℕ)} {p : Place} (s t : Place → Result (A × Place) (C × ℕ)) → ((q : Place) → s q ≡ t q) → SteadyAt r s p → SteadyAt r t p
steady_as s t is one = grind (arith, gives_like)

-- by a test of the next line
steady_choose : {A C : Type 0} (test : Option Row → Bool) (a : A) (r : Result (A × Place) (C × ℕ)) (s : Place → Result (A × Place) (C × ℕ)) (p : Place) → (test (first p.rows) ≡ true → SteadyAt r s p)
    → SteadyAt (if test (first p.rows) then r else Ok (a, p)) (λ q. if test (first q.rows) then s q else Ok (a, q)) p
steady_choose {A} {C} test a r s p goes = by_test (test (first p.rows)) refl
  where
    both : Place → Bool → Result (A × Place) (C × ℕ)
    both q b = if b then s q else Ok (a, q)

    tested : (b : Bool) → test (first p.rows) ≡ b → (n : ℕ) (q : Place) → Same n p q → p.number ≤ n → both q (test (first q.rows)) ≡ both q b
    tested b e n q same low = ap (both q) (sym (ap test (first_same n p q same low)) ∙ e)

    by_test : (b : Bool) → test (first p.rows) ≡ b → SteadyAt (if b then r else Ok (a, p)) (λ q. both q (test (first q.rows))) p
    by_test true e = gives_like
        (λ c f. record { late = f.late; alike = λ q same. let w = f.alike q same in record { why = w.why; is = tested true e c.1 q same f.late ∙ w.is } })
        (λ x l. record { later = l.later; fewer = l.fewer; alike = λ n q same low. let to = l.alike n q same low in let later = l.later in record { rest = to.rest; is = tested true e n q same (omega (arith, later, low)) ∙ to.is; same = to.same } }) (goes e)
    by_test false e = gives_done (a, p) (record { later = omega arith; fewer = omega arith; alike = λ n q same low. record { rest = q; is = tested false e n q same low; same = same } })

-- ---- readers

fewer_rows : {A : Type 0} (xs : List A) → length (drop 1 xs) ≤ length xs
fewer_rows [] = omega arith
fewer_rows (x ∷ xs) = omega arith

-- a line is read where it is the same, whatever follows it
pub line_alike : {A C : Type 0} (check : Option Row → Result A C) (p q : Place) (n : ℕ) (x : A × Place) → Same n p q → p.number ≤ n → line_part check p ≡ Ok x → ReadsTo n (line_part check q) x
line_alike check p q n x same low read = grind (arith, part_ok, first_same, behind_same)

pub steady_line : {A C : Type 0} (check : Option Row → Result A C) → Steady (line_part check) (line_part check)
steady_line check = grind (arith, part_ok, fewer_rows, line_alike, part_err_at, first_same)

pub steady_found : {A C : Type 0} (x : A) → Steady {C = C} (λ p. Ok (x, p)) (λ p. Ok (x, p))
steady_found x = record { at = λ p. gives_done (x, p) (record { later = omega arith; fewer = omega arith; alike = λ n q same low. record { rest = q; is = refl; same = same } }) }

-- one after the other
pub steady_then : {A B C : Type 0} (f g : Place → Result (A × Place) (C × ℕ)) (h k : A × Place → Result (B × Place) (C × ℕ)) → Steady f g → ((x : A) → Steady (λ p. h (x, p)) (λ p. k (x, p))) → Steady (λ p. f p >>= h) (λ p. g p >>= k)
steady_then f g h k first later = record { at = λ p. steady_bind (f p) h g k p (first.at p) (λ x read. let l = later x.0 in l.at x.1) }

pub settles_then : {A B C : Type 0} (f g : Place → Result (A × Place) (C × ℕ)) (h k : A × Place → Result B (C × ℕ)) → Steady f g → ((x : A) → Settles (λ p. h (x, p)) (λ p. k (x, p))) → Settles (λ p. f p >>= h) (λ p. g p >>= k)
settles_then f g h k first later = record {
  at = λ p. gives_then (f p) h (first.at p) (λ e w. fails_begun k w) (λ x read l. gives_like (λ e w. fails_behind k l w) (λ y u. u) (let s = later x.0 in s.at x.1));
}

pub settles_ok : {A C : Type 0} (x : A) → Settles {C = C} (λ p. Ok x) (λ p. Ok x)
settles_ok x = record { at = λ p. gives_done x tt }

-- ---- parts and lines that repeat

module _ {A C : Type 0} (word : List ℕ) (check : List A → Place → Result (A × Place) (C × ℕ)) (each : (before : List A) → Steady (check before) (check before)) (shorter : Shortens word check) where
  turned : (before : List A) (p : Place) → ((x : A × Place) → row_begins word (first p.rows) ≡ true → check before p ≡ Ok x → SteadyAt (parts_behind word check before x) (λ q. parts_behind word check before (x.0, q)) x.1) → SteadyAt (parts_on word check before p) (parts_on word check before) p
  turned before p later =
      let next = parts_behind word check before in
      let whole : Place → Result (List A × Place) (C × ℕ) = λ q. if row_begins word (first q.rows) then (check before q >>= next) else Ok (before, q) in
      subst (λ (r : Result (List A × Place) (C × ℕ)). SteadyAt r (parts_on word check before) p) (sym (parts_turn word check shorter before p))
      (steady_as whole (parts_on word check before) (λ q. sym (parts_turn word check shorter before q)) (steady_choose (row_begins word) before (check before p >>= next) (λ q. check before q >>= next) p
      (λ begun. let s = each before in steady_bind (check before p) next (check before) next p (s.at p) (λ x read. later x begun read))))

  parts_steady : (most : ℕ) (before : List A) (p : Place) → length p.rows ≤ most → SteadyAt (parts_on word check before p) (parts_on word check before) p
  parts_steady zero before p few = turned before p (λ x begun read. let less = shorter before p x begun read in absurd (omega (arith, less, few)))
  parts_steady (suc most) before p few = turned before p (λ x begun read. let less = shorter before p x begun read in parts_steady most (before ++ x.0 ∷ []) x.1 (omega (arith, less, few)))

  pub steady_parts : Steady (parts_at word check) (parts_at word check)
  steady_parts = record { at = λ p. parts_steady (length p.rows) [] p (omega arith) }

pub steady_lines : {A C : Type 0} (word : List ℕ) (check : List A → Option Row → Result A C) → Steady (lines_at word check) (lines_at word check)
steady_lines {A} {C} word check =
    let parts = steady_parts word (line_by check) (λ before. steady_line (check before)) (λ before p x begun read. line_shortens word (check before) p x begun read) in
    let is : (p : Place) → parts_at word (line_by check) p ≡ lines_at word check p = λ p. sym (lines_are_parts word check p) in
    record { at = λ p. subst (λ (r : Result (List A × Place) (C × ℕ)). SteadyAt r (lines_at word check) p) (is p) (steady_as (parts_at word (line_by check)) (lines_at word check) is (parts.at p)) }

-- parts that begin with a line
module _ {A B C : Type 0} (word : List ℕ) (check : List A → Option Row → Result B C) (g : B × Place → Result (A × Place) (C × ℕ)) (steady : (x : B) → Steady (λ p. g (x, p)) (λ p. g (x, p))) where
  pub piece_shortens : Shortens word (λ before p. line_part (check before) p >>= g)
  piece_shortens before p y begun read =
      let (x, headed, rest) = bind_ok (line_part (check before) p) g y read in
      let s = steady x.0 in
      let fewer = ((s.at x.1).ok y rest).fewer in
      let less = line_shortens word (check before) p x begun headed in
      omega (arith, fewer, less)

  pub steady_pieces : Steady (parts_at word (λ before p. line_part (check before) p >>= g)) (parts_at word (λ before p. line_part (check before) p >>= g))
  steady_pieces = steady_parts word (λ before p. line_part (check before) p >>= g) (λ before. steady_then _ _ _ _ (steady_line (check before)) steady) piece_shortens
