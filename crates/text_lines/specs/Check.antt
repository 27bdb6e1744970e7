-- Checks in their order: the first that fails gives the code.
use Rattle.std.specs.Prelude.{◌≡◌, ℕ, Bool, if◌then◌else◌, List, slice_get, Option, Some, None, Result, Ok, Err}
use Rattle.text_lines.specs.{declared.stop.Stop.{Stop, TheVariants.{Memory, Refused}}, Text.{Row, Place, behind}}

infixl 10 ◌>>=◌
abbrev pub ◌>>=◌ : {A B C : Type 0} → Result A C → (A → Result B C) → Result B C
(Ok x) >>= f = f x
(Err e) >>= f = Err e

-- a check that fails where the test holds
abbrev pub refuse : {C : Type 0} → Bool → C → Result (Unit {0}) C
refuse b code = if b then Err code else Ok tt

-- a check that fails where there is no value
abbrev pub need : {A C : Type 0} → Option A → C → Result A C
need None code = Err code
need (Some x) code = Ok x

-- the code with the number of its line
abbrev pub at_line : {A C : Type 0} → ℕ → Result A C → Result A (C × ℕ)
at_line n (Ok x) = Ok x
at_line n (Err code) = Err (code, n)

-- the first line, if there is one
abbrev pub first : {A : Type 0} → List A → Option A
first rows = slice_get rows 0

-- what a reader returned, seen by view, is what the checks give, unless memory ran out
abbrev pub Fails : {Y C : Type 0} → Stop C → Result Y C → Type 0
Fails Memory read = Unit {0}
Fails (Refused code) read = read ≡ Err code

abbrev pub Gives : {X Y C : Type 0} → (X → Y) → Result X (Stop C) → Result Y C → Type 0
Gives view (Ok x) read = read ≡ Ok (view x)
Gives view (Err e) read = Fails e read

-- the same of a reader that takes no memory
abbrev pub Tells : {X Y C : Type 0} → (X → Y) → Result X C → Result Y C → Type 0
Tells view (Ok x) read = read ≡ Ok (view x)
Tells view (Err code) read = read ≡ Err code

-- the first line, checked, and the place behind it
abbrev pub line_part : {A C : Type 0} → (Option Row → Result A C) → Place → Result (A × Place) (C × ℕ)
line_part check p = do
  x ← at_line p.number (check (first p.rows))
  Ok (x, behind p)
