-- A token that is a key and a value, read in two steps.
use Rattle.std.proofs.Common.{◌≡◌, ℕ, List, [], ◌∷◌, Option, Some, Result, Ok, Err, arith}
use Rattle.text_lines.specs.Check.{◌>>=◌, need, Tells}
use Rattle.report_form.{specs.{declared.fault.ReportCode.{ReportCode, TheVariants.BadLine}, Fields.next_keyed}, proofs.Tokens.with_rest}

-- the bytes behind the key, as they are
abbrev pub as_is : List ℕ → Option (List ℕ)
as_is value = Some value

abbrev valued : List ℕ → List (List ℕ) → Result (List ℕ × List (List ℕ)) ReportCode
valued v ws = Ok (v, ws)

abbrev refused : {B : Type 0} → ReportCode → Result B ReportCode
refused code = Err code

pub keyed_none : {A : Type 0} (key : List ℕ) (read : List ℕ → Option A) (words : List (List ℕ)) (code : ReportCode) → next_keyed key as_is words ≡ refused code → next_keyed key read words ≡ refused code
keyed_none key read [] code e = grind arith
keyed_none key read (w ∷ ws) code e = grind arith

pub keyed_some : {A : Type 0} (key : List ℕ) (read : List ℕ → Option A) (words rest : List (List ℕ)) (value : List ℕ) (o : Option A) → next_keyed key as_is words ≡ valued value rest → read value ≡ o → next_keyed key read words ≡ (need o BadLine >>= with_rest rest)
keyed_some key read [] rest value o e r = absurd (cc)
keyed_some key read (w ∷ ws) rest value o e r = grind arith

-- what is told of the value is told of the token
pub keyed_tells : {X A : Type 0} (key : List ℕ) (read : List ℕ → Option A) (words rest : List (List ℕ)) (value : List ℕ) (view : X → A) (r : Result X ReportCode) → next_keyed key as_is words ≡ valued value rest → Tells view r (need (read value) BadLine) → Tells (λ x. (view x, rest)) r (next_keyed key read words)
keyed_tells key read words rest value view (Ok x) e t = grind (arith, keyed_some)
keyed_tells key read words rest value view (Err code) e t = grind (arith, keyed_some)
