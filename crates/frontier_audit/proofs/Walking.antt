-- Checks of a list, item by item.
use Rattle.std.proofs.Common.{arith, ◌≡◌, ℕ, ◌+◌, ◌<◌, Bool, true, false, List, length, drop, get_or, Option, None, Some, sym, not}
use Rattle.text_lines.specs.Check.{◌>>=◌, refuse}
use Rattle.report_form.proofs.PointNumbers.{from_here}
use Rattle.frontier_audit.specs.{Denials.{Checked, each}, Beside.denial_of}

-- the first check decides where it denies, and the rest where it does not
pub first_decides : {E : Type 0} (first rest : Checked E) (d : E) → denial_of first ≡ Some d → denial_of (first >>= (λ _. rest)) ≡ Some d
first_decides {E} first rest d e = grind arith

pub rest_decides : {E : Type 0} (first rest : Checked E) → denial_of first ≡ None → (first >>= (λ _. rest)) ≡ rest
rest_decides {E} first rest e = grind arith

-- a check that refuses where a test fails
pub failing_denies : {C : Type 0} (b : Bool) (code : C) → b ≡ false → Some code ≡ denial_of (refuse (not b) code)
failing_denies {C} b code e = grind arith

pub passing_denies_none : {C : Type 0} (b : Bool) (code : C) → b ≡ true → denial_of (refuse (not b) code) ≡ None
passing_denies_none {C} b code e = grind arith

-- the items are refused where a test fails
module _ {X C : Type 0} (test : X → Bool) (code : X → C) (xs : List X) (i : ℕ) (x : X) (low : i < length xs) (is : x ≡ get_or xs i x) where
  abbrev refused_from : ℕ → Option C
  refused_from k = denial_of (each (λ y. refuse (not (test y)) (code y)) (drop k xs))

  said_here : (b : Bool) → test x ≡ b → refused_from i ≡ denial_of (refuse (not b) (code x) >>= (λ _. each (λ y. refuse (not (test y)) (code y)) (drop (i + 1) xs)))
  said_here b e = grind (arith, from_here)

  pub denied_here : test x ≡ false → refused_from i ≡ Some (code x)
  denied_here e = said_here false e

  pub passed_here : test x ≡ true → refused_from (i + 1) ≡ refused_from i
  passed_here e = sym (said_here true e)
