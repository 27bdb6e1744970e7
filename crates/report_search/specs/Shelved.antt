-- What the files of a part are after a search, and where it broke off.
use Rattle.std.specs.Prelude.{◌≡◌, false, All}
use Rattle.outer_ports.specs.{declared.{part.Part.Part, proof_name.ProofName.ProofName}, Files.Files}
use Rattle.candidate_order.specs.Frontiers.{QuestionValue, FrontierValue, IsWithin}
use Rattle.candidate_formula.specs.{Formulas.formula_for, Files.{candidate_of, FrontierFiles}, Begun.BegunOnly, Pruned.{HasOwnFiles, is_cut_away}}

-- each candidate of the frontier of which files are owed has them, and every file that belongs to no such candidate is as before
pub record IsShelved (part : Part) (q : QuestionValue) (f : FrontierValue) (before after : Files) : Type 0 where
  pub files : FrontierFiles part q after f
  pub others : (name : ProofName) → ((name.part ≡ part) × HasOwnFiles q f (candidate_of name) → ⊥) → after name ≡ before name

-- each file is as before, or belongs to the part and to a candidate within the limits that is not cut away, and was begun
abbrev pub MayHaveBegun : Part → QuestionValue → Files → Files → Type 0
MayHaveBegun part q = BegunOnly (λ name. (name.part ≡ part) × (IsWithin q (candidate_of name) × (is_cut_away q (candidate_of name) ≡ false))) (λ name. formula_for q (candidate_of name))

-- no candidate that was given up is cut away
abbrev pub IsUncut : QuestionValue → FrontierValue → Type 0
IsUncut q f = All (λ u. is_cut_away q u.candidate ≡ false) f.unknown
