-- Files of formulas and proofs, and what they have to be beside what a search says (this project's own).
use Rattle.std.specs.Prelude.{◌≡◌, ◌≤◌, ℕ, false, List, [], length, map, All, Some}
use Rattle.outer_ports.specs.{declared.{part.Part.Part, proof_name.{FileKind.{FileKind, TheVariants.{Cnf, Lrat, Partial}}, ProofName.ProofName}}, Files.Files}
use Rattle.candidate_order.specs.{declared.candidate.Candidate.Candidate, Frontiers.{QuestionValue, FrontierValue, UnknownValue, solved}}
use Rattle.cnf_formula.specs.{Lines.ProofLineValue, declared.line.LratLine.{LratLine, TheVariants.Addition}}
use Rattle.proof_rules.specs.Refuting.{Refutes, SpentLog}
use Rattle.lrat_text.specs.Printing.{cnf_text}
use Rattle.candidate_formula.specs.{Formulas.formula_for, Pruned.is_cut_away, ProofTexts.IsProofText}

-- the name of a candidate's file
abbrev pub file_of : FileKind → Part → Candidate → ProofName
file_of kind part x = record { kind = kind; part = part; s = x.s; r = x.r; c = x.c }

-- the candidate that a file is named after
abbrev pub candidate_of : ProofName → Candidate
candidate_of name = record { s = name.s; r = name.r; c = name.c }

-- the bytes that a file of proof lines has at most
abbrev pub longest_proof : ℕ
longest_proof = 281474976710656

-- a file of that name stands there, is not too long, and is the text of these proof lines
pub record HoldsLines (files : Files) (name : ProofName) (lines : List LratLine) : Type 0 where
  pub bytes : List ℕ
  pub found : files name ≡ Some bytes
  pub short : length bytes ≤ longest_proof
  pub reads : IsProofText bytes lines

-- beside a refuted candidate stand its formula and a proof of that formula
pub record HasRefutation (part : Part) (q : QuestionValue) (files : Files) (x : Candidate) : Type 0 where
  pub formula : files (file_of Cnf part x) ≡ Some (cnf_text (formula_for q x))
  pub lines : List LratLine
  pub holds : HoldsLines files (file_of Lrat part x) lines
  pub refutes : Refutes lines (formula_for q x)

-- beside an unknown candidate stands a log of all the conflicts that it was given
pub record HasLog (part : Part) (q : QuestionValue) (files : Files) (u : UnknownValue) : Type 0 where
  pub lines : List ProofLineValue
  pub holds : HoldsLines files (file_of Partial part u.candidate) (map Addition lines)
  pub spent : SpentLog lines (formula_for q u.candidate) q.limits.conflicts

-- ---- all three files of a candidate, as a search leaves them

-- of a solved one: its formula, and two empty files
pub record SolvedFiles (part : Part) (q : QuestionValue) (files : Files) (x : Candidate) : Type 0 where
  pub formula : files (file_of Cnf part x) ≡ Some (cnf_text (formula_for q x))
  pub no_proof : files (file_of Lrat part x) ≡ Some []
  pub no_log : files (file_of Partial part x) ≡ Some []

-- of a refuted one: its formula and a proof of that formula, and an empty file
pub record RefutedFiles (part : Part) (q : QuestionValue) (files : Files) (x : Candidate) : Type 0 where
  pub refutation : HasRefutation part q files x
  pub no_log : files (file_of Partial part x) ≡ Some []

-- of an unknown one: its formula and a log of the conflicts that it was given, and an empty file
pub record UnknownFiles (part : Part) (q : QuestionValue) (files : Files) (u : UnknownValue) : Type 0 where
  pub formula : files (file_of Cnf part u.candidate) ≡ Some (cnf_text (formula_for q u.candidate))
  pub no_proof : files (file_of Lrat part u.candidate) ≡ Some []
  pub log : HasLog part q files u

-- of each candidate of a frontier, but not of a refuted one that is cut away
pub record FrontierFiles (part : Part) (q : QuestionValue) (files : Files) (f : FrontierValue) : Type 0 where
  pub solved : All (SolvedFiles part q files) (solved f)
  pub refuted : All (λ x. is_cut_away q x ≡ false → RefutedFiles part q files x) f.refuted
  pub unknown : All (UnknownFiles part q files) f.unknown
