-- The files of a shelf, and how they are named. This project's own.
use Rattle.std.specs.Prelude.{ℕ, List, [], ◌++◌, Option, codes, decimal}
use Rattle.outer_ports.specs.declared.{part.Part.{Part, TheVariants.{Whole, Reduce, Gather, Joined}}, proof_name.{FileKind.{FileKind, TheVariants.{Cnf, Lrat, Partial}}, ProofName.ProofName}}

-- the bytes of the file of each name, where there is one
abbrev pub Files : Type 0
Files = ProofName → Option (List ℕ)

-- what stands before a candidate of the part
abbrev pub part_prefix : Part → List ℕ
part_prefix Whole = []
part_prefix Reduce = codes "reduce-"
part_prefix Gather = codes "gather-"
part_prefix Joined = codes "joined-"

-- the steps, the rounds and the chunk count of a candidate, with the part that it belongs to
abbrev pub candidate_word : Part → ℕ → ℕ → ℕ → List ℕ
candidate_word part s r c = part_prefix part ++ decimal s ++ codes "-" ++ decimal r ++ codes "-" ++ decimal c

abbrev pub file_ending : FileKind → List ℕ
file_ending Cnf = codes ".cnf"
file_ending Lrat = codes ".lrat"
file_ending Partial = codes ".partial"

-- the name as a file of a folder has it
abbrev pub file_word : ProofName → List ℕ
file_word name = candidate_word name.part name.s name.r name.c ++ file_ending name.kind

-- parts and kinds by number, so that a test can tell two names apart
abbrev pub part_number : Part → ℕ
part_number Whole = 0
part_number Reduce = 1
part_number Gather = 2
part_number Joined = 3

abbrev pub kind_number : FileKind → ℕ
kind_number Cnf = 0
kind_number Lrat = 1
kind_number Partial = 2
