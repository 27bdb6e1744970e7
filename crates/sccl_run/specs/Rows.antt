-- Small runs.
use Rattle.std.specs.Prelude.{ℕ, true, List, [], ◌∷◌, None, Some, codes}
use Rattle.outer_ports.specs.{declared.{part.Part.TheVariants.Whole, proof_name.{FileKind.FileKind, ProofName.ProofName}}, Files.Files}
use Rattle.report_form.specs.{Reports.question_of, Rows.{broadcast_report, relay_report}, Spelling.report_text}
use Rattle.candidate_formula.specs.Files.{HasRefutation, file_of}
use Rattle.run_rules.specs.{declared.status.Status.{Status, TheVariants.{Done, BadReport}}, Rows.{two_nodes_text, search}}
use Rattle.sccl_run.specs.TopCall.{RunValue, ToldValue}

-- a shelf without files
abbrev pub no_files : Files
no_files name = None

-- every port tells
abbrev pub all_tell : ToldValue
all_tell = record { source = true; sink = true; shelf = true }

-- the family of two nodes in a row is asked for and written, and four bytes of the source stay there
abbrev pub family_run : RunValue
family_run = record {
  words = codes "family" ∷ codes "kind=line" ∷ codes "size=2" ∷ [];
  status = Done;
  bytes = codes "left";
  left = codes "left";
  before = [];
  now = two_nodes_text;
  files = no_files;
  files_after = no_files;
}

-- the search of a broadcast on two nodes ends so, and the file of every name is gone
abbrev pub failed_search : Status → RunValue
failed_search status = record {
  words = search (codes "collective=broadcast") [];
  status = status;
  bytes = two_nodes_text;
  left = [];
  before = [];
  now = [];
  files = λ name. Some [];
  files_after = no_files;
}

-- a text that is no report is refused, and this is left of it
abbrev pub refused_check : List ℕ → RunValue
refused_check left = record {
  words = codes "check" ∷ [];
  status = BadReport;
  bytes = codes "x\n";
  left = left;
  before = [];
  now = codes "refused 7 1 1\n";
  files = no_files;
  files_after = no_files;
}

-- the search of a broadcast on two nodes ends well, and leaves these files
abbrev pub done_search : Files → RunValue
done_search files_after = record {
  words = search (codes "collective=broadcast") [];
  status = Done;
  bytes = two_nodes_text;
  left = [];
  before = [];
  now = report_text broadcast_report;
  files = no_files;
  files_after = files_after;
}

-- the search of a broadcast along three nodes, where proofs are kept, ends so beside these files, writes this and leaves these
abbrev pub kept_search : Status → List ℕ → Files → Files → RunValue
kept_search status text files files_after = record {
  words = codes "synth" ∷ codes "collective=broadcast" ∷ codes "k=0" ∷ codes "steps=2" ∷ codes "chunks=1" ∷ codes "conflicts=1000" ∷ codes "kept=yes" ∷ [];
  status = status;
  bytes = codes "topology 1\nnodes n0 n1 n2\ngroup 1 n0>n1\ngroup 1 n1>n0\ngroup 1 n1>n2\ngroup 1 n2>n1\n";
  left = [];
  before = [];
  now = text;
  files = files;
  files_after = files_after;
}

-- the files refute one step of it
abbrev pub RefuteOneStep : Files → Type 0
RefuteOneStep files = HasRefutation Whole (question_of relay_report.words relay_report.topology Whole) files (record { s = 1; r = 1; c = 1 })

-- a file of the candidate of one step
abbrev pub own_file : FileKind → ProofName
own_file kind = file_of kind Whole (record { s = 1; r = 1; c = 1 })
