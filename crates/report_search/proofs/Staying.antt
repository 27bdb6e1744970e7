-- The files of a part stay what they are where other files alone change.
use Rattle.std.proofs.{Common.{◌≡◌, false, refl}, lemmas.List.Elements.All-weaker}
use Rattle.outer_ports.specs.{declared.{part.Part.Part, proof_name.{FileKind.FileKind, ProofName.ProofName}}, Files.Files}
use Rattle.candidate_order.specs.{declared.candidate.Candidate.Candidate, Frontiers.{QuestionValue, FrontierValue, solved}}
use Rattle.candidate_formula.{specs.{Files.{SolvedFiles, RefutedFiles, UnknownFiles, FrontierFiles, file_of}, Pruned.is_cut_away}, proofs.FilesAlike.{solved_alike, refuted_alike, unknown_alike}}

module _ (part : Part) (q : QuestionValue) (before after : Files) (stay : (name : ProofName) → name.part ≡ part → after name ≡ before name) where
  each_stays : (x : Candidate) (kind : FileKind) → after (file_of kind part x) ≡ before (file_of kind part x)
  each_stays x kind = stay (file_of kind part x) refl

  pub files_stay : (f : FrontierValue) → FrontierFiles part q before f → FrontierFiles part q after f
  files_stay f has = record {
    solved = All-weaker (SolvedFiles part q before) (SolvedFiles part q after) (λ x own. solved_alike part q q before after x refl (each_stays x) own) (solved f) has.solved;
    refuted = All-weaker (λ x. is_cut_away q x ≡ false → RefutedFiles part q before x) (λ x. is_cut_away q x ≡ false → RefutedFiles part q after x) (λ x own uncut. refuted_alike part q q before after x refl (each_stays x) (own uncut)) f.refuted has.refuted;
    unknown = All-weaker (UnknownFiles part q before) (UnknownFiles part q after) (λ u own. unknown_alike part q q before after u.candidate refl (each_stays u.candidate) u.conflicts refl own) f.unknown has.unknown;
  }
