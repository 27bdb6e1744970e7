-- What a trial goes through.
use Rattle.std.proofs.Common.{◌≡◌, ℕ, ◌≤◌, List, Ok, inl, inr, Err, sym, ap, ◌∙◌, subst}
use Rattle.outer_ports.specs.{declared.part.Part.TheVariants.Whole, Files.Files}
use Rattle.candidate_formula.specs.Sizes.{size_of}
use Rattle.round_encoding.specs.Candidates.{size_limit}
use Rattle.topology_text.specs.Value.{NamedTopologyValue}
use Rattle.report_form.specs.{declared.fault.{ReportCode.TheVariants.OutOfMemory, ReportFault.ReportFault}, Answer.Answers, Reports.{ReportValue, WordsValue, question_of}}
use Rattle.frontier_audit.specs.{Rights.{IsRight, IsSearched}, Shelves.ShelfRight}
use Rattle.run_rules.specs.{Trials.{trial_text, trial_words}, Tries.Tries}
use Rattle.trial_command.{specs.Counts.trial_topology, proofs.{Searchable.trial_small, Verified.verified_by}}

-- where a report is owed, only memory may be lacking
pub only_memory : (fault : ReportFault) (r : ReportValue) → Answers (Err fault) (Ok r) → fault.code ≡ OutOfMemory
only_memory fault r (inl (lacks, _)) = lacks
only_memory fault r (inr e) = absurd (cc)

-- the report that was read is small enough for an audit
pub read_small : (n : ℕ) (r read : ReportValue) → r.words ≡ trial_words n → r.topology ≡ trial_topology n → read ≡ r → size_of (question_of read.words read.topology Whole) ≤ size_limit
read_small n r read words topology same =
    let P : WordsValue → NamedTopologyValue → Type 0 = λ w t. size_of (question_of w t Whole) ≤ size_limit in
    subst (λ (x : ReportValue). P x.words x.topology) (sym same) (subst (P r.words) (sym topology) (subst (λ w. P w (trial_topology n)) (sym words) (trial_small n)))

pub tried : (n : ℕ) (r read : ReportValue) (files : Files) (text : List ℕ) → r.words ≡ trial_words n → r.topology ≡ trial_topology n → IsRight r → IsSearched r → ShelfRight r files → read ≡ r → text ≡ trial_text n read → Tries n text
tried n r read files text words topology right searched shelf same written = record {
  report = r;
  own_files = files;
  words = words;
  topology = topology;
  right = right;
  searched = searched;
  verified = verified_by r files right shelf;
  written = written ∙ ap (trial_text n) same;
}
