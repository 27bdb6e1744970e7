-- Files that stand beside a refuted candidate.
use Rattle.std.proofs.{Common.{arith, ◌≡◌, ℕ, Bool, true, List, length, Option, None, Some, refl, ap, ◌∙◌, ◌↔◌, nat_le, bytes_eq, if◌then◌else◌}, lemmas.{Bool.{and_parts, leb-true, le-leb, and_from}, Slice.Eq.bytes_eq-Decides}}
use Rattle.outer_ports.specs.{declared.{part.Part.Part, proof_name.FileKind.TheVariants.{Cnf, Lrat}}, Files.Files}
use Rattle.lrat_text.specs.Printing.{cnf_text}
use Rattle.candidate_order.specs.{declared.candidate.Candidate.Candidate, Frontiers.QuestionValue}
use Rattle.candidate_formula.{specs.{Files.{file_of, longest_proof, HasRefutation}, Formulas.formula_for, ReadLines.lines_said}, proofs.Spelled.{text_spells, text_read}}
use Rattle.proof_audit.{specs.{declared.verdict.FileVerdict.TheVariants.{Refused, Stands}, Files.file_verdict, Proving.is_refutation, Tested.do_refute}, proofs.Proved.{refutes_by, by_refuting}}

-- a file whose bytes pass a test
record Passes (test : List ℕ → Bool) (file : Option (List ℕ)) : Type 0 where
  bytes : List ℕ
  found : file ≡ Some bytes
  pass : test bytes ≡ true

passes : (test : List ℕ → Bool) (file : Option (List ℕ)) → file_verdict test file ≡ Stands → Passes test file
passes test None e = absurd (cc)
passes test (Some bytes) e = grind arith

stands : (test : List ℕ → Bool) (file : Option (List ℕ)) (bytes : List ℕ) → file ≡ Some bytes → test bytes ≡ true → file_verdict test file ≡ Stands
stands test file bytes found pass = ap (file_verdict test) found ∙ ap (λ b. if b then Stands else Refused) pass

pub standing_refute : (part : Part) (q : QuestionValue) (files : Files) (x : Candidate)
    → ((file_verdict (λ bytes. bytes_eq bytes (cnf_text (formula_for q x))) (files (file_of Cnf part x)) ≡ Stands)
    × (file_verdict (is_refutation (formula_for q x)) (files (file_of Lrat part x)) ≡ Stands)) ↔ HasRefutation part q files x
standing_refute part q files x =
    let f = formula_for q x in
    let is_text : List ℕ → Bool = λ bytes. bytes_eq bytes (cnf_text f) in (
      λ both.
          let text = passes is_text (files (file_of Cnf part x)) both.0 in
          let proof = passes (is_refutation f) (files (file_of Lrat part x)) both.1 in
          let parts = and_parts (nat_le (length proof.bytes) longest_proof) (do_refute f (lines_said proof.bytes)) proof.pass in
          let (lines, reads, refutes) = refutes_by f (lines_said proof.bytes) parts.1 in
          record {
            formula = text.found ∙ ap (λ b. Some b) ((bytes_eq-Decides text.bytes (cnf_text f)).0 text.pass);
            lines = lines;
            holds = record { bytes = proof.bytes; found = proof.found; short = leb-true (length proof.bytes) longest_proof parts.0; reads = text_spells reads };
            refutes = refutes;
          },
      λ h. (
        stands is_text (files (file_of Cnf part x)) (cnf_text f) h.formula ((bytes_eq-Decides (cnf_text f) (cnf_text f)).1 refl),
        stands (is_refutation f) (files (file_of Lrat part x)) h.holds.bytes h.holds.found
            (and_from (nat_le (length h.holds.bytes) longest_proof) (do_refute f (lines_said h.holds.bytes))
            (le-leb (length h.holds.bytes) longest_proof h.holds.short)
            (by_refuting f (lines_said h.holds.bytes) h.lines (text_read h.holds.reads) h.refutes)),
      ),
    )
