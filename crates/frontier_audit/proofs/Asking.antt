-- What is asked in a part of a report, and the formulas of its candidates.
use Rattle.std.{proofs.Common.{◌≡◌, ℕ, ◌≤◌, Bool, true, false, Option, refl, sym, ap, ◌∙◌, subst, arith, ◌<◌, if◌then◌else◌, Contains}, specs.Option.is_some}
use Rattle.outer_ports.specs.declared.part.Part.{Part}
use Rattle.outer_ports.specs.declared.part.Part.TheVariants as part
use Rattle.schedule.{specs.Links.{TopologyValue, reversed_of}, proofs.Turned.turned_topology}
use Rattle.collective_spec.{specs.{declared.{kind.Kind.Kind, spec.Spec.Spec}, Patterns.PatternValue, Kinds.allows, Collectives.{adds_up, chunks_in, kind_in, spec_instance, spec_of}}, proofs.Sized.fitting_spec}
use Rattle.candidate_order.specs.{declared.candidate.Candidate.Candidate, Ranges.LimitsValue, Frontiers.{QuestionValue, IsWithin}}
use Rattle.round_encoding.specs.Candidates.{size_limit}
use Rattle.report_form.specs.Reports.{ReportValue, IsReport, kind_of, parts_of, question_of}
use Rattle.node_cuts.specs.{declared.sets.Sets.Sets, Cuts.first_cut_of, Tables.{TableValue, IsTableOf}}
use Rattle.candidate_formula.specs.{Formulas.{formula_for, searched_on}, Pruned.is_cut_away, Sizes.size_of, Questions.{IsSought, copying_question}}
use Rattle.candidate_formula.proofs.{CopyingQuestions.{same_size, small_by_copying, within_by, reduced_formula}, Copying.{same_allowed, copied_stays}, TurnedSize.copied_size}
use Rattle.frontier_audit.{specs.inner.Auditable.{IsAuditable, IsPrepared}, proofs.{Right.{apart, apart_in}, Unsolvable.parts_fit}}

-- ---- the links of the formulas

module _ (q : QuestionValue) where
  abbrev links : Bool → TopologyValue
  links b = if b then reversed_of q.topology else q.topology

module _ (q : QuestionValue) (asked : IsAuditable q) where
  formula_over : (b : Bool) (x : Candidate) → adds_up q.spec ≡ b → formula_for (copying_question (links q b) q.spec q.limits) x ≡ formula_for q x
  formula_over true x e = reduced_formula q x e asked.single
  formula_over false x e = ap (λ s. formula_for (record { topology = q.topology; spec = s; limits = q.limits }) x) (copied_stays q.spec e)

  sought_on : (x : Candidate) → IsWithin q x → IsSought (searched_on q) q.spec x
  sought_on x w = grind (arith, small_by_copying, turned_topology, copied_size, same_size, within_by, same_allowed)

  formula_on : (x : Candidate) → formula_for (copying_question (searched_on q) q.spec q.limits) x ≡ formula_for q x
  formula_on x = formula_over (adds_up q.spec) x refl

-- the parts of what is asked are these
module _ (t searched : TopologyValue) (s : Spec) (l : LimitsValue) (cuts : TableValue) (q : QuestionValue) (is : record { topology = t; spec = s; limits = l } ≡ q)
    (keeps : IsPrepared (record { topology = t; spec = s; limits = l }) searched cuts) where
  abbrev asked : QuestionValue
  asked = record { topology = t; spec = s; limits = l }

  within_asked : (x : Candidate) → IsWithin q x → IsWithin asked x
  within_asked x w = subst (λ p. IsWithin p x) (sym is) w

  pub is_sought : (x : Candidate) → IsWithin q x → IsSought searched s x
  is_sought x w = subst (λ links. IsSought links s x) (sym keeps.links) (sought_on asked keeps.question x (within_asked x w))

  pub formula_is : (x : Candidate) → formula_for (copying_question searched s l) x ≡ formula_for q x
  formula_is x = ap (λ links. formula_for (copying_question links s l) x) keeps.links ∙ (formula_on asked keeps.question x ∙ ap (λ p. formula_for p x) is)

  -- what the table of the cuts says
  abbrev Says : Candidate → Bool → Type 0
  Says x b = (sets : Sets) (over : TopologyValue) (spec : Spec) → IsTableOf sets over spec cuts → 0 < over.nodes → allows (kind_in spec) over.nodes x.c ≡ true
      → b ≡ is_some (first_cut_of sets over (spec_instance spec over.nodes x.c).pre (spec_instance spec over.nodes x.c).post x.r)

  pub cut_is : (x : Candidate) (b : Bool) → IsWithin q x → Says x b → b ≡ is_cut_away q x
  cut_is x b w says = grind (arith, within_asked)

-- ---- the parts of a report

module _ (c : Option PatternValue) (root nodes count : ℕ) where
  abbrev chunks_at : Kind → Part → ℕ
  chunks_at k p = chunks_in (spec_of (record { kind = kind_of k p; root = root }) c) nodes count

  abbrev Whole : Kind → Part → Type 0
  Whole k p = chunks_at k p ≡ chunks_at k part.Whole

module _ (r : ReportValue) (ok : IsReport r) (p : Part) (has : Contains (parts_of r.words.collective.kind) p) where
  abbrev asks : Part → QuestionValue
  asks x = question_of r.words r.topology x

  pub part_asked : size_of (asks part.Whole) ≤ size_limit → IsAuditable (asks p)
  part_asked small = grind (arith, parts_fit, fitting_spec, apart_in, apart)

-- what the calls gave is what is asked
pub made_of : (t : TopologyValue) (s : Spec) (l : LimitsValue) (q : QuestionValue) → t ≡ q.topology → s ≡ q.spec → l ≡ q.limits → record { topology = t; spec = s; limits = l } ≡ q
made_of t s l q a b c = λ i. record { topology = a i; spec = b i; limits = c i }
