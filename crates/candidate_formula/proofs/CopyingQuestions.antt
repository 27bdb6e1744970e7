-- The question that copies in place of one that is asked.
use Rattle.std.proofs.Common.{arith, ◌≡◌, ◌≢◌, ℕ, ◌+◌, ◌*◌, ◌≤◌, Bool, true, sym, ap, ◌∙◌, ◌↔◌, if◌then◌else◌, length, sum_by}
use Rattle.schedule.specs.{Links.{TopologyValue, IsTopology, usable_links, reversed_of}, Sends.ScheduleValue}
use Rattle.collective_spec.specs.declared.kind.Kind.TheVariants as kind
use Rattle.collective_spec.specs.{declared.{instance.Instance.Instance, spec.Spec.Spec}, Kinds.allows, Collectives.{IsSpec, adds_up, kind_in}}
use Rattle.candidate_order.specs.{declared.candidate.Candidate.Candidate, Ranges.{LimitsValue, IsLimits}, Frontiers.{QuestionValue, IsWithin, instance_for}, Copied.copied_question}
use Rattle.round_encoding.specs.Candidates.{group_size, size_limit}
use Rattle.candidate_formula.{specs.{Formulas.{formula_for, Suits}, Sizes.size_of, Questions.{IsSmallQuestion, copying_question}}, proofs.{Copying.{copies, copied_keeps, same_chunks, same_instance}, Exact.{asked_formula, copied_formula}}}

module _ (t : TopologyValue) (s : Spec) (limits : LimitsValue) where
  -- the question over these links as it is asked
  abbrev plainly : QuestionValue
  plainly = record { topology = t; spec = s; limits = limits }

  abbrev size_at : ℕ → ℕ
  size_at chunks = chunks * length (usable_links t) * limits.max_s + sum_by (group_size chunks limits.max_s limits.k) t.groups

  pub same_size : size_of (copying_question t s limits) ≡ size_of plainly
  same_size = ap size_at (same_chunks s t.nodes limits.max_c)

  pub small_by_copying : IsTopology t → IsSpec t.nodes s → kind_in s ≢ kind.Allreduce → IsLimits limits → size_of plainly ≤ size_limit → IsSmallQuestion (copying_question t s limits)
  small_by_copying topology is single ranges size = grind (arith, copied_keeps, copies, same_size)

-- what the same chunk counts are allowed for has the same candidates
pub within_by : (t : TopologyValue) (limits : LimitsValue) (x : Candidate) (a b : Spec) → allows (kind_in a) t.nodes x.c ≡ allows (kind_in b) t.nodes x.c → IsWithin (record { topology = t; spec = a; limits = limits }) x → IsWithin (record { topology = t; spec = b; limits = limits }) x
within_by t limits x a b same w = grind arith

-- the same formula stands for a reduction and for what copies over the links turned round
pub reduced_formula : (q : QuestionValue) (x : Candidate) → adds_up q.spec ≡ true → kind_in q.spec ≢ kind.Allreduce → formula_for (copied_question q) x ≡ formula_for q x
reduced_formula q x adds single =
    let ordered : Bool = q.limits.pruning.ordered in
    copied_formula (copied_question q) x (copies q.spec single)
    ∙ ap (λ (i : Instance). asked_formula ordered (reversed_of q.topology) i.pre i.post x.s x.r) (same_instance q.spec q.topology.nodes x.c)
    ∙ sym (ap (λ b. asked_formula ordered (if b then reversed_of q.topology else q.topology) (instance_for q x).pre (instance_for q x).post x.s x.r) adds)

-- and the same is asked of schedules
pub copied_suits : (q : QuestionValue) (x : Candidate) (s : ScheduleValue) → Suits (copied_question q) x s ↔ Suits q x s
copied_suits q x s = grind (arith, same_instance q.spec q.topology.nodes x.c)
