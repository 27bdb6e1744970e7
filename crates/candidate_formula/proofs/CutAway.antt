-- What is cut away, over the links that are searched.
use Rattle.std.{proofs.Common.{arith, ◌≡◌, ◌≢◌, Bool, true, false, ap, if◌then◌else◌}, specs.Option.is_some}
use Rattle.schedule.specs.Links.{TopologyValue, reversed_of}
use Rattle.collective_spec.specs.Collectives.{adds_up, kind_in}
use Rattle.collective_spec.specs.declared.kind.Kind.TheVariants as kind
use Rattle.candidate_order.specs.{declared.candidate.Candidate.Candidate, Copied.copied_question, Frontiers.QuestionValue}
use Rattle.node_cuts.specs.{declared.sets.Sets.TheVariants.{Nothing, All}, Cutting.{sets_for, cut_in, is_cut}}
use Rattle.candidate_formula.{specs.Pruned.is_cut_away, proofs.Copying.{copies, same_instance}}

-- whether a candidate is cut over such links
abbrev cut_over : QuestionValue → Candidate → TopologyValue → Bool
cut_over q x t = is_some (cut_in (sets_for q.limits.pruning) t q.spec x)

pub never_cut_away : (q : QuestionValue) (x : Candidate) → q.limits.pruning.cuts ≡ false → is_cut_away q x ≡ false
never_cut_away q x unasked = ap (λ b. is_some (cut_in (if b then All else Nothing) (if adds_up q.spec then reversed_of q.topology else q.topology) q.spec x)) unasked

pub copied_cut : (q : QuestionValue) (x : Candidate) → adds_up q.spec ≡ false → is_cut_away q x ≡ is_cut (sets_for q.limits.pruning) q x
copied_cut q x copied = ap (λ b. cut_over q x (if b then reversed_of q.topology else q.topology)) copied

pub reduced_cut : (q : QuestionValue) (x : Candidate) → adds_up q.spec ≡ true → kind_in q.spec ≢ kind.Allreduce → is_cut_away (copied_question q) x ≡ is_cut_away q x
reduced_cut q x adds single = grind (arith, copied_cut, copies, same_instance)
