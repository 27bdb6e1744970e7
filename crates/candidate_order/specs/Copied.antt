-- A reduction as a question of copying over the links turned round (Cai et al., PPoPP 2021, inversion).
use Rattle.schedule.specs.Links.{reversed_of}
use Rattle.collective_spec.specs.declared.{kind.Kind.{Kind, TheVariants.{Broadcast, Allgather, Reduce, Reducescatter}}, spec.Spec.Spec}
use Rattle.collective_spec.specs.declared.spec.Spec.TheVariants as spec
use Rattle.candidate_order.specs.Frontiers.{QuestionValue}

-- the collective that copies, of which a reduction is the inverse
abbrev pub copied_kind : Kind → Kind
copied_kind Reduce = Broadcast
copied_kind Reducescatter = Allgather
copied_kind kind = kind

-- with the same root; the others are as they are
abbrev pub copied_spec : Spec → Spec
copied_spec (spec.Standard collective) = spec.Standard (record { kind = copied_kind collective.kind; root = collective.root })
copied_spec (spec.Custom p) = spec.Custom p

-- the same limits, over the links turned round
abbrev pub copied_question : QuestionValue → QuestionValue
copied_question q = record { topology = reversed_of q.topology; spec = copied_spec q.spec; limits = q.limits }
