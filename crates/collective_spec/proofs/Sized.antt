-- What is asked for, whether it is a collective of the table or a pattern.
use Rattle.std.proofs.{Common.{◌≡◌, ℕ, ◌<◌, Bool, true, Option, None, Some, IfSome, refl}, lemmas.Bool.not-true}
use Rattle.schedule.{specs.Placed.placed, proofs.Placing.placement-placed}
use Rattle.collective_spec.specs.{declared.{kind.Kind.Kind, collective.Collective.Collective, spec.Spec.Spec}, Kinds.is_custom, Patterns.{PatternValue, IsPattern, IsAmong}}
use Rattle.collective_spec.specs.Collectives.{IsSpec, chunks_in, fits_kind, kind_in, spec_demand, spec_instance, spec_of}
use Rattle.collective_spec.specs.declared.kind.Kind.TheVariants as kind
use Rattle.collective_spec.specs.declared.spec.Spec.TheVariants as spec

-- what a test gives is among the chunks and the nodes
among : (chunks nodes : ℕ) (test : ℕ × ℕ → Bool) → IsAmong chunks nodes (placed chunks nodes test)
among chunks nodes test = record { placement = placement-placed chunks nodes test; of_chunks = refl; of_nodes = refl }

pub instance_chunks : (s : Spec) (nodes c : ℕ) → (spec_instance s nodes c).chunks ≡ chunks_in s nodes c
instance_chunks (spec.Standard collective) nodes c = refl
instance_chunks (spec.Custom p) nodes c = refl

pub before_among : (s : Spec) (nodes c : ℕ) → IsAmong (chunks_in s nodes c) nodes (spec_instance s nodes c).pre
before_among (spec.Standard collective) nodes c = among _ nodes _
before_among (spec.Custom p) nodes c = among _ nodes _

pub after_among : (s : Spec) (nodes c : ℕ) → IsAmong (chunks_in s nodes c) nodes (spec_instance s nodes c).post
after_among (spec.Standard collective) nodes c = among _ nodes _
after_among (spec.Custom p) nodes c = among _ nodes _

pub demand_among : (s : Spec) (nodes c : ℕ) → IsAmong (chunks_in s nodes c) nodes (spec_demand s nodes c)
demand_among (spec.Standard collective) nodes c = among _ nodes _
demand_among (spec.Custom p) nodes c = among _ nodes _

is_kind : (k : Kind) → is_custom k ≡ true → kind.Custom ≡ k
is_kind kind.Custom e = refl
is_kind k e = absurd (cc)

pub fitting_kind : (collective : Collective) (pattern : Option PatternValue) → fits_kind collective.kind pattern ≡ true → kind_in (spec_of collective pattern) ≡ collective.kind
fitting_kind collective None fits = refl
fitting_kind collective (Some p) fits = is_kind collective.kind fits

pub fitting_spec : (nodes : ℕ) (collective : Collective) (pattern : Option PatternValue) → fits_kind collective.kind pattern ≡ true → collective.root < nodes → IfSome pattern (IsPattern nodes) → IsSpec nodes (spec_of collective pattern)
fitting_spec nodes collective None fits root given = (not-true (is_custom collective.kind) fits, root)
fitting_spec nodes collective (Some p) fits root given = given
