-- The table of the kinds' words.
use Rattle.std.proofs.Common.{◌≡◌, Some, refl}
use Rattle.case_table.specs.Rows.{value_at, word_at}
use Rattle.collective_spec.specs.{declared.kind.Kind.{Kind, TheVariants.{Broadcast, Gather, Allgather, Scatter, Alltoall, Reduce, Reducescatter, Allreduce, Custom}}, Kinds.{number_of, word_of, kind_rows}}

pub number_found : (kind : Kind) → value_at kind_rows (word_of kind) ≡ Some (number_of kind)
number_found Broadcast = refl
number_found Gather = refl
number_found Allgather = refl
number_found Scatter = refl
number_found Alltoall = refl
number_found Reduce = refl
number_found Reducescatter = refl
number_found Allreduce = refl
number_found Custom = refl

pub word_found : (kind : Kind) → word_at kind_rows (number_of kind) ≡ Some (word_of kind)
word_found Broadcast = refl
word_found Gather = refl
word_found Allgather = refl
word_found Scatter = refl
word_found Alltoall = refl
word_found Reduce = refl
word_found Reducescatter = refl
word_found Allreduce = refl
word_found Custom = refl
