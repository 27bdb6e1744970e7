use Rattle.std.proofs.{Common.arith, lemmas.List.{get_or_read, length-take-le, Sums.count_by-le-length, Elements.All-contains}}
use Rattle.cnf_formula.proofs.Codes.{code_within}
use Rattle.trail_core.proofs.loading.counts_of.Goals as goal

pub overflow_add-index_mut : goal.overflow_add-index_mut
overflow_add-index_mut c = grind (arith, All-contains, code_within, get_or_read, count_by-le-length, length-take-le)
