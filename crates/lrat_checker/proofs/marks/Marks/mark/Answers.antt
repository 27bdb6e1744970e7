use Rattle.std.proofs.{lemmas.Grind.common_steps, Common.{sym, ap, subst, arith}}
use Rattle.cnf_formula.specs.Formulas.{IsAbout}
use Rattle.lrat_checker.proofs.Marked.{times_few, counted_more, at_code}
use Rattle.lrat_checker.proofs.marks.Marks.mark.Goals as goal

pub overflow_add-index_mut : goal.overflow_add-index_mut
overflow_add-index_mut c = grind (arith, common_steps, times_few)

pub invariant_of-self-2 : goal.invariant_of-self-2
invariant_of-self-2 c =
    let i = c.self.inside in
    let l = c.args.lit in
    let about = subst (λ n. IsAbout n l) (sym (ap (λ m. m.vars) c.self.view_is)) c.requires in
    let more = counted_more i.vars i.counts.items i.marked.items l c.index_mut.result.now c.self.invariant about (at_code i.vars i.counts.items i.marked.items l c.code.result c.index_mut.result.now c.self.invariant about c.code.ensures.code c.index_mut.ensures.value) in
    rw (c.in_ok-push.ensures.items, c.code.ensures.code) more
