use Rattle.std.proofs.{Common.{◌≡◌, ◌+◌, ◌-◌, ◌≤◌, ◌++◌, ◌∷◌, [], take, drop, length, sym, ap, ◌∙◌, subst, arith, reverse}, lemmas.List.{length_push, length-reverse}}
use Rattle.list_laws.proofs.Fronts.{shorter}
use Rattle.lrat_checker.{specs.inner.Marking.IsCounted, proofs.Marked.{some_times, counted_fewer, read_times, at_code, reverse-take, about_last}}
use Rattle.lrat_checker.proofs.marks.Marks.back_to.Goals as goal

pub overflow_sub-index_mut : goal.overflow_sub-index_mut
overflow_sub-index_mut c =
    let i = c.loop-self.self-inside in
    let x = c.take_last-lit.result in
    let ms = c.take_last-lit.new.self.items in
    let counted : IsCounted i.vars i.counts.items (ms ++ x ∷ []) = subst (IsCounted i.vars i.counts.items) c.take_last-lit.ensures.items c.loop-self.invariant.counted in
    let n = read_times i.vars i.counts.items (ms ++ x ∷ []) x c.code.result c.index_mut.result.now counted (about_last i.vars ms x counted.about) c.code.ensures.code c.index_mut.ensures.value in
    omega (arith, n, some_times ms x)

pub loop-self-preserved : goal.loop-self-preserved
loop-self-preserved c =
    let i = c.loop-self.self-inside in
    let x = c.take_last-lit.result in
    let ms = c.take_last-lit.new.self.items in
    let e : i.marked.items ≡ ms ++ x ∷ [] = c.take_last-lit.ensures.items in
    let counted : IsCounted i.vars i.counts.items (ms ++ x ∷ []) = subst (IsCounted i.vars i.counts.items) e c.loop-self.invariant.counted in
    let n = at_code i.vars i.counts.items (ms ++ x ∷ []) x c.code.result c.index_mut.result.now counted (about_last i.vars ms x counted.about) c.code.ensures.code c.index_mut.ensures.value in
    let fewer = counted_fewer i.vars i.counts.items ms x c.index_mut.result.now counted n in
    let long : length i.marked.items ≡ length ms + 1 = ap length e ∙ length_push ms x in
    grind (arith, shorter i.marked.items ms c.self.inside.marked.items x e c.loop-self.invariant.front)

pub returns : goal.returns
returns c =
    let i = c.self.inside in
    let l = c.loop-self in
    let old = ap (λ m. m.falses) c.self.view_is in
    let long : length c.args.self.now.falses ≡ length i.marked.items = ap length (sym old) ∙ length-reverse i.marked.items in
    let n : length l.self-inside.marked.items ≡ c.args.len = omega (arith, l.invariant.long, c.loop-self-test.false, c.len.ensures) in
    let within : c.args.len ≤ length i.marked.items = omega (arith, c.requires, long) in
    let falses : reverse l.self-inside.marked.items ≡ drop (length c.args.self.now.falses - c.args.len) c.args.self.now.falses =
    ap reverse (l.invariant.front ∙ ap (λ k. take k i.marked.items) n) ∙ reverse-take c.args.len i.marked.items within
    ∙ ap (λ k. drop (k - c.args.len) (reverse i.marked.items)) (sym long) ∙ ap (drop (length c.args.self.now.falses - c.args.len)) old in
    let vars = l.invariant.vars ∙ ap (λ m. m.vars) c.self.view_is in
    λ i. record { vars = vars i; falses = falses i }
