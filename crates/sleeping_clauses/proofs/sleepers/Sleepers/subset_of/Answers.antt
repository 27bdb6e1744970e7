use Rattle.std.proofs.Common.{◌≡◌, ◌<◌, false, true, [], length, get_or, map, sym, ap, subst, Contains}
use Rattle.cnf_formula.specs.Literals.{code_of}
use Rattle.sleeping_clauses.{specs.Sleeping.{IsCover, list_at}, proofs.Found.{match_as, none_found}}
use Rattle.sleeping_clauses.proofs.sleepers.Sleepers.subset_of.Goals as goal

pub returns-clause-found : goal.returns-clause-found
returns-clause-found c =
    let i = c.self.inside in
    let lits = c.args.lits.now in
    let view = c.self.view_is in
    let clauses = i.clauses.clauses in
    let asleep = i.asleep.items in
    let leads = map (λ v. v.items) i.leads.items in
    let marks = c.mark_all.new.marks.items in
    let stamp = c.next_stamp-self-inside.result in
    let cs : c.clauses.result.now ≡ clauses = c.clauses.ensures.clauses in
    let bs : c.deref.result.now ≡ asleep = c.deref.ensures.value in
    let ls : map (λ v. v.items) c.deref-2.result.now ≡ leads = ap (map (λ v. v.items)) c.deref-2.ensures.value in
    let ms : c.deref-3.result.now ≡ marks = c.deref-3.ensures.value in
    match_as c.first_marked.result c.first_marked.ensures
    (λ none place w t sub.
    none_found i.clauses.vars clauses i.numbers.items asleep i.count leads i.marks.items marks stamp lits c.self.invariant c.mark_all.ensures.marked
    (λ o led h g cover. none o led h (subst (λ x. Contains (list_at x (code_of o)) led) (sym ls) g) (subst (λ x. IsCover c.clauses.result.now c.deref.result.now x stamp led) (sym ms) (subst (λ x. IsCover c.clauses.result.now x marks stamp led) (sym bs) (subst (λ x. IsCover x asleep marks stamp led) (sym cs) cover))))
    place
    (subst (λ s. place < length s.clauses) (sym view) w)
    (subst (λ s. get_or s.asleep place false ≡ true) (sym view) t)
    (λ o h. sub o (subst (λ s. Contains (get_or s.clauses place []) o) view h)))
    (λ place p. (subst (λ s. place < length s.clauses) view (subst (λ x. place < length x) cs p.0), subst (λ s. get_or s.asleep place false ≡ true) view (subst (λ x. get_or x place false ≡ true) bs p.1)))
