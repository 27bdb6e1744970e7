use Rattle.std.{proofs.{Common.{◌≡◌, true, false, map, take, sym, ap, ◌∙◌, arith}, lemmas.List.{length-map, take_all}}, specs.List.list_any}
use Rattle.cnf_formula.specs.Literals.{is_superset}
use Rattle.list_laws.proofs.Fronts.{at_map}
use Rattle.lrat_checker.{specs.{inner.Leads.signature_of, Stored.{list_at, finds}}, proofs.{Covered.{one_covered, none_covered}, table.ClauseTable.has_subset.Goals.{After-deref-2, After-deref-in-loop-lit-2}}}
use Rattle.lrat_checker.proofs.table.ClauseTable.has_subset.Goals as goal

bare : (c : After-deref-2) → list_at (map (λ v. v.items) c.self.inside.leads.items) 0 ≡ c.deref-2.result.now
bare c = grind (arith, at_map, length-map)

listed : (c : After-deref-in-loop-lit-2) → list_at (map (λ v. v.items) c.self.inside.leads.items) c.code.result ≡ c.deref-in-loop-lit-2.result.now
listed c = grind (arith, length-map, at_map)

pub returns-then-has_marked : goal.returns-then-has_marked
returns-then-has_marked c =
    let i = c.self.inside in
    let lits = c.args.lits.now in
    let clauses = i.clauses in
    let list = bare (goal.at.returns-then-has_marked c).After-deref-2 in
    let found : list_any (finds i.live.items clauses lits (signature_of lits)) (list_at (map (λ v. v.items) i.leads.items) 0) ≡ true = let e = c.has_marked.ensures in let a = c.if-has_marked.true in let l = c.deref.ensures.value in let m = c.requires.marked in let s = c.signature_of-signature.ensures in cc in
    sym (ap (λ t. list_any (λ entry. is_superset lits entry.1) t.held) (sym c.self.view_is) ∙ one_covered lits i.ids.items i.live.items clauses c.self.invariant.lives c.self.invariant.many _ found)

pub returns-then-has_marked-2 : goal.returns-then-has_marked-2
returns-then-has_marked-2 c =
    let i = c.self.inside in
    let lits = c.args.lits.now in
    let clauses = i.clauses in
    let k = c.code.result in
    let list = listed (goal.at.returns-then-has_marked-2 c).After-deref-in-loop-lit-2 in
    let found : list_any (finds i.live.items clauses lits (signature_of lits)) (list_at (map (λ v. v.items) i.leads.items) k) ≡ true =
    let e = c.has_marked-in-loop-lit.ensures in let a = c.if-has_marked-2.true in let l = c.deref-in-loop-lit.ensures.value in let m = c.requires.marked in let s = c.signature_of-signature.ensures in cc in
    sym (ap (λ t. list_any (λ entry. is_superset lits entry.1) t.held) (sym c.self.view_is) ∙ one_covered lits i.ids.items i.live.items clauses c.self.invariant.lives c.self.invariant.many _ found)

pub returns : goal.returns
returns c =
    let i = c.self.inside in
    let lits = c.args.lits.now in
    let clauses = i.clauses in
    let list = bare (goal.at.returns c).After-deref-2 in
    let first : list_any (finds i.live.items clauses lits (signature_of lits)) (list_at (map (λ v. v.items) i.leads.items) 0) ≡ false = let e = c.has_marked.ensures in let a = c.if-has_marked.false in let l = c.deref.ensures.value in let m = c.requires.marked in let s = c.signature_of-signature.ensures in cc in
    let whole : take c.loop-lit.lit-index lits ≡ lits = take_all c.loop-lit.lit-index lits c.loop-lit-test.false in
    sym (grind (arith, none_covered lits i.ids.items i.live.items clauses c.self.invariant.lives c.self.invariant.many i.vars))
