use Rattle.std.proofs.{Common.{◌<◌, length, sym, ap, arith}, lemmas.List.{length-map, Elements.All-contains}}
use Rattle.cnf_formula.specs.Formulas.{IsAbout}
use Rattle.trail_core.{specs.{Watching.row_at, Search.{clauses_of}}, proofs.{Visits.lits_at, Levels.kept_assert}}
use Rattle.trail_core.proofs.cdcl.Core.assert.Goals as goal

pub push-requires-clause-within : goal.push-requires-clause-within
push-requires-clause-within c =
    let i = c.self.inside in
    let id = c.args.reason in
    let row = c.self.invariant.can.are_rows id (omega (arith, ap (λ x. length x.clauses) c.self.view_is, c.requires.known, length-map i.store (λ r. r.lits))) in
    (All-contains (IsAbout i.trail.vars) (row_at i.store id).lits c.args.lit row.within (rw (sym c.self.view_is, sym (lits_at i.store id)) at c.requires.alone.stands)).within

pub invariant_of-self : goal.invariant_of-self
invariant_of-self c =
    let i = c.self.inside in
    let w : c.args.reason < length (clauses_of i.store) = omega (arith, ap (λ x. length x.clauses) c.self.view_is, c.requires.known) in
    rw (c.push.ensures, c.reason.view_is) (kept_assert i.store i.lists i.trail i.head i.short.items c.args.lit c.args.reason c.self.invariant w (rw (sym c.self.view_is) at c.requires.alone) (rw (sym c.self.view_is) at c.requires.due))
