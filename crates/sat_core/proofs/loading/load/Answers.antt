use Rattle.std.proofs.Common.{length, ap, ◌∙◌, subst, sym, arith, All, flat_map}
use Rattle.cnf_formula.specs.{Literals.IsLit, Formulas.IsClause}
use Rattle.sat_core.{specs.inner.Loading.IsLoaded, proofs.Loaded.{clauses_own, numbered_from, ready_loaded}}
use Rattle.sat_core.proofs.loading.load.Goals as goal

pub core_of-requires : goal.core_of-requires
core_of-requires c =
    let is = c.clauses-clauses.ensures.clauses in
    subst (All (IsClause c.args.own)) (sym is) (clauses_own c.args.formula.now.vars c.args.own c.args.formula.now.clauses c.requires c.clauses-clauses.ensures.limits (subst (All IsLit) (c.lits.ensures ∙ ap (flat_map (λ clause. clause)) is) c.know.ensures))

pub returns : goal.returns
returns c =
    let core = c.in_ok-core.core in
    let e = c.in_ok-awake.ensures in
    let is = c.clauses-clauses.ensures.clauses in
    let numbered = numbered_from core c.in_ok-awake.awake c.len-2.result (omega (arith, c.len-2.ensures, c.in_ok-core.ensures.loaded.count)) e.ids e.names c.in_ok-core.ensures.once in
    record { vars = c.in_ok-core.ensures.vars; listed = numbered.listed; ready = ready_loaded c.args.formula.now core c.in_ok-awake.awake c.args.own (subst (λ cs. IsLoaded cs core.clauses) is c.in_ok-core.ensures.loaded) numbered (omega (arith, e.formula, c.len-2.ensures, ap length is)) (omega (arith, e.held, c.len-2.ensures, ap length is)) (omega (arith, c.in_ok-core.ensures.vars, c.requires)) }
