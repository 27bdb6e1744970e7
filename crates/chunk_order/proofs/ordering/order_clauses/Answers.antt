use Rattle.std.proofs.Common.{◌≡◌, sym, ap, ◌∙◌, subst}
use Rattle.cnf_formula.specs.Formulas.{FormulaValue, Satisfiable, with_clauses}
use Rattle.round_encoding.specs.declared.encoding.Encoding.{Encoding}
use Rattle.chunk_order.{specs.Ordering.{order_clauses, ordered_formula_of}, proofs.{Pushing.own_within, Sufficing.exactly_solvable}}
use Rattle.chunk_order.proofs.ordering.order_clauses.Goals as goal

pub all_in_order-requires-clause-vars : goal.all_in_order-requires-clause-vars
all_in_order-requires-clause-vars c =
    let i = c.args.instance.now in
    own_within i.pre i.post c.args.encoding.now c.in_ok-formula.formula.vars c.requires (ap (λ (f : FormulaValue). f.vars) c.in_ok-formula.ensures)

pub returns-clause-exactly : goal.returns-clause-exactly
returns-clause-exactly c = λ t steps rounds encodes.
    let i = c.args.instance.now in
    let e = c.args.encoding.now in
    let f = c.all_in_order.new.formula in
    let made : f ≡ with_clauses e.formula (order_clauses e.map i.pre i.post) = c.in_ok-all_in_order.ensures ∙ ap (λ g. with_clauses g (order_clauses e.map i.pre i.post)) c.in_ok-formula.ensures in
    let whole : f ≡ ordered_formula_of t i.pre i.post steps rounds = made ∙ ap (λ (x : Encoding). with_clauses x.formula (order_clauses x.map i.pre i.post)) encodes.is in
    let both = exactly_solvable t i.pre i.post steps rounds encodes.candidate in (
      λ some. both.0 (subst Satisfiable whole some),
      λ some. subst Satisfiable (sym whole) (both.1 some),
    )
