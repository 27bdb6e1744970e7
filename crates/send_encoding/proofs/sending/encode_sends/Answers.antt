use Rattle.std.proofs.Common.{◌≡◌, ◌+◌, true, sym, subst, rules}
use Rattle.cnf_formula.specs.{Literals.all_hold, Formulas.FormulaValue}
use Rattle.send_encoding.{specs.{Variables.{map_of, arrivals, sends}, Sending.sending, Agreeing.SatisfiesAs}, proofs.Decided.{tight_run, run_satisfies}}
use Rattle.send_encoding.proofs.sending.encode_sends.Goals as goal

pub returns-clause-tight : goal.returns-clause-tight
returns-clause-tight c =
    let t = c.args.topology.now in
    let pre = c.args.instance.now.pre in
    let post = c.args.instance.now.post in
    let is : c.add_clauses.new.formula ≡ record { vars = arrivals (map_of t pre c.args.steps) + sends (map_of t pre c.args.steps); clauses = sending (map_of t pre c.args.steps) pre post } = search rules in
    λ values satisfies. tight_run t pre post c.args.steps values c.chunks.ensures.limits c.requires.nodes (subst (λ (f : FormulaValue). all_hold values f.clauses ≡ true) is satisfies.holds)

pub returns-clause-complete : goal.returns-clause-complete
returns-clause-complete c =
    let t = c.args.topology.now in
    let pre = c.args.instance.now.pre in
    let post = c.args.instance.now.post in
    let is : c.add_clauses.new.formula ≡ record { vars = arrivals (map_of t pre c.args.steps) + sends (map_of t pre c.args.steps); clauses = sending (map_of t pre c.args.steps) pre post } = search rules in
    λ schedule rounds range solves. subst (SatisfiesAs (map_of t pre c.args.steps) pre schedule) (sym is) (run_satisfies t pre post schedule c.args.steps rounds c.requires.nodes range solves)
