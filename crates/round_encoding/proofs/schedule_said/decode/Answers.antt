use Rattle.std.proofs.Common.{◌≡◌, sym, subst, arith, rules}
use Rattle.round_encoding.{specs.{Decoding.decoded, Candidates.IsTightSolution}, proofs.Decodes.{valued, decodes}}
use Rattle.round_encoding.proofs.schedule_said.decode.Goals as goal

pub rounds_of-requires-clause-vars : goal.rounds_of-requires-clause-vars
rounds_of-requires-clause-vars c = grind (arith, valued)

pub sends_of-requires : goal.sends_of-requires
sends_of-requires c = grind (arith, valued)

pub new-requires : goal.new-requires
new-requires c = grind (arith, decodes)

pub returns-clause-solves : goal.returns-clause-solves
returns-clause-solves c =
    let e = c.args.encoding.now in
    let is : c.new.result ≡ decoded (record { map = e.map; extra = e.extra }) c.args.assignment.now = search rules in
    λ t pre post steps rounds encodes. subst (λ s. IsTightSolution t pre post s steps rounds) (sym is) (decodes t pre post steps rounds e encodes c.args.assignment.now c.requires.satisfied)
