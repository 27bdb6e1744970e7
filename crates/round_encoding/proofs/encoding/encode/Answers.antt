use Rattle.std.proofs.Common.{◌≡◌, ◌-◌, sym, subst, arith, ◌↔◌, sum_by}
use Rattle.schedule.specs.Solving.{Solvable}
use Rattle.cnf_formula.specs.Formulas.{Satisfiable}
use Rattle.send_encoding.specs.Variables.{map_of}
use Rattle.round_encoding.{specs.{declared.encoding.Encoding.Encoding, inner.Counts.HasLinks}, proofs.{Counted.placed_links, Encoded.encoded, Exactly.{sound, exactly, completely}, Sizes.{few_sends, few_variables}}}
use Rattle.round_encoding.proofs.encoding.encode.Goals as goal

pub encode_sends-requires-clause-few : goal.encode_sends-requires-clause-few
encode_sends-requires-clause-few c = few_sends c.args.topology.now c.args.instance.now.pre c.args.instance.now.post c.args.steps c.args.rounds c.requires.candidate c.requires.size

pub encode_rounds-requires-clause-links : goal.encode_rounds-requires-clause-links
encode_rounds-requires-clause-links c =
    let t = c.args.topology.now in
    let pre = c.args.instance.now.pre in
    let is : c.in_ok-map.map ≡ map_of t pre c.args.steps = c.in_ok-map.ensures.map in
    subst (λ m. HasLinks m t) (sym is) (λ k d low. placed_links t pre c.args.steps k d c.requires.candidate.topology low)

pub encode_rounds-requires-clause-small : goal.encode_rounds-requires-clause-small
encode_rounds-requires-clause-small c = grind (arith, c.args.topology.now, c.args.instance.now.pre, c.args.rounds - c.args.steps, c.in_ok-map.ensures.map, sum_by, few_variables)

pub returns-clause-encoding : goal.returns-clause-encoding
returns-clause-encoding c =
    encoded c.args.topology.now c.args.instance.now.pre c.args.instance.now.post c.args.steps c.args.rounds c.in_ok-map.map c.vars-extra_from.result c.encode_sends.new.formula c.encode_rounds.new.formula
    c.in_ok-map.ensures.map c.in_ok-map.ensures.formula c.vars-extra_from.ensures.vars c.in_ok-encode_rounds.ensures

pub returns-clause-exactly : goal.returns-clause-exactly
returns-clause-exactly c =
    let t = c.args.topology.now in
    let pre = c.args.instance.now.pre in
    let post = c.args.instance.now.post in
    subst (λ (e : Encoding). Satisfiable e.formula ↔ Solvable t pre post c.args.steps c.args.rounds) (sym (returns-clause-encoding c)) (exactly t pre post c.args.steps c.args.rounds c.requires.candidate)

pub returns-clause-sound : goal.returns-clause-sound
returns-clause-sound c = grind (arith, returns-clause-encoding, sound)

pub returns-clause-complete : goal.returns-clause-complete
returns-clause-complete c = grind (arith, returns-clause-encoding, completely)
