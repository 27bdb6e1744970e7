use Rattle.std.proofs.Common.{ap, ◌∙◌, arith, eqb}
use Rattle.topology_text.proofs.PatternLines.{same_number, no_number}
use Rattle.topology_text.proofs.pattern_lines.is_number.Goals as goal

pub returns-in-Some : goal.returns-in-Some
returns-in-Some c =
    let (spelled, small) = c.in-Some.ensures.some in
    ap (λ n. eqb c.in-Some.read n) c.from-in-Some.ensures ∙ same_number c.args.word.now c.in-Some.read c.args.number spelled (omega (arith, small, c.from.ensures)) (omega arith)

pub returns-in-None : goal.returns-in-None
returns-in-None c = no_number c.args.word.now c.args.number (c.in-None.ensures.none c.args.number (omega (arith, c.from.ensures)))
