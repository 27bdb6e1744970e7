use Rattle.std.{proofs.Common.{◌≡◌, false, sym, ap, ◌∙◌, rules, nat_lt}, specs.List.list_all}
use Rattle.topology_text.{specs.Reading.holders_from, proofs.PatternLines.out_of_order}
use Rattle.topology_text.proofs.pattern_lines.holders_of.Goals as goal

pub returns-then-not-comes_last : goal.returns-then-not-comes_last
returns-then-not-comes_last c =
    let names = c.args.names.now.keys in
    let before = c.loop-word.nodes.items in
    let behind : list_all (λ other. nat_lt other c.in-Some-node_of.node) before ≡ false = search rules in
    sym c.loop-word.invariant ∙ ap (holders_from names before) c.in-Some.ensures.some ∙ out_of_order names before c.in-Some.word.now c.next_word.new.self.words c.in-Some-node_of.node c.in-Some-node_of.ensures behind
