use Rattle.std.proofs.{Common.{◌≡◌, ◌<◌, Ok, length, arith, rules}, lemmas.{Bool.Decides.nat_tests, Grind.common_steps}}
use Rattle.topology_text.specs.{declared.fault.TopologyCode.TheVariants.WidthRange, Reading.one_to_16}
use Rattle.topology_text.proofs.Links.{group_valid}
use Rattle.topology_text.proofs.group_line.group_on.Goals as goal

pub new-requires : goal.new-requires
new-requires c =
    let wide : one_to_16 WidthRange c.unwrap_or-word.result.now ≡ Ok c.in_ok-width.width = search rules in
    let some : 0 < length c.next_word-2.new.self.words = grind (arith, nat_tests, common_steps) in
    group_valid c.args.names.now.keys c.unwrap_or-word.result.now c.next_word-2.new.self.words c.in_ok-width.width c.in_ok-links.links.items wide c.in_ok-links.ensures some
