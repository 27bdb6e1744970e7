use Rattle.std.proofs.Common.{◌≡◌, drop}
use Rattle.text_lines.specs.Text.{line}
use Rattle.json_values.proofs.Appended.{with_rest}
use Rattle.json_values.proofs.tokens.EachLines.push_lines.Given as goal

-- what is there so far, with the lines of the items that are left, is what was there with all lines
abbrev pub invariant-loop-item : goal.invariant-loop-item
invariant-loop-item g l = with_rest line (g.P.Lines.lines l.self.0) l.initial.out.items l.items ≡ with_rest line (g.P.Lines.lines l.self.0) l.out.items (drop l.item-index l.items)
