-- Places at which lines still have numbers. This project's own.
use Rattle.std.specs.Prelude.{◌+◌, ◌<◌, ◌≤◌, ◌^◌, length}
use Rattle.text_lines.specs.Text.{Place}

-- each line that is left has a number that fits, and so has the one after the last
abbrev pub HasRoom : Place → Type 0
HasRoom p = p.number + length p.rows + 1 < 2 ^ 32

-- no more lines and numbers than before
abbrev pub Onward : Place → Place → Type 0
Onward p q = q.number + length q.rows ≤ p.number + length p.rows
