-- The parts of a topology text do the same where their lines are the same.
use Rattle.std.proofs.Common.{ℕ, zero, suc, ◌+◌, Bool, true, false, List, length, Option, None, Some, codes}
use Rattle.text_lines.proofs.Steady.{Steady, Settles, steady_line, steady_found, steady_then, steady_lines, settles_then, settles_ok}
use Rattle.collective_spec.specs.Patterns.{PatternValue}
use Rattle.topology_text.specs.{Value.named_with, Reading.{header_line, nodes_line, groups_at, custom_line, holders_line, Pairs, holders_at, pattern_of, pattern_at, named_at, topology_at}}
use Rattle.topology_text.proofs.{Groups.next_group, HolderLines.{pushed, no_pairs}, Laws.{no_line, whole_at}}

module _ (names : List (List ℕ)) where
  pub steady_groups : Steady (groups_at names) (groups_at names)
  steady_groups = steady_lines (codes "group ") (next_group names)

  steady_holders : (left g : ℕ) (pairs : Pairs) → Steady (holders_at names left g pairs) (holders_at names left g pairs)
  steady_holders zero g pairs = steady_found pairs
  steady_holders (suc left) g pairs =
      steady_then _ _ _ _ (steady_line (holders_line names (codes "before") g)) (λ b. steady_then _ _ _ _ (steady_line (holders_line names (codes "after") g))
      (λ a. steady_holders left (g + 1) (pushed pairs g b a)))

  pub steady_pattern : (patterned : Bool) → Steady (pattern_at patterned names) (pattern_at patterned names)
  unfolding pattern_at
  steady_pattern false = let none : Option PatternValue = None in steady_found none
  steady_pattern true = steady_then _ _ _ _ (steady_line custom_line) (λ base. steady_then _ _ _ _ (steady_holders base 0 no_pairs) (λ pairs. steady_found (Some (pattern_of base (length names) pairs))))

pub steady_topology : Steady topology_at topology_at
unfolding topology_at named_at
steady_topology =
    steady_then _ _ _ _ (steady_line header_line) (λ patterned. steady_then _ _ _ _ (steady_line nodes_line) (λ names. steady_then _ _ _ _ (steady_groups names)
    (λ groups. steady_then _ _ _ _ (steady_pattern names patterned) (λ custom. steady_found (named_with names groups custom)))))

-- a topology and nothing else
pub settles_topology : Settles whole_at whole_at
settles_topology = settles_then _ _ _ _ steady_topology (λ t. settles_then _ _ _ _ (steady_line no_line) (λ u. settles_ok t))
