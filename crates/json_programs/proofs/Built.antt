-- The JSON of programs has no floats.
use Rattle.std.{proofs.Common.{◌≡◌, ℕ, ◌||◌, false, List, [], length, refl, ap, slice_index_or}, specs.List.range_with_len}
use Rattle.node_programs.specs.declared.op.Op.{Op, TheVariants.{Send, Take}}
use Rattle.serde_json.specs.Written.{has_float}
use Rattle.json_rules.specs.ProgramsJson.{op_json, node_json, programs_json}
use Rattle.json_values.proofs.Built.{whole_items}

module _ (names : List (List ℕ)) where
  op_whole : (op : Op) → has_float (op_json names op) ≡ false
  op_whole (Send chunk to step) = refl
  op_whole (Take chunk from step how) = refl

  node_whole : (programs : List (List Op)) (node : ℕ) → has_float (node_json names programs node) ≡ false
  node_whole programs node = ap (λ b. b || false) (whole_items (op_json names) (slice_index_or programs node []) op_whole)

  pub programs_whole : (point : ℕ) (programs : List (List Op)) → has_float (programs_json point names programs) ≡ false
  programs_whole point programs = ap (λ b. b || false) (whole_items (node_json names programs) (range_with_len 0 (length names)) (node_whole programs))
