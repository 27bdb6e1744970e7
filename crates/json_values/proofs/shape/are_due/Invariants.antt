use Rattle.std.proofs.Common.{◌≡◌, drop}
use Rattle.serde_json.specs.View.{members_view}
use Rattle.json_values.specs.{Forms.same_keys, Pieces.due_keys}
use Rattle.json_values.proofs.shape.are_due.Given as goal

-- the keys that are left and the members that are left decide
abbrev pub invariant-loop-key : goal.invariant-loop-key
invariant-loop-key l = same_keys (due_keys l.keys) (members_view l.members.entries) ≡ same_keys (due_keys (drop l.key-index l.keys)) (members_view l.left)
