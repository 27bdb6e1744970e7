use Rattle.std.proofs.Common.{subst, sym, IsUtf8}
use Rattle.json_values.proofs.Printing.{name_utf8, ok_by}
use Rattle.json_values.proofs.names.name_text.Goals as goal

pub unwrap-requires : goal.unwrap-requires
unwrap-requires c =
    let utf8 = subst IsUtf8 (sym c.as_bytes.ensures.bytes) (name_utf8 c.args.name.now c.as_bytes.ensures.name) in
    ok_by (IsUtf8 c.as_bytes.result.now) _ _ c.from_utf8.result c.from_utf8.ensures.cases utf8
