use Rattle.std.{proofs.{Common.{arith, sym, ◌∙◌}, lemmas.Bool.{not_from_true}}, specs.List.{list_any, range_with_len}}
use Rattle.list_laws.proofs.Ranges.{any_at}
use Rattle.chunk_order.{specs.Alike.is_alike}
use Rattle.chunk_order.proofs.alike.is_least.Goals as goal

pub returns-then-is_alike : goal.returns-then-is_alike
returns-then-is_alike c =
    let i = c.args.instance.now in
    let p = is_alike i.pre i.post c.args.chunk in
    sym (not_from_true (list_any p (range_with_len 0 c.args.chunk)) (any_at p 0 c.args.chunk c.loop-other.other (omega arith) (omega (arith, c.loop-other-test.true)) (sym c.is_alike.ensures ∙ c.if-is_alike.true)))
