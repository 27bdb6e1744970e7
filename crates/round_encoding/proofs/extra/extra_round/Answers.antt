use Rattle.std.proofs.{Common.{◌≡◌, ◌≤◌, arith, sym, subst, rules}, lemmas.Nat.mul-le}
use Rattle.round_encoding.{specs.Frames.{extra_round, own_variables}, proofs.Extras.extra_within}
use Rattle.round_encoding.proofs.extra.extra_round.Goals as goal

pub new-requires : goal.new-requires
new-requires c = grind (arith, extra_within, mul-le)

pub returns-clause-within : goal.returns-clause-within
returns-clause-within c =
    let m = c.args.map.now in
    let is : c.new.result ≡ extra_round (record { map = m; extra = c.args.extra }) c.args.step c.args.number = search rules in
    subst (λ l. l.var ≤ own_variables (record { map = m; extra = c.args.extra })) (sym is) (extra_within m c.args.extra c.args.step c.args.number c.requires.step c.requires.number)
