use Rattle.std.proofs.Common.{◌≡◌, ◌++◌, ◌∙◌, ap, rules, codes, decimal}
use Rattle.report_printing.proofs.Pieces.{before}
use Rattle.report_printing.proofs.printing.push_limits.Goals as goal

pub returns : goal.returns
returns c =
    let a = c.args.out.now.items in
    let b1 = c.push_keyed.new.out.items in
    let b2 = c.push_keyed-2.new.out.items in
    let b3 = c.push_keyed-3.new.out.items in
    let b4 = c.push_keyed-4.new.out.items in
    let l = c.args.limits in
    let k : b1 ≡ a ++ (codes " k=" ++ decimal l.k) = search rules in
    let steps : b2 ≡ b1 ++ (codes " steps=" ++ decimal l.max_s) = search rules in
    let chunks : b3 ≡ b2 ++ (codes " chunks=" ++ decimal l.max_c) = search rules in
    let value : c.from-4.result ≡ l.conflicts = search rules in
    let conflicts : b4 ≡ b3 ++ (codes " conflicts=" ++ decimal l.conflicts) = c.in_ok-push_keyed-4.ensures ∙ ap (λ n. b3 ++ (codes " conflicts=" ++ decimal n)) value in
    before a b1 b4 (codes " k=" ++ decimal l.k) _ k (before b1 b2 b4 (codes " steps=" ++ decimal l.max_s) _ steps (before b2 b3 b4 (codes " chunks=" ++ decimal l.max_c) _ chunks conflicts))
