use Rattle.std.{proofs.{Common.{◌≡◌, ◌&&◌, ℕ, true, false, cond, sym, ap, ◌∙◌, Option, None, Some, nat_lt, not}, lemmas.Bool.{lt-ltb, le-ltb}}, specs.Option.option_map}
use Rattle.schedule.specs.Judging.{group_at}
use Rattle.node_cuts.{specs.{declared.greedy.Choice.Choice, Cuts.{better, enters, is_among, opens}, Opened.choice_of}, proofs.Choosing.{any_counts, none_mapped}}
use Rattle.node_cuts.proofs.greedy.better.Goals as goal

pub returns-then-next-gt0-clause-better : goal.returns-then-next-gt0-clause-better
returns-then-next-gt0-clause-better c u t taken first second best next =
    let nothing : first ≡ None = none_mapped (choice_of u t taken) first (sym c.in-None.is ∙ best) in
    let some : opens u t taken second ≡ true = any_counts (λ link. enters u link && not (is_among t taken link)) (group_at t second).links ∙ ap (λ (k : Choice). nat_lt 0 k.opened) (sym next) ∙ lt-ltb 0 c.args.next.opened c.if-next-gt0.true in
    ap Some next ∙ ap (λ b. option_map (choice_of u t taken) (cond {A = Option ℕ} b (Some second) None)) (sym some) ∙ ap (λ o. option_map (choice_of u t taken) (better u t taken o second)) (sym nothing)

pub returns-else-next-gt0-clause-better : goal.returns-else-next-gt0-clause-better
returns-else-next-gt0-clause-better c u t taken first second best next =
    let nothing : first ≡ None = none_mapped (choice_of u t taken) first (sym c.in-None.is ∙ best) in
    let none : opens u t taken second ≡ false = any_counts (λ link. enters u link && not (is_among t taken link)) (group_at t second).links ∙ ap (λ (k : Choice). nat_lt 0 k.opened) (sym next) ∙ le-ltb 0 c.args.next.opened c.if-next-gt0.false in
    ap (λ b. option_map (choice_of u t taken) (cond {A = Option ℕ} b (Some second) None)) (sym none) ∙ ap (λ o. option_map (choice_of u t taken) (better u t taken o second)) (sym nothing)
