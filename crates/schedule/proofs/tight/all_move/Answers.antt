use Rattle.std.{proofs.{Common.{◌≡◌, ◌+◌, ◌-◌, Bool, true, false, ◌&&◌, get_or, drop, sym, ap, ◌∙◌, subst, arith, rules}, lemmas.List.{at_drop_more, Folds.list_all_at}}, specs.List.list_all}
use Rattle.schedule.{specs.{declared.hop.Hop.Hop, Placed.PlacementValue, Sends.is_hop_below, Running.after, Solving.moves}, proofs.Wasting.{in_run, before_is, hop_in_range, move_is}}
use Rattle.schedule.proofs.tight.all_move.Goals as goal

abbrev none : Hop
none = record { chunk = 0; from = 0; to = 0; step = 0 }

pub index-requires : goal.index-requires
index-requires c =
    let low = in_run c.args.pre.now c.args.schedule.now c.in_ok-run.run'.items c.sends-hop-items.result.now c.in_ok-run.ensures c.sends-hop-items.ensures.sends c.sends-hop-items.ensures.limits c.requires c.loop-hop.hop-index none
    c.loop-hop-test.true in
    omega (arith, low, c.in_ok-run.run'.ok.0)

pub moves-requires : goal.moves-requires
moves-requires c =
    let pre = c.args.pre.now in
    let s = c.args.schedule.now in
    let sends = c.sends-hop-items.result.now in
    let i = c.loop-hop.hop-index in
    let run = c.in_ok-run.run'.items in
    let is = c.index.ensures ∙ before_is pre s run sends c.in_ok-run.ensures c.sends-hop-items.ensures.sends c.sends-hop-items.ensures.limits c.requires i none c.loop-hop-test.true c.index.result.now in
    subst (λ (p : PlacementValue). is_hop_below p.chunks p.nodes (get_or sends i none) ≡ true) (sym is)
    (hop_in_range pre s run sends c.in_ok-run.ensures c.sends-hop-items.ensures.sends c.sends-hop-items.ensures.limits c.requires i none c.loop-hop-test.true)

pub returns-then-not-moves : goal.returns-then-not-moves
returns-then-not-moves c =
    let p : Hop → Bool = λ h. moves (after c.args.pre.now c.args.schedule.now (h.step - 1)) h in
    let is = move_is c.args.pre.now c.args.schedule.now c.in_ok-run.run'.items c.sends-hop-items.result.now c.in_ok-run.ensures c.sends-hop-items.ensures.sends c.sends-hop-items.ensures.limits c.requires c.loop-hop.hop-index none c.loop-hop-test.true c.index.result.now c.moves.result c.index.ensures c.moves.ensures in
    let stays : c.moves.result ≡ false = search rules in
    sym (ap (list_all p) (sym c.sends-hop-items.ensures.sends) ∙ list_all_at p c.sends-hop-items.result.now c.loop-hop.hop-index none c.loop-hop-test.true (sym is ∙ stays))

pub loop-hop-preserved : goal.loop-hop-preserved
loop-hop-preserved c =
    let sends = c.sends-hop-items.result.now in
    let i = c.loop-hop.hop-index in
    let p : Hop → Bool = λ h. moves (after c.args.pre.now c.args.schedule.now (h.step - 1)) h in
    let is = move_is c.args.pre.now c.args.schedule.now c.in_ok-run.run'.items sends c.in_ok-run.ensures c.sends-hop-items.ensures.sends c.sends-hop-items.ensures.limits c.requires i none c.loop-hop-test.true c.index.result.now c.moves.result c.index.ensures c.moves.ensures in
    let goes : c.moves.result ≡ true = search rules in
    ap (λ b. b && list_all p (drop (i + 1) sends)) (sym goes ∙ is) ∙ sym (at_drop_more (list_all p) sends i none c.loop-hop-test.true) ∙ c.loop-hop.invariant
