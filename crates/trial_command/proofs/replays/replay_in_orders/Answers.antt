use Rattle.std.proofs.{Common.{◌≡◌, ℕ, ◌+◌, ◌*◌, ◌<◌, List, [], ◌∷◌, length, map, get_or, sym, ap, ◌∙◌, subst, arith, All}, lemmas.List.length-map}
use Rattle.node_programs.specs.Runs.{chosen, operations}
use Rattle.replay_text.specs.Showing.{machine_of, shown_in}
use Rattle.trial_command.proofs.replays.replay_in_orders.Goals as goal

as_many : {X Y : Type 0} (f : X → List ℕ) (g : Y → List ℕ) (xs : List X) (ys : List Y) → map f xs ≡ map g ys → length xs ≡ length ys
as_many f g xs ys same = sym (length-map xs f) ∙ ap length same ∙ length-map ys g

-- the element at a place of a list each of whose elements has this number
at_each : {X : Type 0} (f : X → ℕ) (n : ℕ) (xs read : List X) (i : ℕ) (x : X) → read ≡ xs → All (λ y. f y ≡ n) xs → i < length read → x ≡ get_or read i x → f x ≡ n
at_each f n xs read i x same all inside is = ap f is ∙ subst (All (λ y. f y ≡ n)) (sym same) all i x inside

once_more : (i n a b d : ℕ) → a ≡ i * n → d ≡ n → b ≡ a + d → b ≡ (i + 1) * n
once_more i n a b d so_far own more = grind arith

pub loop-moves-preserved : goal.loop-moves-preserved
loop-moves-preserved c =
    let n = operations (machine_of (shown_in c.args.report.now (c.args.part, c.args.point.now))) in
    let own : length c.moves-item.result.items ≡ n = at_each (λ moves. length moves.items) n c.in_ok-runs.runs.items c.deref-moves-items.result.now c.loop-moves.moves-index c.moves-item.result c.deref-moves-items.ensures.value c.in_ok-runs.ensures.count c.loop-moves-test.true c.moves-item.is in
    let events : c.len.result ≡ n = omega (arith, own, c.len.ensures, c.moves-item.result.ok) in
    once_more c.loop-moves.moves-index n c.loop-moves.events c.in_ok-events.events c.len.result c.loop-moves.invariant events c.in_ok-events.ensures

pub returns : goal.returns
returns c =
    let machine = machine_of (shown_in c.args.report.now (c.args.part, c.args.point.now)) in
    let four : length c.in_ok-runs.runs.items ≡ 4 = as_many (λ moves. moves.items) (chosen machine) c.in_ok-runs.runs.items (0 ∷ 1 ∷ 2 ∷ 3 ∷ []) c.in_ok-runs.ensures.moves in
    let all : length c.deref-moves-items.result.now ≡ 4 = ap length c.deref-moves-items.ensures.value ∙ four in
    let end : c.loop-moves.moves-index ≡ 4 = omega (arith, all, c.loop-moves-test.false, c.loop-moves.auto.moves-index-end) in
    c.loop-moves.invariant ∙ ap (λ i. i * operations machine) end
