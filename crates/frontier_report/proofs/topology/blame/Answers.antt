use Rattle.std.{proofs.Common.{◌≡◌, ℕ, suc, ◌+◌, ◌-◌, ◌^◌, ◌<◌, true, List, [], ◌∷◌, length, drop, slice_get, Option, None, Some, IfSome, refl, ◌∙◌, arith}, specs.Option.is_some}
use Rattle.text_lines.specs.Text.{Row, Place, behind}
use Rattle.frontier_report.proofs.topology.blame.Goals as goal

-- what is said of an item that is there
some_has : {A : Type 0} (o : Option A) (P : Type 0) → is_some o ≡ true → IfSome o (λ _. P) → P
some_has None P e h = absurd (cc)
some_has (Some x) P e h = h

row_nearer : (rows : List Row) (i k : ℕ) → k ≡ suc i → slice_get (drop 1 rows) i ≡ slice_get rows k
row_nearer [] i k e = refl
row_nearer (row ∷ rows) i k e = rw e refl

-- behind a line, each later row is one nearer
row_behind : (p q : Place) (n : ℕ) → q ≡ behind p → p.number < n → slice_get q.rows (n - q.number) ≡ slice_get p.rows (n - p.number)
row_behind p q n moved later = rw moved (row_nearer p.rows (n - (p.number + 1)) (n - p.number) (omega arith))

one_fewer : (m n : ℕ) → m + 1 ≡ n → m < n
one_fewer m n e = omega arith

room_below : (k n : ℕ) → k < n → n < 2 ^ 32 → k + 1 < 2 ^ 32
room_below k n later fits = omega arith

pub next-requires : goal.next-requires
next-requires c = room_below c.loop-lines.lines.place.number c.args.number (rw c.number.ensures at c.loop-lines-test.true) c.ranges.number.fits

pub loop-lines-init : goal.loop-lines-init
loop-lines-init c = rw c.new-lines.ensures.place refl

pub loop-lines-preserved : goal.loop-lines-preserved
loop-lines-preserved c =
    let p = c.loop-lines.lines.place in
    let q = c.next.new.self.place in
    row_behind p q c.args.number (some_has c.next.result (q ≡ behind p) c.if-is_none.ensures c.next.ensures.moves) (rw c.number.ensures at c.loop-lines-test.true) ∙ c.loop-lines.invariant

pub loop-lines-smaller : goal.loop-lines-smaller
loop-lines-smaller c =
    let m = length c.next.new.self.place.rows in
    let n = length c.loop-lines.lines.place.rows in
    one_fewer m n (some_has c.next.result (m + 1 ≡ n) c.if-is_none.ensures c.next.ensures.fewer)
