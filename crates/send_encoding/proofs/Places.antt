-- A table of the numbers of links.
use Rattle.std.{proofs.{Common.{◌≡◌, ℕ, ◌+◌, ◌*◌, ◌/◌, ◌%◌, ◌<◌, List, get_or, map, ap, ◌∙◌, arith}, lemmas.{Nat.{div-mul-add, mod-mul-add}, List.FromFn.get_or-map-range_with_len}}, specs.List.{position_or_len, range_with_len}}
use Rattle.schedule.specs.Placed.{same_pair}
use Rattle.send_encoding.specs.Variables.{numbers_among}

pub numbered : (links : List (ℕ × ℕ)) (from to : ℕ) (numbers : List ℕ) (d : ℕ) → from < 16 → to < 16 → numbers ≡ numbers_among links → get_or numbers (from * 16 + to) d ≡ position_or_len (same_pair (from, to)) links
numbered links from to numbers d low few is =
    let k : ℕ = from * 16 + to in
    ap (λ ns. get_or ns k d) is ∙ get_or-map-range_with_len (λ j. position_or_len (same_pair (j / 16, j % 16)) links) 0 256 k k d (omega (arith, low, few)) (omega arith)
    ∙ λ i. position_or_len (same_pair (div-mul-add from 16 to few i, mod-mul-add from 16 to few i)) links

pub table_ends : (links : List (ℕ × ℕ)) (numbers : List ℕ) (n : ℕ) → n ≡ 256 → numbers ≡ map (λ k. position_or_len (same_pair (k / 16, k % 16)) links) (range_with_len 0 n) → numbers ≡ numbers_among links
table_ends links numbers n end is = is ∙ ap (λ m. map (λ k. position_or_len (same_pair (k / 16, k % 16)) links) (range_with_len 0 m)) end
