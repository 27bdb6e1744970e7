-- A link's word, cut at its `>`.
use Rattle.std.{proofs.{Common.{◌≡◌, ◌≢◌, ℕ, ◌+◌, ◌<◌, ◌≤◌, eqb, List, [], ◌∷◌, length, get_or, take, slice_range, refl, ap, ◌∙◌, subst, arith, Result, Ok, Err}, lemmas.List.{take_rest, Splits.length-slice_split}}, specs.List.slice_split}
use Rattle.text_lines.proofs.Rows.{parts_step, parts_end_at}
use Rattle.topology_text.specs.{declared.fault.TopologyCode.{TopologyCode, TheVariants.BadLine}, Reading.both_sides}

abbrev pub pieces : List ℕ → List (List ℕ)
pieces word = slice_split (λ b. eqb b 62) word

abbrev pub sides : List ℕ → Result (List ℕ × List ℕ) TopologyCode
sides word = both_sides (pieces word)

-- no `>` from the one place on and before the other
abbrev pub IsFree : List ℕ → ℕ → ℕ → Type 0
IsFree word from to = (k : ℕ) → from ≤ k → k < to → get_or word k 0 ≢ 62

pub no_side : (word : List ℕ) (at : ℕ) → at ≡ length word → IsFree word 0 at → sides word ≡ Err BadLine
no_side word at end free =
    let all : slice_range word 0 (length word) ≡ word = take_rest word 0 in
    let cut = subst (λ (w : List ℕ). pieces w ≡ slice_range word 0 at ∷ []) all (parts_end_at 62 word 0 at (length word) (omega arith) (omega arith) (omega arith) (omega arith) free) in
    ap both_sides cut

-- the pieces behind the first `>`
after_first : (word : List ℕ) (at : ℕ) → at < length word → IsFree word 0 at → get_or word at 0 ≡ 62 → pieces word ≡ slice_range word 0 at ∷ pieces (slice_range word (at + 1) (length word))
after_first word at within free here =
    let all : slice_range word 0 (length word) ≡ word = take_rest word 0 in
    subst (λ (w : List ℕ). pieces w ≡ slice_range word 0 at ∷ pieces (slice_range word (at + 1) (length word))) all (parts_step 62 word 0 at (length word) (omega arith) within (omega arith) free here)

more : (a b : List ℕ) (rest : List (List ℕ)) → 0 < length rest → both_sides (a ∷ b ∷ rest) ≡ Err BadLine
more a b [] some = absurd (omega arith)
more a b (c ∷ rest) some = refl

pub three_sides : (word : List ℕ) (at end : ℕ) → at < length word → IsFree word 0 at → get_or word at 0 ≡ 62 → at + 1 ≤ end → end < length word → IsFree word (at + 1) end → get_or word end 0 ≡ 62 → sides word ≡ Err BadLine
three_sides word at end within free here ordered before free_too there =
    let second = parts_step 62 word (at + 1) end (length word) ordered before (omega arith) free_too there in
    let rest = slice_range word (end + 1) (length word) in
    ap both_sides (after_first word at within free here ∙ ap (λ ps. slice_range word 0 at ∷ ps) second)
    ∙ more (slice_range word 0 at) (slice_range word (at + 1) end) (pieces rest) (omega (arith, length-slice_split (λ b. eqb b 62) rest))

pub two_sides : (word : List ℕ) (at end : ℕ) → at < length word → IsFree word 0 at → get_or word at 0 ≡ 62 → at + 1 ≤ end → end ≤ length word → length word ≤ end → IsFree word (at + 1) end → sides word ≡ Ok (take at word, slice_range word (at + 1) (length word))
two_sides word at end within free here ordered inside last free_too =
    let whole : end ≡ length word = omega arith in
    let second = parts_end_at 62 word (at + 1) end (length word) ordered inside last (omega arith) free_too in
    let front : slice_range word 0 at ≡ take at word = ap (λ n. take n word) (omega arith) in
    ap both_sides (after_first word at within free here ∙ ap (λ ps. slice_range word 0 at ∷ ps) second)
    ∙ ap (λ a. Ok (a, slice_range word (at + 1) end)) front ∙ ap (λ n. Ok (take at word, slice_range word (at + 1) n)) whole
