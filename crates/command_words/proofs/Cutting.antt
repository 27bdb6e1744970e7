-- A word cut at its first `=`.
use Rattle.std.proofs.{Common.{◌≡◌, ◌≢◌, ◌==◌, ◌<◌, ◌+◌, ℕ, refl, false, List, [], ◌∷◌, length, get_or, Option, Some, None, arith, Bor}, lemmas.{List.Folds.list_any_at, Str.Pattern.{IsSplitOnceResult, split_once_first, split_parts}}}
use Rattle.std.{proofs.lemmas.{List.Sums.passes_at_first, Bool.Decides.nat_tests, Grind.common_steps}, specs.{List.{list_any, before_first, after_first, position_or_len}, Option.option_map}}
use Rattle.command_words.specs.Words.{key_and_value}

-- there is no cut where no byte is `=`
cut_none : (word : List ℕ) → ((i : ℕ) → i < length word → get_or word i 0 ≢ 61) → list_any (λ b. b == 61) word ≡ false
cut_none [] lacks = refl
cut_none (b ∷ bs) lacks =
    let other : b ≢ 61 = lacks 0 (grind (arith, common_steps)) in
    let test : (b == 61) ≡ false = grind (arith, nat_tests) in
    rw test (cut_none bs (λ i lt. let later = lacks (i + 1) (grind (arith, common_steps)) in grind (arith, common_steps)))

-- the parts at the first `=`
cut_some : (word key value : List ℕ) → position_or_len (λ b. b == 61) word < length word → key ≡ before_first (λ b. b == 61) word → value ≡ after_first (λ b. b == 61) word → Some (key, value) ≡ key_and_value word
cut_some word key value at before after =
    let any = list_any_at (λ b. b == 61) word (position_or_len (λ b. b == 61) word) 0 at (passes_at_first (λ b. b == 61) word 0 at) in
    rw (any, before, after) refl

-- the parts that 'split_once' gives
pub cut_split : (word : List ℕ) (r : Option (Bor (List ℕ) × Bor (List ℕ))) → IsSplitOnceResult 61 word r → option_map (λ parts. (parts.0.now, parts.1.now)) r ≡ key_and_value word
cut_split word None split = rw (cut_none word (split_parts 61 word None split (omega arith))) refl
cut_split word (Some parts) split =
    let found = split_once_first 61 word (Some parts) split (omega arith) in
    cut_some word parts.0.now parts.1.now found.0 found.1 found.2
