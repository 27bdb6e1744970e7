-- Two names of files are never spelled alike.
use Rattle.std.proofs.{Common.{◌≡◌, ◌≢◌, ◌∙◌, refl, sym, ap, ℕ, ◌<◌, ◌≤◌, List, [], ◌∷◌, ◌++◌, drop, get_or, arith, append_assoc, IsTrue, codes, decimal}, lemmas.{Fmt.{decimal_injective, decimal_is_IsNumeral}, List.append_cancel_left}}
use Rattle.std.specs.{Char.digit_value, Str.Parse.{AllDigits, IsNumeral}}
use Rattle.outer_ports.specs.{declared.{part.Part.{Part, TheVariants.{Whole, Reduce, Gather, Joined}}, proof_name.{FileKind.{FileKind, TheVariants.{Cnf, Lrat, Partial}}, ProofName.ProofName}}, Files.{file_ending, file_word, part_prefix}}
use Rattle.outer_ports.specs.Folders.{fresh_in, in_range, path_in}

heads_less : (m n : ℕ) (us vs : List ℕ) → m < n → m ∷ us ≡ n ∷ vs → ⊥
heads_less m n us vs less e = let same : m ≡ n = ap (λ l. get_or l 0 0) e in omega (arith, same, less)

abbrev Lacks : ℕ → List ℕ → Type 0
Lacks x [] = Unit {0}
Lacks x (y ∷ ys) = (y ≢ x) × Lacks x ys

digits_lack : (x : ℕ) → (digit_value x < 10 → ⊥) → (ds : List ℕ) → AllDigits 10 ds → Lacks x ds
digits_lack x never [] all = tt
digits_lack x never (d ∷ ds) all = (λ same. never (rw (← same) all.0), digits_lack x never ds all.1)

-- what stands before the first x, and behind it
split_at : (x : ℕ) (xs ys us vs : List ℕ) → Lacks x xs → Lacks x ys → xs ++ x ∷ us ≡ ys ++ x ∷ vs → (xs ≡ ys) × (us ≡ vs)
split_at x [] [] us vs la lb e = (refl, ap (drop 1) e)
split_at x [] (b ∷ ys) us vs la lb e = absurd (lb.0 (sym (ap (λ l. get_or l 0 0) e)))
split_at x (a ∷ xs) [] us vs la lb e = absurd (la.0 (ap (λ l. get_or l 0 0) e))
split_at x (a ∷ xs) (b ∷ ys) us vs la lb e = let (front, rest) = split_at x xs ys us vs la.1 lb.1 (ap (drop 1) e) in let same : a ≡ b = ap (λ l. get_or l 0 0) e in (rw (same, front) refl, rest)

no_dash : digit_value 45 < 10 → ⊥
no_dash small = omega arith

numeral : (n : ℕ) → n ≤ 255 → IsNumeral 10 (decimal n)
numeral n small = (decimal_is_IsNumeral n (omega arith)).0

abbrev spelled : FileKind → ℕ → ℕ → ℕ → List ℕ
spelled kind s r c = decimal s ++ 45 ∷ (decimal r ++ 45 ∷ (decimal c ++ file_ending kind))

word_is : (name : ProofName) → file_word name ≡ part_prefix name.part ++ spelled name.kind name.s name.r name.c
word_is name = simp append_assoc

abbrev IsDigitFirst : List ℕ → Type 0
IsDigitFirst x = digit_value (get_or x 0 0) < 10

first_digit : (ds more : List ℕ) → IsNumeral 10 ds → IsDigitFirst (ds ++ more)
first_digit [] more numeral = absurd (omega (arith, numeral.0))
first_digit (d ∷ ds) more numeral = numeral.1.0

no_letter : (x : List ℕ) (letter : ℕ) → IsDigitFirst x → get_or x 0 0 ≡ letter → (digit_value letter < 10 → ⊥) → ⊥
no_letter x letter digit same never = never (rw (← same) digit)

prefixes_apart : (p q : Part) (x y : List ℕ) → IsDigitFirst x → IsDigitFirst y → part_prefix p ++ x ≡ part_prefix q ++ y → (p ≡ q) × (x ≡ y)
prefixes_apart Whole Whole x y dx dy e = (refl, e)
prefixes_apart Whole Reduce x y dx dy e = absurd (no_letter x 114 dx (ap (λ l. get_or l 0 0) e) (λ small. omega arith))
prefixes_apart Whole Gather x y dx dy e = absurd (no_letter x 103 dx (ap (λ l. get_or l 0 0) e) (λ small. omega arith))
prefixes_apart Whole Joined x y dx dy e = absurd (no_letter x 106 dx (ap (λ l. get_or l 0 0) e) (λ small. omega arith))
prefixes_apart Reduce Whole x y dx dy e = absurd (no_letter y 114 dy (sym (ap (λ l. get_or l 0 0) e)) (λ small. omega arith))
prefixes_apart Reduce Reduce x y dx dy e = (refl, ap (drop 7) e)
prefixes_apart Reduce Gather x y dx dy e = absurd (heads_less 103 114 _ _ (omega arith) (sym e))
prefixes_apart Reduce Joined x y dx dy e = absurd (heads_less 106 114 _ _ (omega arith) (sym e))
prefixes_apart Gather Whole x y dx dy e = absurd (no_letter y 103 dy (sym (ap (λ l. get_or l 0 0) e)) (λ small. omega arith))
prefixes_apart Gather Reduce x y dx dy e = absurd (heads_less 103 114 _ _ (omega arith) e)
prefixes_apart Gather Gather x y dx dy e = (refl, ap (drop 7) e)
prefixes_apart Gather Joined x y dx dy e = absurd (heads_less 103 106 _ _ (omega arith) e)
prefixes_apart Joined Whole x y dx dy e = absurd (no_letter y 106 dy (sym (ap (λ l. get_or l 0 0) e)) (λ small. omega arith))
prefixes_apart Joined Reduce x y dx dy e = absurd (heads_less 106 114 _ _ (omega arith) e)
prefixes_apart Joined Gather x y dx dy e = absurd (heads_less 103 106 _ _ (omega arith) (sym e))
prefixes_apart Joined Joined x y dx dy e = (refl, ap (drop 7) e)

-- what stands behind the dot of a name
abbrev behind_dot : FileKind → List ℕ
behind_dot kind = drop 1 (file_ending kind)

ends_apart : (j k : FileKind) (c d : ℕ) → c ≤ 255 → d ≤ 255 → decimal c ++ file_ending j ≡ decimal d ++ file_ending k → (j ≡ k) × (c ≡ d)
ends_apart j k c d small small_too e =
    let (front, rest) = split_at 46 (decimal c) (decimal d) (behind_dot j) (behind_dot k) (digits_lack 46 (λ small. omega arith) (decimal c) (numeral c small).1) (digits_lack 46 (λ small. omega arith) (decimal d) (numeral d small_too).1) (by_kinds j k e) in
    (kinds j k rest, decimal_injective c d (omega arith) (omega arith) front)
  where
    by_kinds : (j k : FileKind) → decimal c ++ file_ending j ≡ decimal d ++ file_ending k → decimal c ++ 46 ∷ behind_dot j ≡ decimal d ++ 46 ∷ behind_dot k
    by_kinds Cnf Cnf e = e
    by_kinds Cnf Lrat e = e
    by_kinds Cnf Partial e = e
    by_kinds Lrat Cnf e = e
    by_kinds Lrat Lrat e = e
    by_kinds Lrat Partial e = e
    by_kinds Partial Cnf e = e
    by_kinds Partial Lrat e = e
    by_kinds Partial Partial e = e

    kinds : (j k : FileKind) → behind_dot j ≡ behind_dot k → j ≡ k
    kinds Cnf Cnf e = refl
    kinds Cnf Lrat e = absurd (heads_less 99 108 _ _ (omega arith) e)
    kinds Cnf Partial e = absurd (heads_less 99 112 _ _ (omega arith) e)
    kinds Lrat Cnf e = absurd (heads_less 99 108 _ _ (omega arith) (sym e))
    kinds Lrat Lrat e = refl
    kinds Lrat Partial e = absurd (heads_less 108 112 _ _ (omega arith) e)
    kinds Partial Cnf e = absurd (heads_less 99 112 _ _ (omega arith) (sym e))
    kinds Partial Lrat e = absurd (heads_less 108 112 _ _ (omega arith) (sym e))
    kinds Partial Partial e = refl

pub record InRange (name : ProofName) : Type 0 where
  pub s : name.s ≤ 255
  pub r : name.r ≤ 255
  pub c : name.c ≤ 255

pub range_of : (name : ProofName) → IsTrue (in_range name) → InRange name
range_of name range = record { s = grind arith; r = grind arith; c = grind arith }

abbrev named : FileKind → Part → ℕ → ℕ → ℕ → ProofName
named kind part s r c = record { kind = kind; part = part; s = s; r = r; c = c }

same_name : (a b : ProofName) → a.kind ≡ b.kind → a.part ≡ b.part → a.s ≡ b.s → a.r ≡ b.r → a.c ≡ b.c → a ≡ b
same_name a b kind part s r c = grind arith

pub words_apart : (a b : ProofName) → IsTrue (in_range a) → IsTrue (in_range b) → file_word a ≡ file_word b → a ≡ b
words_apart a b range range_too e = let ra = range_of a range in let rb = range_of b range_too in
    let (part, rest) = prefixes_apart a.part b.part (spelled a.kind a.s a.r a.c) (spelled b.kind b.s b.r b.c) (first_digit (decimal a.s) _ (numeral a.s ra.s)) (first_digit (decimal b.s) _ (numeral b.s rb.s)) (sym (word_is a) ∙ e ∙ word_is b) in
    let (steps, more) = split_at 45 (decimal a.s) (decimal b.s) _ _ (digits_lack 45 no_dash (decimal a.s) (numeral a.s ra.s).1) (digits_lack 45 no_dash (decimal b.s) (numeral b.s rb.s).1) rest in
    let (rounds, last) = split_at 45 (decimal a.r) (decimal b.r) _ _ (digits_lack 45 no_dash (decimal a.r) (numeral a.r ra.r).1) (digits_lack 45 no_dash (decimal b.r) (numeral b.r rb.r).1) more in let (kind, c) = ends_apart a.kind b.kind a.c b.c ra.c rb.c last in
    let s = decimal_injective a.s b.s (omega (arith, ra.s)) (omega (arith, rb.s)) steps in let r = decimal_injective a.r b.r (omega (arith, ra.r)) (omega (arith, rb.r)) rounds in same_name a b kind part s r c

pub paths_apart : (folder : List ℕ) (a b : ProofName) → IsTrue (in_range a) → IsTrue (in_range b) → a ≢ b → path_in folder a ≢ path_in folder b
paths_apart folder a b range range_too apart same = apart (words_apart a b range range_too (append_cancel_left (folder ++ codes "/") (file_word a) (file_word b) same))

pub path_not_fresh : (folder : List ℕ) (a : ProofName) → IsTrue (in_range a) → path_in folder a ≢ fresh_in folder
path_not_fresh folder a range same =
    let word : file_word a ≡ codes "new" = ap (drop 1) (append_cancel_left folder (codes "/" ++ file_word a) (codes "/new") (sym (append_assoc folder (codes "/") (file_word a)) ∙ same)) in
    by_part a.part (sym (word_is a) ∙ word)
  where
    by_part : (p : Part) → part_prefix p ++ spelled a.kind a.s a.r a.c ≡ codes "new" → ⊥
    by_part Whole e = no_letter (spelled a.kind a.s a.r a.c) 110 (first_digit (decimal a.s) (45 ∷ (decimal a.r ++ 45 ∷ (decimal a.c ++ file_ending a.kind))) (numeral a.s (range_of a range).s)) (ap (λ l. get_or l 0 0) e) (λ small. omega arith)
    by_part Reduce e = absurd (heads_less 110 114 _ _ (omega arith) (sym e))
    by_part Gather e = absurd (heads_less 103 110 _ _ (omega arith) e)
    by_part Joined e = absurd (heads_less 106 110 _ _ (omega arith) e)
