-- Tokens that are spelled are taken, and give back what they spell.
use Rattle.std.proofs.{Common.{◌≡◌, ◌≢◌, ℕ, suc, ◌<◌, ◌≤◌, ◌^◌, true, List, [], ◌∷◌, ◌++◌, length, get_or, Option, Some, Result, Ok, refl, ap, ◌∙◌, arith, decimal, nat_eq, nat_le}, Math.Seq.drop-append_seam}
use Rattle.std.{proofs.lemmas.{Bool.{Decides.Decides-eqb, and_from, cond-true, le-leb, ne_eqb}, Fmt.{decimal_is_IsNumeral, decimal_nonempty}, Slice.Eq.starts_is, Str.Parse.digit_at}, specs.List.list_all}
use Rattle.text_lines.{specs.Check.{◌>>=◌, need}, proofs.{Distinct.AreDistinct, Numbers.{up_to_some, zero_not}}}
use Rattle.topology_text.{specs.{Spelling.name_at, Reading.node_of}, proofs.Links.node_again}
use Rattle.report_form.specs.{declared.fault.ReportCode.TheVariants.BadLine, Fields.{is_digit, is_number, any_number, small_number, next_word, next_keyed, next_number, next_node}}

-- one step that passes, and then the rest
pub ok_then : {A B C : Type 0} {x : A} {y : B} (r : Result A C) (f : A → Result B C) → r ≡ Ok x → f x ≡ Ok y → (r >>= f) ≡ Ok y
ok_then r f one two = ap (λ z. z >>= f) one ∙ two

-- ---- one token

-- a token that is read so is taken, and those behind it are left
pub word_again : {A : Type 0} (read : List ℕ → Option A) (w : List ℕ) (ws : List (List ℕ)) (x : A) → read w ≡ Some x → next_word read (w ∷ ws) ≡ Ok (x, ws)
word_again read w ws x e = ok_then _ _ (ap (λ o. need o BadLine) e) refl

-- a key and a value that is read so
pub keyed_again : {A : Type 0} (key : List ℕ) (read : List ℕ → Option A) (value : List ℕ) (rest : List (List ℕ)) (x : A) → read value ≡ Some x → next_keyed key read ((key ++ value) ∷ rest) ≡ Ok (x, rest)
keyed_again key read value rest x e = grind (arith, starts_is, Decides-eqb, nat_eq, word_again, cond-true, drop-append_seam)

-- ---- numbers and names

pub small_again : (n : ℕ) → n ≤ 65535 → small_number (decimal n) ≡ Some n
small_again n low = up_to_some 65535 n (decimal n) (omega arith) refl low

pub number_again : (n : ℕ) (rest : List (List ℕ)) → n ≤ 65535 → next_number (decimal n ∷ rest) ≡ Ok (n, rest)
number_again n rest low = word_again small_number (decimal n) rest n (small_again n low)

pub next_node_again : (names : List (List ℕ)) (node : ℕ) (rest : List (List ℕ)) → AreDistinct names → node < length names → next_node names (name_at names node ∷ rest) ≡ Ok (node, rest)
next_node_again names node rest distinct below = word_again (node_of names) (name_at names node) rest node (node_again names node distinct below)

digits_pass : (bs : List ℕ) → ((i : ℕ) → i < length bs → (48 ≤ get_or bs i 0) × (get_or bs i 0 ≤ 57)) → list_all is_digit bs ≡ true
digits_pass [] digit = refl
digits_pass (b ∷ bs) digit =
    let here = digit 0 (omega arith) in
    and_from (is_digit b) (list_all is_digit bs) (and_from (nat_le 48 b) (nat_le b 57) (le-leb 48 b here.0) (le-leb b 57 here.1))
    (digits_pass bs (λ i h. digit (suc i) (omega (arith, h))))

-- digits, of which the first is no 0 unless it is alone
number_pass : (bs : List ℕ) → 0 < length bs → list_all is_digit bs ≡ true → (1 < length bs → get_or bs 0 0 ≢ 48) → is_number bs ≡ true
number_pass bs some digits lead = grind (arith, and_from, ne_eqb)

pub any_number_again : (n : ℕ) → n < 2 ^ 64 → any_number (decimal n) ≡ Some n
any_number_again n small = grind (arith, decimal_is_IsNumeral, digits_pass, digit_at, number_pass, decimal_nonempty, zero_not, cond-true)
