-- The checks of a line's shape pass exactly where the line has the shape.
use Rattle.std.proofs.Common.{◌≡◌, ℕ, Bool, true, false, ◌&&◌, ◌||◌, not, List, [], ◌∷◌, ◌++◌, map, length, drop, Option, None, Some, Result, Ok, Err, refl, sym, ap, ◌∙◌, subst, codes, bytes_eq, find, if◌then◌else◌, is_some, nat_eq, arith}
use Rattle.std.proofs.{lemmas.{Bool.{and_parts, ltb-true, lt-ltb, leb-true, le-leb, eqb-true, eqb-false, Decides.Decides-eqb}, Option.same_Some, Slice.Eq.{bytes_eq-Decides, starts_is}}, Math.Bool.and-true}
use Rattle.std.specs.{List.{list_any, starts_with}}
use Rattle.text_lines.{specs.{Check.{◌>>=◌, refuse, need}, Repeated.begins}, proofs.Gives.{Gives, gives_done, gives_fail, gives_then}}
use Rattle.collective_spec.specs.{declared.kind.Kind.Kind, Kinds.{word_of, takes_root}}
use Rattle.candidate_order.specs.{declared.{candidate.Candidate.Candidate}, Ranges.LimitsValue}
use Rattle.topology_text.specs.{Names.{is_name, name_of}, Reading.node_of}
use Rattle.report_form.specs.{Points.{candidate_from, mark_named, head_from, joined_head_from, numbers_from, rounds_from, send_from}, Fields.{any_number, small_number, next_word, next_keyed, fixed_word, next_number, next_node, no_more}}
use Rattle.report_form.specs.{SynthLine.{AskedValue, kind_named, kinds_of, limits_from, root_from, pruning_from, asked_from}, declared.fault.ReportCode.{ReportCode, TheVariants.BadLine}, Reading.{refuted_from, unknown_from}}
use Rattle.report_form.proofs.{SynthLineTaken.{found_is, limits, pruned, asked}, Shapes.candidate}
use Rattle.report_laws.{specs.Shapes.{Token, Word, Any, May, has_shape, small, is_decimal, key_with, asked_shape, candidate_shape, send_shape}, proofs.SynthLineAgain.{kind_back, rooted}}

-- the check passes where the test holds, and else says that the line is bad
abbrev pub Told : {A : Type 0} → Bool → Result A ReportCode → Type 0
Told {A} holds r = Gives (λ (code : ReportCode). (holds ≡ false) × (code ≡ BadLine)) (λ (x : A). holds ≡ true) r

told_bad : {A : Type 0} {holds : Bool} → holds ≡ false → Told {A = A} holds (Err BadLine)
told_bad is = gives_fail BadLine (is, refl)

-- the same of the test of a shape
pub record Shaped {A : Type 0} (shape : List Token) (words : List (List ℕ)) (r : Result A ReportCode) : Type 0 where
  pub told : Told (has_shape shape words) r

-- ---- one place

assoc_told : {A B C : Type 0} {shape : List Token} {words : List (List ℕ)} (r : Result A ReportCode) (g : A → Result B ReportCode) (f : B → Result C ReportCode) → Shaped shape words (r >>= (λ x. g x >>= f)) → Shaped shape words ((r >>= g) >>= f)
assoc_told {A} {B} {C} {shape} {words} r g f told = grind arith

-- a value that is made of what is read
made_told : {A B : Type 0} {shape : List Token} {words : List (List ℕ)} (r : Result A ReportCode) (g : A → B) → Shaped shape words r → Shaped shape words (r >>= (λ x. Ok (g x)))
made_told r g s = record { told = gives_then r _ s.told (λ code bad. bad) (λ x read is. gives_done (g x) is) }

word_told : {A B : Type 0} (read : List ℕ → Option A) (passes : List ℕ → Bool) (shape : List Token) (f : A × List (List ℕ) → Result B ReportCode) → ((w : List ℕ) → passes w ≡ is_some (read w)) → ((x : A) (ws : List (List ℕ)) → Shaped shape ws (f (x, ws)))
    → (words : List (List ℕ)) → Shaped (Any passes ∷ shape) words (next_word read words >>= f)
word_told {A} {B} read passes shape f same next words = grind (arith, told_bad)

fixed_told : {B : Type 0} (word : List ℕ) (shape : List Token) (f : List (List ℕ) → Result B ReportCode) → ((ws : List (List ℕ)) → Shaped shape ws (f ws)) → (words : List (List ℕ)) → Shaped (Word word ∷ shape) words (fixed_word word words >>= f)
fixed_told {B} word shape f next words = grind (arith, told_bad)

end_told : {B : Type 0} (y : B) (words : List (List ℕ)) → Shaped [] words (no_more words >>= (λ u. Ok y))
end_told {B} y words = grind (arith, gives_done, told_bad)

number_told : {B : Type 0} (shape : List Token) (f : ℕ × List (List ℕ) → Result B ReportCode) → ((n : ℕ) (ws : List (List ℕ)) → Shaped shape ws (f (n, ws))) → (words : List (List ℕ)) → Shaped (small ∷ shape) words (next_number words >>= f)
number_told shape f next words = word_told small_number (λ w. is_some (small_number w)) shape f (λ w. refl) next words

node_told : {B : Type 0} (names : List (List ℕ)) (shape : List Token) (f : ℕ × List (List ℕ) → Result B ReportCode) → ((n : ℕ) (ws : List (List ℕ)) → Shaped shape ws (f (n, ws)))
    → (words : List (List ℕ)) → Shaped (Any (λ w. is_some (node_of names w)) ∷ shape) words (next_node names words >>= f)
node_told names shape f next words = word_told (node_of names) (λ w. is_some (node_of names w)) shape f (λ w. refl) next words

-- what a test lets through
some_if : {A : Type 0} (b : Bool) (x : A) → b ≡ is_some (if b then Some x else None)
some_if {A} b x = grind arith

any_passes : (w : List ℕ) → is_decimal w ≡ is_some (any_number w)
any_passes w = grind (arith, some_if, ltb-true, le-leb, leb-true, eqb-false, lt-ltb, eqb-true, and-true)

keyed_told : {A B : Type 0} (key : List ℕ) (read : List ℕ → Option A) (passes : List ℕ → Bool) (shape : List Token) (f : A × List (List ℕ) → Result B ReportCode) → ((w : List ℕ) → passes w ≡ is_some (read w)) → ((x : A) (ws : List (List ℕ)) → Shaped shape ws (f (x, ws)))
    → (words : List (List ℕ)) → Shaped (key_with key passes ∷ shape) words (next_keyed key read words >>= f)
keyed_told {A} key read passes shape f same next words = grind (arith, word_told, is_some)

-- ---- candidates

candidate_told : {B : Type 0} (more : List Token) (f : Candidate × List (List ℕ) → Result B ReportCode) → ((x : Candidate) (ws : List (List ℕ)) → Shaped more ws (f (x, ws))) → (words : List (List ℕ)) → Shaped (small ∷ small ∷ small ∷ more) words (candidate_from words >>= f)
candidate_told more f next words =
    assoc_told (next_number words) _ f (number_told _ _ (λ s ws. assoc_told (next_number ws) _ f (number_told _ _ (λ r vs. assoc_told (next_number vs) _ f (number_told _ _ (λ c us. next (candidate s r c) us) vs)) ws)) words)

pub refuted_told : (words : List (List ℕ)) → Shaped (candidate_shape (codes "refuted") []) words (refuted_from words)
refuted_told words = fixed_told _ _ _ (λ ws. candidate_told _ _ (λ x vs. end_told x vs) ws) words

pub unknown_told : (words : List (List ℕ)) → Shaped (candidate_shape (codes "unknown") (Any is_decimal ∷ [])) words (unknown_from words)
unknown_told words = fixed_told _ _ _ (λ ws. candidate_told _ _ (λ x vs. word_told any_number is_decimal _ _ any_passes (λ n us. end_told _ us) vs) ws) words

-- the mark of a point of a frontier
abbrev is_mark : List ℕ → Bool
is_mark w = bytes_eq w (codes "optimal") || bytes_eq w (codes "open")

-- what stands behind the candidate of a point
abbrev pub mark_shape : Bool → List Token
mark_shape joined = if joined then Word (codes "joined") ∷ small ∷ [] else Any is_mark ∷ []

mark_passes : (w : List ℕ) → is_mark w ≡ is_some (mark_named w)
mark_passes w = grind (arith, bytes_eq, is_some)

pub head_told : (words : List (List ℕ)) → Shaped (candidate_shape (codes "point") (mark_shape false)) words (head_from words)
head_told words = fixed_told _ _ _ (λ ws. candidate_told _ _ (λ x vs. word_told mark_named is_mark _ _ mark_passes (λ n us. end_told _ us) vs) ws) words

pub joined_head_told : (words : List (List ℕ)) → Shaped (candidate_shape (codes "point") (mark_shape true)) words (joined_head_from words)
joined_head_told words = fixed_told _ _ _ (λ ws. candidate_told _ _ (λ x vs. fixed_told _ _ _ (λ us. number_told _ _ (λ n ts. end_told _ ts) us) vs) ws) words

-- ---- rounds and sends

-- as many numbers as there are tokens
abbrev pub rounds_shape : List (List ℕ) → List Token
rounds_shape words = Word (codes "rounds") ∷ map (λ w. small) (drop 1 words)

numbers_told : (ws : List (List ℕ)) → Shaped (map (λ w. small) ws) ws (numbers_from ws)
numbers_told [] = record { told = gives_done [] refl }
numbers_told (w ∷ ws) = grind (arith, is_some, told_bad, made_told, numbers_told ws)

pub rounds_told : (words : List (List ℕ)) → Shaped (rounds_shape words) words (rounds_from words)
rounds_told words = grind (arith, told_bad, numbers_told)

pub send_told : (names words : List (List ℕ)) → Shaped (send_shape names) words (send_from names words)
send_told names words = fixed_told _ _ _ (λ ws. number_told _ _ (λ c vs. node_told names _ _ (λ u us. node_told names _ _ (λ v ts. number_told _ _ (λ s rs. end_told _ rs) ts) us) vs) ws) words

-- ---- the words of a search

none_any : {A : Type 0} (K : A → Bool) (xs : List A) → ((x : A) → K x ≡ true → ⊥) → list_any K xs ≡ false
none_any K [] no_one = refl
none_any K (x ∷ xs) no_one = grind (arith, none_any K xs no_one)

-- the test of the one that is found
abbrev of_found : {A : Type 0} → (A → Bool) → Option A → Bool
of_found K None = false
of_found K (Some x) = K x

-- a test that only the one that is found can pass
found_any : {A : Type 0} (p K : A → Bool) (xs : List A) → ((x : A) → K x ≡ true → p x ≡ true) → ((x y : A) → p x ≡ true → p y ≡ true → x ≡ y) → list_any K xs ≡ of_found K (find p xs)
found_any p K [] only one = refl
found_any {A} p K (x ∷ xs) only one = grind (arith, none_any, found_any p K xs only one)

one_kind : (a b : Kind) → word_of a ≡ word_of b → a ≡ b
one_kind a b e = same_Some a b (sym (kind_back a) ∙ (ap (kind_named true) e ∙ kind_back b))

abbrev numbers_shape : List Token → List Token
numbers_shape more = key_with (codes "k=") is_decimal ∷ key_with (codes "steps=") is_decimal ∷ key_with (codes "chunks=") is_decimal ∷ key_with (codes "conflicts=") is_decimal ∷ more

limits_told : {B : Type 0} (more : List Token) (f : LimitsValue × List (List ℕ) → Result B ReportCode) → ((l : LimitsValue) (ws : List (List ℕ)) → Shaped more ws (f (l, ws))) → (words : List (List ℕ)) → Shaped (numbers_shape more) words (limits_from words >>= f)
limits_told more f next words =
    assoc_told (next_keyed (codes "k=") any_number words) _ f (keyed_told (codes "k=") any_number is_decimal _ _ any_passes (λ k ws. assoc_told (next_keyed (codes "steps=") any_number ws) _ f (keyed_told (codes "steps=") any_number is_decimal _ _ any_passes
    (λ s vs. assoc_told (next_keyed (codes "chunks=") any_number vs) _ f (keyed_told (codes "chunks=") any_number is_decimal _ _ any_passes (λ c us. assoc_told (next_keyed (codes "conflicts=") any_number us) _ f (keyed_told (codes "conflicts=") any_number is_decimal _ _ any_passes (λ n ts. next (limits k s c n) ts) us)) vs)) ws)) words)

abbrev root_shape : Bool → List Token → List Token
root_shape b more = (if b then key_with (codes "root=") is_name ∷ [] else []) ++ more

root_told : {B : Type 0} (b : Bool) (more : List Token) (f : Option (List ℕ) × List (List ℕ) → Result B ReportCode) → ((root : Option (List ℕ)) (ws : List (List ℕ)) → Shaped more ws (f (root, ws)))
    → (words : List (List ℕ)) → Shaped (root_shape b more) words ((if b then (next_keyed (codes "root=") name_of words >>= rooted) else Ok (None, words)) >>= f)
root_told {B} b more f next words = grind (arith, assoc_told, rooted, keyed_told, some_if)

abbrev said_shape : List Token
said_shape = May (codes "cuts=yes") ∷ May (codes "ordered=yes") ∷ []

pruning_told : (words : List (List ℕ)) → Shaped said_shape words (pruning_from words)
pruning_told words = grind (arith, end_told)

abbrev after_kind : Kind × List (List ℕ) → Result AskedValue ReportCode
after_kind kind = limits_from kind.1 >>= (λ l. root_from kind.0 l.1 >>= (λ root. pruning_from root.1 >>= (λ p. Ok (asked kind.0 (pruned l.0 p) root.0))))

-- what stands behind the kind
abbrev tail_shape : Kind → List Token
tail_shape kind = numbers_shape (root_shape (takes_root kind) said_shape)

tail_told : (kind : Kind) (words : List (List ℕ)) → Shaped (tail_shape kind) words (after_kind (kind, words))
tail_told kind words = limits_told _ _ (λ l ws. root_told (takes_root kind) _ _ (λ root vs. made_told _ _ (pruning_told vs)) ws) words

module _ (patterned : Bool) where
  abbrev kinds : List Kind
  kinds = kinds_of patterned

  -- the kind in the second word, and what follows it
  kind_told : (c : List ℕ) (ws : List (List ℕ)) → Told (list_any (λ k. bytes_eq c (codes "collective=" ++ word_of k) && has_shape (tail_shape k) ws) kinds) (next_keyed (codes "collective=") (kind_named patterned) (c ∷ ws) >>= after_kind)
  kind_told c ws = by_front (begins (codes "collective=") c) refl
    where
      value : List ℕ
      value = drop (length (codes "collective=")) c

      K : Kind → Bool
      K k = bytes_eq c (codes "collective=" ++ word_of k) && has_shape (tail_shape k) ws

      word_is : (k : Kind) → K k ≡ true → c ≡ codes "collective=" ++ word_of k
      word_is k h = (bytes_eq-Decides c (codes "collective=" ++ word_of k)).0 (and_parts (bytes_eq c (codes "collective=" ++ word_of k)) (has_shape (tail_shape k) ws) h).0

      named : Kind → Bool
      named k = bytes_eq (word_of k) value

      named_is : (k : Kind) → named k ≡ true → word_of k ≡ value
      named_is k h = (bytes_eq-Decides (word_of k) value).0 h

      only : (k : Kind) → K k ≡ true → named k ≡ true
      only k h = (bytes_eq-Decides (word_of k) value).1 (sym (ap (drop (length (codes "collective="))) (word_is k h)))

      front_is : begins (codes "collective=") c ≡ true → c ≡ codes "collective=" ++ value
      front_is h = (starts_is Decides-eqb c (codes "collective=") (starts_with nat_eq c (codes "collective=")) refl).0 h

      by_found : (o : Option Kind) → ((k : Kind) → o ≡ Some k → named k ≡ true) → begins (codes "collective=") c ≡ true → Told (of_found K o) ((need o BadLine >>= (λ x. Ok (x, ws))) >>= after_kind)
      by_found o is front = grind (arith, told_bad, bytes_eq-Decides, front_is, named_is, tail_told)

      by_front : (b : Bool) → begins (codes "collective=") c ≡ b → Told (list_any K kinds) ((need (if b then find named kinds else None) BadLine >>= (λ x. Ok (x, ws))) >>= after_kind)
      by_front true front = subst (λ b. Told b ((need (find named kinds) BadLine >>= (λ x. Ok (x, ws))) >>= after_kind)) (sym (found_any named K kinds only (λ a b x y. one_kind a b (named_is a x ∙ sym (named_is b y))))) (by_found (find named kinds) (λ k e. found_is named kinds k e) front)
      by_front false front = told_bad (none_any K kinds (λ k h. other k (word_is k h)))
        where
          other : (k : Kind) → c ≡ codes "collective=" ++ word_of k → ⊥
          other k is = let e : false ≡ true = sym front ∙ (starts_is Decides-eqb c (codes "collective=") (starts_with nat_eq c (codes "collective=")) refl).1 (word_of k) is in absurd (cc)

  pub asked_told : (words : List (List ℕ)) → Told (list_any (λ k. has_shape (asked_shape k) words) kinds) (asked_from patterned words)
  asked_told [] = told_bad (none_any (λ k. has_shape (asked_shape k) []) kinds (λ k h. absurd (cc)))
  asked_told (s ∷ ws) = by_first (bytes_eq s (codes "synth")) ws
    where
      by_first : (b : Bool) (vs : List (List ℕ)) → Told (list_any (λ k. b && has_shape (drop 1 (asked_shape k)) vs) kinds) ((refuse (not b) BadLine >>= (λ u. Ok vs)) >>= (λ a. next_keyed (codes "collective=") (kind_named patterned) a >>= after_kind))
      by_first false vs = told_bad (none_any (λ k. false) kinds (λ k h. absurd (cc)))
      by_first true [] = told_bad (none_any (λ k. false) kinds (λ k h. absurd (cc)))
      by_first true (c ∷ vs) = kind_told c vs
