-- How long the text is that values stand for: at most so many bytes for each value in them.
use Rattle.std.proofs.Common.{◌≡◌, ℕ, zero, suc, ◌+◌, ◌*◌, ◌/◌, ◌%◌, ◌≤◌, ◌==◌, Bool, true, false, List, [], ◌∷◌, ◌++◌, length, map, Option, Some, None, option_map, Ordering, Less, Equal, Greater, refl, ap, arith, length-append, Ok, decimal, if◌then◌else◌, nat_lt, nat_le}
use Rattle.std.proofs.{lemmas.{Bool.{and_parts, leb-true}, Grind.flat_map-append, List.append-nil}, Math.Nat.{mul-le-mul_left, mul-le-mul_right}}
use Rattle.std.specs.{Fmt.{digits, digits_onto, digit_glyph}, List.{AllByRecursion, flat_map, join_with_byte}, Ordering.match_ordering}
use Rattle.text_lines.{specs.Text.{line, text_of}, proofs.Words.join_fields}
use Rattle.topology_text.specs.Names.{is_name, name_of}
use Rattle.serde_json.specs.{Data.{Data, null, boolean, number, string, array, object, Items, no_items, item, Members, no_members, member}, Find.{get, get_member, as_str, as_array, as_object}}
use Rattle.json_values.specs.{Size.{size, items_size, members_size}, Shape.{◌>>=◌, ◌⊕◌, one, headed, name_in, field}, Forms.{each_read, row_read, same_keys}, Pieces.each_in, Answer.text_of_json}
use Rattle.json_values.proofs.{Size.size_of_value, Standing.stands_for}

-- the size of what is there, and 0 where nothing is
abbrev pub amount : {A : Type 0} → (A → ℕ) → Option A → ℕ
amount f None = 0
amount f (Some x) = f x

-- the length of the text, where there is one
abbrev pub len : {A : Type 0} → (A → List ℕ) → Option (List A) → ℕ
len shown o = amount (λ xs. length (flat_map shown xs)) o

-- at most so many bytes for each value
pub record Short {A : Type 0} (shown : A → List ℕ) (k : ℕ) (read : Data → Option (List A)) : Type 0 where
  pub most : (d : Data) → len shown (read d) ≤ k * size d

-- ---- what is read of what is found

pub found_most : {A B : Type 0} (f : A → ℕ) (g : B → ℕ) (k n : ℕ) (o : Option A) (next : A → Option B) → amount f o ≤ n → ((x : A) → amount g (next x) ≤ k * f x) → amount g (o >>= next) ≤ k * n
found_most f g k n None next h each = omega arith
found_most f g k n (Some x) next h each = omega (arith, each x, mul-le-mul_left k h)

pub always_most : {A B : Type 0} (g : B → ℕ) (n : ℕ) (o : Option A) (next : A → Option B) → ((x : A) → amount g (next x) ≤ n) → amount g (o >>= next) ≤ n
always_most g n None next each = omega arith
always_most g n (Some x) next each = each x

pub either_most : {A : Type 0} (g : A → ℕ) (n : ℕ) (b : Bool) (x y : Option A) → amount g x ≤ n → amount g y ≤ n → amount g (if b then x else y) ≤ n
either_most g n true x y h k = h
either_most g n false x y h k = k

-- ---- numbers and names

one_digit : (b : Bool) (k d n : ℕ) (acc : List ℕ) → length (digits_onto k 10 false n (d ∷ acc)) ≤ k + suc (length acc) → length (if b then d ∷ acc else digits_onto k 10 false n (d ∷ acc)) ≤ suc k + length acc
one_digit true k d n acc h = omega arith
one_digit false k d n acc h = omega arith

spelled : (k n : ℕ) (acc : List ℕ) → length (digits_onto k 10 false n acc) ≤ k + length acc
spelled zero n acc = omega arith
spelled (suc k) n acc = one_digit (n / 10 == 0) k (digit_glyph false (n % 10)) (n / 10) acc (spelled k (n / 10) (digit_glyph false (n % 10) ∷ acc))

pub decimal_short : (n : ℕ) → length (decimal n) ≤ 64
unfolding digits
decimal_short n = omega (arith, spelled 64 n [])

pub number_short : (o : Option ℕ) → amount length (option_map decimal o) ≤ 64
number_short None = omega arith
number_short (Some n) = decimal_short n

name_is : (b : Bool) (s : List ℕ) → is_name s ≡ b → amount length (if b then Some s else None) ≤ 16
name_is true s h = leb-true (length s) 16 (and_parts (nat_lt 0 (length s)) (nat_le (length s) 16) (and_parts _ _ h).0).1
name_is false s h = omega arith

pub name_short : (d : Data) → amount length (name_in d) ≤ 16
name_short d = always_most length 16 (as_str d) name_of (λ s. name_is (is_name s) s refl)

-- ---- what is in a value

by_order : (o : Ordering) (n : ℕ) (a b c : Option Data) → amount size a ≤ n → amount size b ≤ n → amount size c ≤ n → amount size (match_ordering o a b c) ≤ n
by_order Less n a b c p q r = p
by_order Equal n a b c p q r = q
by_order Greater n a b c p q r = r

member_within : (key : List ℕ) (ms : Members) → amount size (get_member key ms) ≤ members_size ms
member_within key no_members = omega arith
member_within key (member k e ms) =
    let later : amount size (get_member key ms) ≤ size e + members_size ms = omega (arith, member_within key ms) in
    by_order _ (size e + members_size ms) (get_member key ms) (Some e) (get_member key ms) later (omega arith) later

-- itself, its items and what stands at a key
inside : (key : List ℕ) (d : Data) → (1 ≤ size d) × (amount items_size (as_array d) ≤ size d) × (amount size (get key d) ≤ size d)
inside key null = (omega arith, omega arith, omega arith)
inside key (boolean b) = (omega arith, omega arith, omega arith)
inside key (number n) = (omega arith, omega arith, omega arith)
inside key (string s) = (omega arith, omega arith, omega arith)
inside key (array ds) = (omega arith, omega arith, omega arith)
inside key (object ms) = (omega arith, omega arith, omega (arith, member_within key ms))

pub some_size : (d : Data) → 1 ≤ size d
some_size d = (inside [] d).0

pub items_within : (d : Data) → amount items_size (as_array d) ≤ size d
items_within d = (inside [] d).1

pub within : (key : List ℕ) (d : Data) → amount size (get key d) ≤ size d
within key d = (inside key d).2

-- ---- one after the other

scaled : (k a b : ℕ) → k * (a + b) ≡ k * a + k * b
scaled k a b = grind arith

added : (a b n : ℕ) → (a + b) * n ≡ a * n + b * n
added a b n = grind arith

module _ {A : Type 0} (shown : A → List ℕ) where
  pub both : (x y : Option (List A)) → len shown (x ⊕ y) ≤ len shown x + len shown y
  both None y = omega arith
  both (Some xs) None = omega arith
  both (Some xs) (Some ys) = omega (arith, ap length (flat_map-append shown xs ys), length-append (flat_map shown xs) (flat_map shown ys))

  pub ahead : (x : A) (o : Option (List A)) → len shown (headed x o) ≤ length (shown x) + len shown o
  ahead x None = omega arith
  ahead x (Some xs) = omega (arith, length-append (shown x) (flat_map shown xs))

  each_most : (k : ℕ) (read : Data → Option (List A)) → Short shown k read → (ds : Items) → len shown (each_read read ds) ≤ k * items_size ds
  each_most k read h no_items = omega arith
  each_most k read h (item d ds) = omega (arith, both (read d) (each_read read ds), h.most d, each_most k read h ds, scaled k (size d) (items_size ds))

  pub row_most : (k : ℕ) (reads : List (Data → Option (List A))) → AllByRecursion (Short shown k) reads → (ds : Items) → len shown (row_read reads ds) ≤ k * items_size ds
  row_most k [] h no_items = omega arith
  row_most k [] h (item d ds) = omega arith
  row_most k (read ∷ reads) h no_items = omega arith
  row_most k (read ∷ reads) h (item d ds) = omega (arith, both (read d) (row_read reads ds), h.0.most d, row_most k reads h.1 ds, scaled k (size d) (items_size ds))

module _ {A : Type 0} {shown : A → List ℕ} where
  pub wider : {a b : ℕ} {read : Data → Option (List A)} → a ≤ b → Short shown a read → Short shown b read
  wider h k = record { most = λ d. omega (arith, k.most d, mul-le-mul_right (size d) h) }

  -- a text of so many bytes, whatever the value
  pub fixed_short : {k : ℕ} {r : Data → Option (List A)} → ((d : Data) → len shown (r d) ≤ k) → Short shown k r
  fixed_short {k = k} h = record { most = λ d. omega (arith, h d, mul-le-mul_left k (some_size d)) }

  pub both_short : {a b : ℕ} {r s : Data → Option (List A)} → Short shown a r → Short shown b s → Short shown (a + b) (λ d. r d ⊕ s d)
  both_short {a = a} {b = b} {r = r} {s = s} h k = record { most = λ d. omega (arith, both shown (r d) (s d), h.most d, k.most d, added a b (size d)) }

  pub headed_short : {a : ℕ} {r : Data → Option (List A)} (x : A) → Short shown a r → Short shown (length (shown x) + a) (λ d. headed x (r d))
  headed_short {a = a} {r = r} x h = record { most = λ d. omega (arith, ahead shown x (r d), h.most d, added (length (shown x)) a (size d), mul-le-mul_left (length (shown x)) (some_size d)) }

  pub each_short : {k : ℕ} {r : Data → Option (List A)} → Short shown k r → Short shown k (each_in r)
  each_short {k = k} {r = r} h = record { most = λ d. found_most items_size _ k (size d) (as_array d) (each_read r) (items_within d) (each_most shown k r h) }

  pub row_short : {k : ℕ} (reads : List (Data → Option (List A))) → AllByRecursion (Short shown k) reads → Short shown k (λ d. as_array d >>= row_read reads)
  row_short {k = k} reads h = record { most = λ d. found_most items_size _ k (size d) (as_array d) (row_read reads) (items_within d) (row_most shown k reads h) }

  pub field_short : {k : ℕ} {r : Data → Option (List A)} (key : List ℕ) → Short shown k r → Short shown k (field key r)
  field_short {k = k} {r = r} key h = record { most = λ d. found_most size _ k (size d) (get key d) r (within key d) h.most }

  pub object_short : {k : ℕ} {r : Data → Option (List A)} (keys : Data → Members) → Short shown k r → Short shown k (λ d. as_object d >>= λ ms. if same_keys (keys d) ms then r d else None)
  object_short {k = k} {r = r} keys h = record { most = λ d. always_most _ (k * size d) (as_object d) _ (λ ms. either_most _ (k * size d) (same_keys (keys d) ms) (r d) None (h.most d) (omega arith)) }

  pub if_short : {k : ℕ} {r s : Data → Option (List A)} (due : Data → Bool) → Short shown k r → Short shown k s → Short shown k (λ d. if due d then r d else s d)
  if_short {k = k} {r = r} {s = s} due h j = record { most = λ d. either_most _ (k * size d) (due d) (r d) (s d) (h.most d) (j.most d) }

  pub nothing_short : (k : ℕ) → Short shown k (λ d. Some [])
  nothing_short k = record { most = λ d. omega arith }

-- ---- tokens and lines

pub one_token : (byte m : ℕ) (o : Option (List ℕ)) → amount length o ≤ m → len (λ w. byte ∷ w) (one o) ≤ m + 1
one_token byte m None h = omega arith
one_token byte m (Some w) h = omega (arith, ap length (append-nil w))

one_keyed : (m : ℕ) (key : List ℕ) (o : Option (List ℕ)) → amount length o ≤ m → len (λ w. 32 ∷ w) (option_map (map (λ w. key ++ 61 ∷ w)) (one o)) ≤ length key + (m + 2)
one_keyed m key None h = omega arith
one_keyed m key (Some w) h = omega (arith, ap length (append-nil (key ++ 61 ∷ w)), length-append key (61 ∷ w))

pub token_short : (token : Data → Option (List ℕ)) (m : ℕ) → ((d : Data) → amount length (token d) ≤ m) → Short (λ w. 32 ∷ w) (m + 1) (λ d. one (token d))
token_short token m h = fixed_short (λ d. one_token 32 m (token d) (h d))

pub keyed_short : (token : Data → Option (List ℕ)) (m : ℕ) (key : List ℕ) → ((d : Data) → amount length (token d) ≤ m) → Short (λ w. 32 ∷ w) (length key + (m + 2)) (λ d. option_map (map (λ w. key ++ 61 ∷ w)) (one (token d)))
keyed_short token m key h = fixed_short (λ d. one_keyed m key (token d) (h d))

in_line : (word : List ℕ) (o : Option (List (List ℕ))) → len line (one (headed word o)) ≤ length word + 1 + len (λ w. 32 ∷ w) o
in_line word None = omega arith
in_line word (Some ws) =
    omega (arith, ap length (append-nil (line (word ∷ ws))), length-append (join_with_byte 32 (word ∷ ws)) (10 ∷ []), ap length (join_fields word ws), length-append word (flat_map (λ w. 32 ∷ w) ws))

pub lined_short : {a : ℕ} {r : Data → Option (List (List ℕ))} (word : List ℕ) → Short (λ w. 32 ∷ w) a r → Short line (length word + 1 + a) (λ d. one (headed word (r d)))
lined_short {a = a} {r = r} word h = record { most = λ d. omega (arith, in_line word (r d), h.most d, added (length word + 1) a (size d), mul-le-mul_left (length word + 1) (some_size d)) }

-- ---- the text that JSON stands for

told : (found : List ℕ) (o : Option (List (List (List ℕ)))) → option_map text_of o ≡ Some found → length found ≤ len line o
told found None e = absurd cc
told found (Some ls) e = let same : text_of ls ≡ found = cc in omega (arith, ap length same)

pub text_short : {read : Data → Option (List (List (List ℕ)))} (k : ℕ) → Short line k read → (bytes found : List ℕ) → text_of_json (λ d. option_map text_of (read d)) bytes ≡ Ok found → length found ≤ k * length bytes
text_short {read = read} k h bytes found e =
    let (d, is, stands) = stands_for (λ d. option_map text_of (read d)) bytes found e in
    omega (arith, told found (read d) stands, h.most d, mul-le-mul_left k (size_of_value bytes d is))
