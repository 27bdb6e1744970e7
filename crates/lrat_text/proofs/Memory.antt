-- No text is at fault for out of memory.
use Rattle.std.proofs.{Common.{arith, ◌≡◌, ◌≢◌, ℕ, ◌+◌, Bool, true, false, cond, List, [], ◌∷◌, Option, Some, Result, Err, nat_lt, codes, slice_index}, lemmas.Bool.Decides.nat_tests}
use Rattle.text_lines.specs.{Text.Row, Check.{◌>>=◌, refuse}}
use Rattle.cnf_formula.specs.declared.line.LratLine.{LratLine}
use Rattle.lrat_text.specs.{declared.fault.LratTextFault.{LratTextFault, TheVariants.OutOfMemory}, Tokens.{Token, is_word, number_from, after_minus, id_of, literal_of, hint_of}}
use Rattle.lrat_text.specs.Reading.{up_to_zero, no_more, addition_of, deletion_of, behind_id, line_of, row_says, size_of, Said, said_at, said_by}

abbrev IsToldOf : {A : Type 0} → Result A LratTextFault → Type 0
IsToldOf r = r ≢ Err OutOfMemory

bind_told : {A B : Type 0} (r : Result A LratTextFault) (f : A → Result B LratTextFault) → IsToldOf r → ((x : A) → IsToldOf (f x)) → IsToldOf (r >>= f)
bind_told r f first rest = grind (arith, nat_tests)

refuse_told : (b : Bool) (code : LratTextFault) → code ≢ OutOfMemory → IsToldOf (refuse b code)
refuse_told true code ne = λ h. let same : code ≡ OutOfMemory = cc in ne same
refuse_told false code ne = λ h. absurd (cc)

number_told : (place greatest : ℕ) (digits : List ℕ) → IsToldOf (number_from place greatest digits)
number_told place greatest digits = grind (arith, bind_told, refuse_told, nat_lt)

id_told : (t : Token) → IsToldOf (id_of t)
id_told t = number_told t.place 4294967295 t.bytes

literal_told : (t : Token) → IsToldOf (literal_of t)
literal_told t = bind_told (number_from t.place 2147483647 (after_minus t)) _ (number_told t.place 2147483647 (after_minus t)) (λ v h. absurd (cc))

hint_told : (t : Token) → IsToldOf (hint_of t)
hint_told t = bind_told (number_from t.place 4294967295 (after_minus t)) _ (number_told t.place 4294967295 (after_minus t)) (λ v h. absurd (cc))

module _ (lack : LratTextFault) (ne : lack ≢ OutOfMemory) where
  list_told : {A : Type 0} (read : Token → Result A LratTextFault) → ((t : Token) → IsToldOf (read t)) → (ts : List Token) → IsToldOf (up_to_zero read lack ts)
  list_told read told [] = λ h. let same : lack ≡ OutOfMemory = cc in ne same
  list_told {A} read told (t ∷ ts) = grind (arith, bind_told, list_told read told ts)

  no_more_told : (ts : List Token) → IsToldOf (no_more ts)
  no_more_told ts = grind (arith, nat_tests)

  addition_told : (id : ℕ) (ts : List Token) → IsToldOf (addition_of lack id ts)
  addition_told id ts = grind (arith, bind_told, list_told, literal_told, hint_told, no_more_told)

  deletion_told : (id : ℕ) (ts : List Token) → IsToldOf (deletion_of lack id ts)
  deletion_told id ts = bind_told (up_to_zero id_of lack ts) _ (list_told id_of id_told ts) (λ ids. bind_told (no_more ids.1) _ (no_more_told ids.1) (λ u h. absurd (cc)))

  behind_told : (id : ℕ) (ts : List Token) → IsToldOf (behind_id lack id ts)
  behind_told id [] = λ h. let same : lack ≡ OutOfMemory = cc in ne same
  behind_told id (t ∷ ts) = go (is_word (codes "d") t)
    where
      go : (b : Bool) → IsToldOf (cond b (deletion_of lack id ts) (addition_of lack id (t ∷ ts)))
      go true = deletion_told id ts
      go false = addition_told id (t ∷ ts)

  line_told : (ts : List Token) → line_of lack ts ≢ Some (Err OutOfMemory)
  line_told ts = grind (arith, nat_tests, slice_index, lack, bind_told, id_told, behind_told)

row_told : (place : ℕ) (row : Row) → row_says place row ≢ Some (Err OutOfMemory)
row_told place row = grind (arith, line_told)

at_told : (r : Option (Result LratLine LratTextFault)) (size : ℕ) (later : Said) → r ≢ Some (Err OutOfMemory) → later.answer ≢ Err OutOfMemory → (said_at r size later).answer ≢ Err OutOfMemory
at_told r size later here behind = grind (arith, nat_tests)

pub said_told : (finished : Bool) (place : ℕ) (rows : List Row) → (said_by finished place rows).answer ≢ Err OutOfMemory
said_told finished place [] = λ h. absurd (cc)
said_told finished place (row ∷ rows) = grind (arith, nat_tests, said_told finished (place + size_of row) rows, at_told, row_told place row)
