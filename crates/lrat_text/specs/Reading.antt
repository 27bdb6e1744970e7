-- What a reader of proof lines says to the bytes that it has (LRAT: Cruz-Filipe et al. 2017; the leniency is this project's own).
use Rattle.std.specs.Prelude.{ℕ, ◌+◌, ◌==◌, ◌||◌, Bool, false, if◌then◌else◌, List, [], ◌∷◌, ◌++◌, length, drop, slice_index, Option, None, Some, Result, Ok, Err, codes}
use Rattle.text_lines.specs.{Text.{Row, rows_of}, Check.◌>>=◌}
use Rattle.cnf_formula.specs.declared.line.LratLine.{LratLine, TheVariants.{Addition, Deletion}}
use Rattle.lrat_text.specs.{declared.fault.LratTextFault.{LratTextFault, TheVariants.{BadToken, Truncated}}, Tokens.{Token, tokens_from, content, is_word, id_of, literal_of, hint_of}}

-- ---- the line of some tokens; `lack` is the fault where they end before a closing zero

-- what the tokens up to a zero say, and the tokens behind it
abbrev pub up_to_zero : {A : Type 0} → (Token → Result A LratTextFault) → LratTextFault → List Token → Result (List A × List Token) LratTextFault
up_to_zero read lack [] = Err lack
up_to_zero read lack (t ∷ ts) = if is_word (codes "0") t then Ok ([], ts) else (do
  x ← read t
  more ← up_to_zero read lack ts
  Ok (x ∷ more.0, more.1))

abbrev pub no_more : List Token → Result (Unit {0}) LratTextFault
no_more [] = Ok tt
no_more (t ∷ ts) = Err (BadToken t.place)

abbrev pub addition_of : LratTextFault → ℕ → List Token → Result LratLine LratTextFault
addition_of lack id ts = do
  lits ← up_to_zero literal_of lack ts
  hints ← up_to_zero hint_of lack lits.1
  _ ← no_more hints.1
  Ok (Addition (record { id = id; lits = lits.0; hints = hints.0 }))

abbrev pub deletion_of : LratTextFault → ℕ → List Token → Result LratLine LratTextFault
deletion_of lack id ts = do
  ids ← up_to_zero id_of lack ts
  _ ← no_more ids.1
  Ok (Deletion (record { id = id; ids = ids.0 }))

-- a line is a deletion where its second token is `d`
abbrev pub behind_id : LratTextFault → ℕ → List Token → Result LratLine LratTextFault
behind_id lack id [] = Err lack
behind_id lack id (t ∷ ts) = if is_word (codes "d") t then deletion_of lack id ts else addition_of lack id (t ∷ ts)

-- ---- the lines of a text

-- a line without a token, and one whose first token begins with `c`, says nothing; another is a proof line or a fault
abbrev pub line_of : LratTextFault → List Token → Option (Result LratLine LratTextFault)
line_of lack [] = None
line_of lack (t ∷ ts) = if slice_index t.bytes 0 == 99 then None else Some (do
  id ← id_of t
  behind_id lack id ts)

-- a line that lacks its closing zero is at fault at its line feed, or at the end of the text
abbrev pub row_says : ℕ → Row → Option (Result LratLine LratTextFault)
row_says place row = line_of (if row.whole then BadToken (place + length row.bytes) else Truncated) (tokens_from place (content row))

-- how many bytes a line has with its line feed
abbrev pub size_of : Row → ℕ
size_of row = length row.bytes + (if row.whole then 1 else 0)

-- an answer, and how many bytes are taken off the front
pub record Said : Type 0 where
  pub answer : Result (Option LratLine) LratTextFault
  pub taken : ℕ

abbrev pub nothing_said : Said
nothing_said = record { answer = Ok None; taken = 0 }

-- a line of so many bytes that says nothing is passed over to what is said later
abbrev pub said_at : Option (Result LratLine LratTextFault) → ℕ → Said → Said
said_at None size later = record { answer = later.answer; taken = size + later.taken }
said_at (Some (Ok line)) size later = record { answer = Ok (Some line); taken = size }
said_at (Some (Err fault)) size later = record { answer = Err fault; taken = 0 }

-- what the lines from a place on say; the last counts without its line feed where the text is finished
abbrev pub said_by : Bool → ℕ → List Row → Said
said_by finished place [] = nothing_said
said_by finished place (row ∷ rows) = if row.whole || finished then said_at (row_says place row) (size_of row) (said_by finished (place + size_of row) rows) else nothing_said

-- ---- a reader

-- the bytes that belong to no line that was given or passed over, the place of the first of them, whether the text is finished, and the fault that was answered
pub record ReaderValue : Type 0 where
  pub rest : List ℕ
  pub place : ℕ
  pub finished : Bool
  pub fault : Option LratTextFault

abbrev pub new_reader : ReaderValue
new_reader = record { rest = []; place = 0; finished = false; fault = None }

abbrev pub fed : ReaderValue → List ℕ → ReaderValue
fed r piece = record r { rest = r.rest ++ piece }

-- a fault is answered again and again
abbrev pub said_to : ReaderValue → Said
said_to r = elim r.fault [
  | None ↦ said_by r.finished r.place (rows_of r.rest)
  | Some fault ↦ record { answer = Err fault; taken = 0 }
]

abbrev pub fault_of : Result (Option LratLine) LratTextFault → Option LratTextFault
fault_of (Ok line) = None
fault_of (Err fault) = Some fault

abbrev pub with_taken : ReaderValue → Said → ReaderValue
with_taken r said = record r { rest = drop said.taken r.rest; place = r.place + said.taken; fault = fault_of said.answer }

abbrev pub after_next : ReaderValue → ReaderValue
after_next r = with_taken r (said_to r)
