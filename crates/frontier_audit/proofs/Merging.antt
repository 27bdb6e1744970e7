-- Answers that are given beside different files are given beside one shelf, where each looks at names of its own.
use Rattle.std.proofs.Common.{◌≡◌, ℕ, ◌+◌, ◌<◌, ◌≤◌, Bool, true, List, [], ◌∷◌, length, drop, get_or, Option, None, Some, Ok, refl, sym, ap, ◌∙◌, subst, arith, not, if◌then◌else◌, IsTrue, All, AllPairs}
use Rattle.std.proofs.lemmas.List.{drop_all, get_or-drop, get_or_default, length-drop, Elements.{All-head, All-tail}}
use Rattle.text_lines.specs.Check.{◌>>=◌}
use Rattle.outer_ports.specs.{declared.proof_name.ProofName.ProofName, Files.Files, Port.Tells, Shelf.FilesStay}
use Rattle.report_form.proofs.PointNumbers.{from_here}
use Rattle.frontier_audit.{specs.{Denials.{Checked, each}, Beside.{denial_of, AnswersBeside}}, proofs.Walking.{first_decides, rest_decides}}

-- the check says the same of files that agree on these names
abbrev pub LooksAt : {E : Type 0} → (ProofName → Bool) → (Files → Checked E) → Type 0
LooksAt own check = (f g : Files) → ((name : ProofName) → own name ≡ true → f name ≡ g name) → check f ≡ check g

pub looks_then : {E : Type 0} (own : ProofName → Bool) (first rest : Files → Checked E) → LooksAt own first → LooksAt own rest → LooksAt own (λ files. first files >>= (λ _. rest files))
looks_then own first rest a b f g same = ap (λ r. r >>= (λ _. rest f)) (a f g same) ∙ ap (λ r. first g >>= (λ _. r)) (b f g same)

pub looks_each : {X E : Type 0} (own : ProofName → Bool) (check : Files → X → Checked E) (xs : List X) → All (λ x. LooksAt own (λ files. check files x)) xs → LooksAt own (λ files. each (check files) xs)
looks_each own check [] all f g same = refl
looks_each own check (x ∷ xs) all f g same =
    looks_then own (λ files. check files x) (λ files. each (check files) xs)
    (All-head (λ y. LooksAt own (λ files. check files y)) x xs all)
    (looks_each own check xs (All-tail (λ y. LooksAt own (λ files. check files y)) x xs all)) f g same

-- ---- two shelves put together

-- these names of the first, and the others of the second
merged : (ProofName → Bool) → Files → Files → Files
merged own f g name = if own name then f name else g name

is_own : (own : ProofName → Bool) (f g : Files) (name : ProofName) → own name ≡ true → merged own f g name ≡ f name
unfolding merged
is_own own f g name e = ap (λ b. if b then f name else g name) e

is_other : (own : ProofName → Bool) (f g : Files) (name : ProofName) → not (own name) ≡ true → merged own f g name ≡ g name
unfolding merged
is_other own f g name e = grind arith

merged_stays : (own : ProofName → Bool) (shelf f g : Files) → FilesStay shelf f → FilesStay shelf g → FilesStay shelf (merged own f g)
unfolding merged
merged_stays own shelf f g a b name = grind arith

-- ---- answers

module _ {E : Type 0} (tells : Bool) (shelf : Files) where
  -- a check that looks at no file
  pub plain : (check : Checked E) (d : Option E) → d ≡ denial_of check → AnswersBeside tells shelf (λ files. check) d
  plain check d e = record { files = shelf; told = λ t name. refl; is = e }

  module _ (first rest : Files → Checked E) where
    pub stops : (d : E) → AnswersBeside tells shelf first (Some d) → AnswersBeside tells shelf (λ files. first files >>= (λ _. rest files)) (Some d)
    stops d a = record { files = a.files; told = a.told; is = sym (first_decides (first a.files) (rest a.files) d (sym a.is)) }

    -- the second looks at none of the names of the first
    pub goes_on : (own : ProofName → Bool) (d : Option E) → LooksAt own first → LooksAt (λ name. not (own name)) rest → AnswersBeside tells shelf first None → AnswersBeside tells shelf rest d
        → AnswersBeside tells shelf (λ files. first files >>= (λ _. rest files)) d
    goes_on own d one two a b =
        let files : Files = merged own a.files b.files in
        record {
          files = files;
          told = λ t. merged_stays own shelf a.files b.files (a.told t) (b.told t);
          is = b.is ∙ ap denial_of (sym (two files b.files (is_other own a.files b.files))) ∙ ap denial_of (sym (rest_decides (first files) (rest files) (ap denial_of (one files a.files (is_own own a.files b.files)) ∙ sym a.is)));
        }

  -- after a check that looks at no file, and before one
  pub plainly_then : (first : Checked E) (rest : Files → Checked E) (d : Option E) → denial_of first ≡ None → AnswersBeside tells shelf rest d → AnswersBeside tells shelf (λ files. first >>= (λ _. rest files)) d
  plainly_then first rest d e a = record { files = a.files; told = a.told; is = a.is ∙ ap denial_of (sym (rest_decides first (rest a.files) e)) }

  pub then_plainly : (first : Files → Checked E) (rest : Checked E) (d : Option E) → AnswersBeside tells shelf first None → d ≡ denial_of rest → AnswersBeside tells shelf (λ files. first files >>= (λ _. rest)) d
  then_plainly first rest d a e = record { files = a.files; told = a.told; is = e ∙ ap denial_of (sym (rest_decides (first a.files) rest (sym a.is))) }

-- ---- answers at a later moment, and of an earlier one

pub later : {E : Type 0} (told tells : Bool) (shelf : Files) (check : Files → Checked E) (d : Option E) → Tells told tells → AnswersBeside told shelf check d → AnswersBeside tells shelf check d
later told tells shelf check d still a = record { files = a.files; told = λ t. a.told (still t); is = a.is }

pub since : {E : Type 0} (tells : Bool) (before shelf : Files) (check : Files → Checked E) (d : Option E) → (IsTrue tells → FilesStay before shelf) → AnswersBeside tells shelf check d → AnswersBeside tells before check d
since tells before shelf check d stay a = record { files = a.files; told = λ t name. a.told t name ∙ stay t name; is = a.is }

-- of a check that says the same
pub reads_as : {E : Type 0} {tells : Bool} {shelf : Files} {check own : Files → Checked E} {d : Option E} → ((files : Files) → check files ≡ own files) → AnswersBeside tells shelf own d → AnswersBeside tells shelf check d
reads_as same a = record { files = a.files; told = a.told; is = a.is ∙ ap denial_of (sym (same a.files)) }

-- what holds of each pair holds of an item and those behind it
pub behind_pairs : {X : Type 0} (R : X → X → Type 0) (xs : List X) (i : ℕ) (x : X) → i < length xs → x ≡ get_or xs i x → AllPairs R xs → All (R x) (drop (i + 1) xs)
behind_pairs R xs i x low is pairs k d h = grind (arith, length-drop (i + 1) xs, pairs i (i + 1 + k) d (omega arith) (omega (arith, (length-drop (i + 1) xs), h)), get_or_default xs i d x low ∙ sym is, get_or-drop)

-- ---- items of a list

-- each check looks at names of its own, at which no later one looks
pub record Separate {X E : Type 0} (check : Files → X → Checked E) (xs : List X) : Type 0 where
  pub own : X → ProofName → Bool
  pub looks : (x : X) → LooksAt (own x) (λ files. check files x)
  pub apart : AllPairs (λ x y. LooksAt (λ name. not (own x name)) (λ files. check files y)) xs

-- a walk over a list that has passed the items in front of a place, beside what the shelf was when it began: what answers the others answers all
pub record Walks {X E : Type 0} (began tells : Bool) (few faults : ℕ) (before shelf : Files) (check : Files → X → Checked E) (xs : List X) (i : ℕ) : Type 0 where
  pub told : Tells began tells
  pub kept : faults ≡ few
  pub stay : IsTrue tells → FilesStay before shelf
  pub on : (now : Bool) (d : Option E) → Tells tells now → AnswersBeside now before (λ files. each (check files) (drop i xs)) d → AnswersBeside now before (λ files. each (check files) xs) d

pub walk_starts : {X E : Type 0} (tells : Bool) (faults : ℕ) (shelf : Files) (check : Files → X → Checked E) (xs : List X) → Walks tells tells faults faults shelf shelf check xs 0
walk_starts tells faults shelf check xs = record { told = λ t. t; kept = refl; stay = λ t name. refl; on = λ now d still a. a }

module _ {X E : Type 0} {began tells : Bool} {few faults : ℕ} {before shelf : Files} {check : Files → X → Checked E} {xs : List X} {i : ℕ} (w : Walks began tells few faults before shelf check xs i) where
  abbrev rest : Files → Checked E
  rest files = each (check files) (drop (i + 1) xs)

  abbrev AnswersAll : Bool → Option E → List X → Type 0
  AnswersAll now d ys = AnswersBeside now before (λ files. each (check files) ys) d

  -- one more item is answered
  module _ (x : X) (low : i < length xs) (is : x ≡ get_or xs i x) {next : Bool} (still : Tells tells next) {a : Option E} (answer : AnswersBeside next shelf (λ files. check files x) a) where
    here : AnswersBeside next before (λ files. check files x) a
    here = since next before shelf (λ files. check files x) a (λ t. w.stay (still t)) answer

    pub walk_stops : (d : E) → a ≡ Some d → AnswersAll next (Some d) xs
    walk_stops d denied = grind (arith, from_here, stops, here)

    pub walk_on : Separate check xs → {now : Files} → (IsTrue next → FilesStay shelf now) → {later_faults : ℕ} → later_faults ≡ faults → a ≡ None → Walks began next few later_faults before now check xs (i + 1)
    walk_on s stay same none = record {
      told = λ t. w.told (still t);
      kept = same ∙ w.kept;
      stay = λ t name. stay t name ∙ w.stay (still t) name;
      on = λ now d after a.
          w.on now d (λ t. still (after t)) (subst (AnswersAll now d) (sym (from_here xs i x low is))
          (goes_on now before (λ files. check files x) rest (s.own x) d (s.looks x) (looks_each (λ name. not (s.own x name)) check (drop (i + 1) xs) (behind_pairs (λ y z. LooksAt (λ name. not (s.own y name)) (λ files. check files z)) xs i x low is s.apart))
          (later next now before (λ files. check files x) None after (subst (AnswersBeside next before (λ files. check files x)) none here)) a));
    }

  -- the end of the list is reached
  pub walk_ends : length xs ≤ i → AnswersAll tells None xs
  walk_ends past = w.on tells None (λ t. t) (subst (AnswersAll tells None) (sym (drop_all i xs past)) (plain tells before (Ok tt) None refl))
