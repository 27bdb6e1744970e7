-- The two files of a ledger that writes its lines to a shelf. This project's own.
use Rattle.std.{specs.Prelude.{◌≡◌, ◌≢◌, ◌⊎◌, ℕ, Bool, IsTrue, List, ◌++◌, map, Option, Some}, proofs.Common.{refl, sym, ◌∙◌, inl, inr, ⊎_elim, subst}}
use Rattle.cnf_formula.specs.{Formulas.FormulaValue, Lines.ProofLineValue, declared.line.LratLine.TheVariants.Addition}
use Rattle.proof_rules.specs.{Held.start_of, Learning.AllImplied}
use Rattle.lrat_text.specs.Printing.{lrat_text}
use Rattle.outer_ports.specs.{declared.{part.Part.Part, proof_name.{FileKind.FileKind, ProofName.ProofName}}, Port.Tells, Files.Files}
use Rattle.ledger_rules.specs.Logs.{learned}

-- the text of lines, which are all additions
abbrev pub log_text : List ProofLineValue → List ℕ
log_text lines = lrat_text (map Addition lines)

-- the file is a front of the text of lines that follow, each in its turn, from the formula
pub record IsLogFront (base : FormulaValue) (bytes : Option (List ℕ)) : Type 0 where
  pub lines : List ProofLineValue
  pub implied : AllImplied (start_of base) lines
  pub front : List ℕ
  pub rest : List ℕ
  pub is : bytes ≡ Some front
  pub text : front ++ rest ≡ log_text lines

-- a ledger's formula and the names of its two files; and of the shelf that is lent to it, whether it tells its files, and these
pub record LedgerState : Type 0 where
  pub base : FormulaValue
  pub lrat : ProofName
  pub partial : ProofName
  pub told : Bool
  pub files : Files

-- the formula and the names stay; where the shelf tells its files, every file but these two stays, and each of the two is as before or begun
pub record ShelfMoves (before after : LedgerState) : Type 0 where
  pub same_base : after.base ≡ before.base
  pub same_lrat : after.lrat ≡ before.lrat
  pub same_partial : after.partial ≡ before.partial
  pub tells : Tells before.told after.told
  pub others : IsTrue after.told → (name : ProofName) → name ≢ before.lrat → name ≢ before.partial → after.files name ≡ before.files name
  pub whole_log : IsTrue after.told → (after.files before.lrat ≡ before.files before.lrat) ⊎ IsLogFront before.base (after.files before.lrat)
  pub learned_log : IsTrue after.told → (after.files before.partial ≡ before.files before.partial) ⊎ IsLogFront before.base (after.files before.partial)

-- each line follows in its turn, with those that close and without; where the shelf tells its files, the two files are their texts
pub record ShelfAgrees (now : LedgerState) (lines : List ProofLineValue) : Type 0 where
  pub implied : AllImplied (start_of now.base) lines
  pub learned_implied : AllImplied (start_of now.base) (learned lines)
  pub whole_log : IsTrue now.told → now.files now.lrat ≡ Some (log_text lines)
  pub learned_log : IsTrue now.told → now.files now.partial ≡ Some (log_text (learned lines))

pub ShelfMoves-refl : (now : LedgerState) → ShelfMoves now now
ShelfMoves-refl now = record {
  same_base = refl;
  same_lrat = refl;
  same_partial = refl;
  tells = λ t. t;
  others = λ t name a b. refl;
  whole_log = λ t. inl refl;
  learned_log = λ t. inl refl;
}

-- a file that moves twice, under names and over formulas that are one
twice : (base base' : FormulaValue) (name name' : ProofName) (f g h : Files) → base' ≡ base → name' ≡ name → (g name ≡ f name) ⊎ IsLogFront base (g name) → (h name' ≡ g name') ⊎ IsLogFront base' (h name') → (h name ≡ f name) ⊎ IsLogFront base (h name)
twice base base' name name' f g h b n first second = ⊎_elim
    (λ same. let s : h name ≡ g name = subst (λ m. h m ≡ g m) n same in ⊎_elim (λ e. inl (s ∙ e)) (λ i. inr (subst (IsLogFront base) (sym s) i)) first)
    (λ i. inr (subst (λ m. IsLogFront base (h m)) n (subst (λ f. IsLogFront f (h name')) b i)))
    second

pub ShelfMoves-trans : (a b c : LedgerState) → ShelfMoves a b → ShelfMoves b c → ShelfMoves a c
ShelfMoves-trans a b c first second = record {
  same_base = second.same_base ∙ first.same_base;
  same_lrat = second.same_lrat ∙ first.same_lrat;
  same_partial = second.same_partial ∙ first.same_partial;
  tells = λ t. first.tells (second.tells t);
  others = λ t name x y. second.others t name (λ e. x (e ∙ first.same_lrat)) (λ e. y (e ∙ first.same_partial)) ∙ first.others (second.tells t) name x y;
  whole_log = λ t. twice a.base b.base a.lrat b.lrat a.files b.files c.files first.same_base first.same_lrat (first.whole_log (second.tells t)) (second.whole_log t);
  learned_log = λ t. twice a.base b.base a.partial b.partial a.files b.files c.files first.same_base first.same_partial (first.learned_log (second.tells t)) (second.learned_log t);
}

-- the file of a candidate
abbrev pub log_name : FileKind → Part → ℕ × ℕ × ℕ → ProofName
log_name kind part candidate = record { kind = kind; part = part; s = candidate.0; r = candidate.1; c = candidate.2 }
