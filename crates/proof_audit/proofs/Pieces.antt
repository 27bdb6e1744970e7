-- A file that is judged piece by piece.
use Rattle.std.proofs.Common.{◌≡◌, ◌∙◌, refl, sym, ap, ℕ, ◌+◌, ◌<◌, ◌≤◌, Bool, true, false, Option, None, Some, Ok, List, [], ◌++◌, length, take, drop, subst, arith, append_assoc, IsTrue, ◌&&◌, IfSome, nat_le, if◌then◌else◌}
use Rattle.std.proofs.{Math.{Seq.take-add, Bool.and-false}, lemmas.{Bool.{le-leb, lt-leb}, List.{take-append-drop, take_all, length-append, length-take, length-take-le, append-nil}}}
use Rattle.outer_ports.specs.{Port.Tells, Files.Files, Shelf.{FilesStay, HoldsBytes, ReadsAt}, declared.{proof_name.ProofName.ProofName, shelf_fault.ShelfFault.ShelfFault}}
use Rattle.proof_audit.specs.{declared.verdict.FileVerdict.{FileVerdict, TheVariants.{Missing, Refused, Stands}}, Files.{file_verdict, short_and}}

-- the bytes that a judge took, and which are those of the file in front of a place, where the shelf tells it
pub record IsFront (before now : List ℕ → Bool) (tells : Bool) (file : Option (List ℕ)) (place : ℕ) : Type 0 where
  pub bytes : List ℕ
  pub long : length bytes ≡ place
  pub same : (more : List ℕ) → before (bytes ++ more) ≡ now more
  pub front : IsTrue tells → (whole : List ℕ) → file ≡ Some whole → bytes ≡ take place whole
  pub there : IsTrue tells → file ≡ None → place ≡ 0

-- the piece that comes at a place of the file
pub record IsPiece (tells : Bool) (file : Option (List ℕ)) (place : ℕ) (piece : List ℕ) : Type 0 where
  pub there : IsTrue tells → file ≡ None → ⊥
  pub is : IsTrue tells → (whole : List ℕ) → file ≡ Some whole → piece ≡ take (length piece) (drop place whole)

pub more_taken : {before now next : List ℕ → Bool} {told tells : Bool} {file : Option (List ℕ)} {place : ℕ} (n : ℕ) (piece : List ℕ) → IsFront before now told file place → Tells told tells → IsPiece tells file place piece → length piece ≡ n
    → ((more : List ℕ) → now (piece ++ more) ≡ next more) → IsFront before next tells file (place + n)
more_taken {before} {now} {next} {told} {tells} {file} {place} n piece f still p long goes = record {
  bytes = f.bytes ++ piece;
  long = omega (arith, length-append f.bytes piece, f.long, long);
  same = λ more. ap before (append_assoc f.bytes piece more) ∙ f.same (piece ++ more) ∙ goes more;
  front = λ t whole e. ap (λ bs. bs ++ piece) (f.front (still t) whole e) ∙ ap (λ bs. take place whole ++ bs) (p.is t whole e ∙ ap (λ k. take k (drop place whole)) long) ∙ sym (take-add place n whole);
  there = λ t e. absurd (p.there t e);
}

-- what a call of a shelf gave of a file, which is as it was at the start
pub record IsRead (tells : Bool) (file : Option (List ℕ)) (place : ℕ) (buffer : List ℕ) (count : ℕ) : Type 0 where
  pub there : IsTrue tells → file ≡ None → ⊥
  pub held : IsTrue tells → (whole : List ℕ) → file ≡ Some whole → HoldsBytes whole place buffer count

pub is_read : {tells : Bool} {at_start files : Files} (name : ProofName) {place : ℕ} {buffer : List ℕ} {answer : Option ℕ} {count : ℕ} → (IsTrue tells → FilesStay at_start files) → (IsTrue tells → ReadsAt {E = ShelfFault} files name place buffer (Ok answer)) → answer ≡ Some count
    → IsRead tells (at_start name) place buffer count
is_read name {place} {buffer} {answer} stay read is = record {
  there = λ t e. let none : answer ≡ None = (read t).none.1 (stay t name ∙ e) in absurd (cc);
  held = λ t whole e. subst (λ o. IfSome o (HoldsBytes whole place buffer)) is ((read t).some whole (stay t name ∙ e));
}

pub piece_read : {tells : Bool} {file : Option (List ℕ)} {place : ℕ} {buffer : List ℕ} {count : ℕ} → IsRead tells file place buffer count → count ≤ length buffer → (bytes : List ℕ) → bytes ≡ buffer → IsPiece tells file place (take count bytes)
piece_read {tells} {file} {place} {buffer} {count} read within bytes same = subst (λ bs. IsPiece tells file place (take count bs)) (sym same) (record {
  there = read.there;
  is = λ t whole e. (read.held t whole e).copied ∙ ap (λ k. take k (drop place whole)) (sym (length-take-le count buffer within));
})

-- ---- verdicts

by_file : (test : List ℕ → Bool) (file : Option (List ℕ)) (v : FileVerdict) → (file ≡ None → v ≡ Missing) → ((whole : List ℕ) → file ≡ Some whole → v ≡ (if test whole then Stands else Refused)) → v ≡ file_verdict test file
by_file test None v none some = none refl
by_file test (Some whole) v none some = some whole refl

failing : (test : List ℕ → Bool) (whole : List ℕ) → test whole ≡ false → Refused ≡ (if test whole then Stands else Refused)
failing test whole e = sym (ap (λ b. if b then Stands else Refused) e)

module _ {before now : List ℕ → Bool} {told : Bool} {file : Option (List ℕ)} {place : ℕ} (limit : ℕ) (f : IsFront before now told file place) where
  -- the piece can't begin what passes
  pub refused_piece : {tells : Bool} (piece : List ℕ) → Tells told tells → IsPiece tells file place piece → ((more : List ℕ) → now (piece ++ more) ≡ false) → IsTrue tells → Refused ≡ file_verdict (short_and limit before) file
  refused_piece piece still p over t = by_file (short_and limit before) file Refused (λ e. absurd (p.there t e)) some
    where
      some : (whole : List ℕ) → file ≡ Some whole → Refused ≡ (if short_and limit before whole then Stands else Refused)
      some whole e =
          let rest = drop (length piece) (drop place whole) in
          let behind : piece ++ rest ≡ drop place whole = ap (λ bs. bs ++ rest) (p.is t whole e) ∙ take-append-drop (length piece) (drop place whole) in
          let all : f.bytes ++ (piece ++ rest) ≡ whole = ap (λ bs. f.bytes ++ bs) behind ∙ ap (λ bs. bs ++ drop place whole) (f.front (still t) whole e) ∙ take-append-drop place whole in
          let fails : before whole ≡ false = ap before (sym all) ∙ f.same (piece ++ rest) ∙ over rest in
          failing (short_and limit before) whole (ap (λ b. nat_le (length whole) limit && b) fails ∙ and-false (nat_le (length whole) limit))

  -- more bytes came than may
  pub refused_length : limit < place → IsTrue told → Refused ≡ file_verdict (short_and limit before) file
  refused_length more t = by_file (short_and limit before) file Refused (λ e. let z = f.there t e in absurd (omega (arith, z, more))) some
    where
      some : (whole : List ℕ) → file ≡ Some whole → Refused ≡ (if short_and limit before whole then Stands else Refused)
      some whole e =
          let size = ap length (f.front t whole e) in
          let long : limit < length whole = omega (arith, size, f.long, length-take place whole, more) in
          failing (short_and limit before) whole (ap (λ b. b && before whole) (lt-leb (length whole) limit long))

  -- no more bytes come
  pub ended : {tells : Bool} {buffer : List ℕ} {count : ℕ} (passed : Bool) → Tells told tells → IsRead tells file place buffer count → count ≡ 0 → 0 < length buffer → place ≤ limit → passed ≡ now [] → IsTrue tells
      → (if passed then Stands else Refused) ≡ file_verdict (short_and limit before) file
  ended passed still read zero room within is t = by_file (short_and limit before) file (if passed then Stands else Refused) (λ e. absurd (read.there t e)) some
    where
      some : (whole : List ℕ) → file ≡ Some whole → (if passed then Stands else Refused) ≡ (if short_and limit before whole then Stands else Refused)
      some whole e =
          let last = ((read.held t whole e).end room).0 zero in
          let all : f.bytes ≡ whole = f.front (still t) whole e ∙ take_all place whole last in
          let same : now [] ≡ before whole = sym (f.same []) ∙ ap before (append-nil f.bytes ∙ all) in
          let short : nat_le (length whole) limit ≡ true = le-leb (length whole) limit (omega (arith, last, within)) in
          ap (λ b. if b then Stands else Refused) (is ∙ same ∙ sym (ap (λ b. b && before whole) short))
