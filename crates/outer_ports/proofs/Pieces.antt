-- Lists that are moved piece by piece.
use Rattle.std.{specs.Option.unwrap_or, proofs.Math.Seq.{take-add, take-append-add, take-append_seam, drop-drop}}
use Rattle.std.proofs.Common.{◌≡◌, ◌∙◌, refl, sym, ap, ℕ, ◌+◌, ◌-◌, ◌≤◌, Option, Some, List, [], ◌++◌, length, take, drop, min, arith, append_assoc, length-drop}
use Rattle.std.proofs.lemmas.List.{take-append-drop, take_all, take_min}

-- `&whole[done..]` as a list
pub rest-all : (done : ℕ) (whole : List ℕ) → take (length whole - done) (drop done whole) ≡ drop done whole
rest-all done whole = take_all (length whole - done) (drop done whole) (grind (arith, length-drop))

-- one piece more of the whole is behind the start
pub appended_more : (start whole before now : List ℕ) (done n : ℕ) → before ≡ start ++ take done whole → now ≡ before ++ take n (take (length whole - done) (drop done whole)) → now ≡ start ++ take (done + n) whole
appended_more start whole before now done n was more = rw (more, was, rest-all done whole, take-add done n whole) (append_assoc start (take done whole) (take n (drop done whole)))

-- the same of a file, whose bytes those were
pub appended_to_file : (before whole : List ℕ) (old now : Option (List ℕ)) (done n : ℕ) → old ≡ Some (before ++ take done whole) → now ≡ Some (unwrap_or old [] ++ take n (take (length whole - done) (drop done whole))) → now ≡ Some (before ++ take (done + n) whole)
appended_to_file before whole old now done n was more = more ∙ ap (λ bytes. Some bytes) (appended_more before whole (unwrap_or old []) _ done n (ap (λ file. unwrap_or file []) was) refl)

-- a piece that was copied from the bytes left, and the bytes left behind it
pub given : (bytes piece rest : List ℕ) (taken n : ℕ) → length piece ≡ n → piece ≡ take n (take (length bytes - taken) (drop taken bytes)) → drop taken bytes ≡ take n (piece ++ rest) ++ drop (taken + n) bytes
given bytes piece rest taken n len copied = let front : take n (piece ++ rest) ≡ piece = rw (← len) (take-append_seam piece rest) in rw (front, copied, rest-all taken bytes, ← drop-drop n taken bytes) (sym (take-append-drop n (drop taken bytes)))

-- the first n are those that fit
fitting-take : (piece : List ℕ) (room : ℕ) → take (min (length piece) room) piece ≡ take room piece
fitting-take piece room = grind (arith, take_min, take_all)

-- the front that fits is what fits of the whole
pub fitting : (kept piece : List ℕ) (room n : ℕ) → length kept ≤ room → n ≡ min (length piece) (room - length kept) → kept ++ take n piece ≡ take room (kept ++ piece)
fitting kept piece room n fits count = let whole : room ≡ length kept + (room - length kept) = omega arith in rw (count, fitting-take piece (room - length kept)) (sym (ap (λ m. take m (kept ++ piece)) whole ∙ take-append-add kept piece (room - length kept)))
