-- The calls of a shelf in memory. This project's own.
use Rattle.std.specs.Prelude.{◌≡◌, ℕ, ◌↔◌, List, Result, Err, Contains}
use Rattle.outer_ports.specs.{declared.{memory_shelf.MemoryShelf.MemoryShelf, shelf_fault.ShelfFault.{ShelfFault, TheVariants.Failed}}, Memory.next_count}

-- the most bytes that one call moves
abbrev pub piece_of : MemoryShelf → ℕ
piece_of shelf = shelf.piece

-- the numbers of the calls that fail
abbrev pub fails_of : MemoryShelf → List ℕ
fails_of shelf = shelf.fails.items

-- how many calls there were
abbrev pub calls_of : MemoryShelf → ℕ
calls_of shelf = shelf.calls

-- one call more, which failed exactly where its number says so
pub record IsCall {T : Type 0} (before now : MemoryShelf) (result : Result T ShelfFault) : Type 0 where
  pub fails : (result ≡ Err Failed) ↔ Contains (fails_of before) (calls_of before)
  pub counted : calls_of now ≡ next_count (calls_of before)
  pub same_piece : piece_of now ≡ piece_of before
  pub same_fails : fails_of now ≡ fails_of before
