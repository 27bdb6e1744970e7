-- Files behind which an empty one was put.
use Rattle.std.proofs.Common.{◌≡◌, refl, ℕ, zero, suc, List, [], ◌∷◌, ◌++◌, length, Vec}
use Rattle.memory_files.specs.Memory.{bytes_of}

pub bytes_pushed : {A : Type 0} (files : List (Vec ℕ A)) (file : Vec ℕ A) (n : ℕ) → file.items ≡ [] → bytes_of (files ++ file ∷ []) n ≡ bytes_of files n
bytes_pushed [] file zero empty = empty
bytes_pushed [] file (suc n) empty = refl
bytes_pushed (f ∷ fs) file zero empty = refl
bytes_pushed (f ∷ fs) file (suc n) empty = bytes_pushed fs file n empty

pub past_end : {A : Type 0} (files : List (Vec ℕ A)) → bytes_of files (length files) ≡ []
past_end [] = refl
past_end (f ∷ fs) = past_end fs
