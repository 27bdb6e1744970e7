-- What is left as it was of the files of a folder.
use Rattle.std.{proofs.Common.{arith, ◌≡◌, ◌≢◌, ◌∙◌, refl, sym, ap, ℕ, List, ◌++◌, Option, None, Some, IsTrue, IfOk, Result, if◌then◌else◌, inl, inr, ◌⊎◌}, specs.Option.option_map}
use Rattle.outer_ports.specs.{declared.{open_files.OpenFiles.OpenFiles, proof_name.{FileKind.FileKind, ProofName.ProofName}}, Disks.{Disk, bytes_at, Writes}, Folders.{files_in_folder, fresh_in, in_range, path_in}}
use Rattle.outer_ports.specs.{Shelf.{FilesStay, HoldsBytes, OthersStay, bytes_in}, inner.{Keeping.{AllHeld, AllRead, IsHeld, IsNeither, IsOther, IsOwn, IsRead, Spares}, OpenFiles.{open_of, Holds}}}
use Rattle.outer_ports.proofs.{FileNames.{path_not_fresh, paths_apart}, OpenKinds.{held_after, held_before, same_held, some_is_none}}

-- whose file a number is rests on the numbers alone
pub held_stays : (before now : Disk) (folder : List ℕ) (name : ProofName) (n : ℕ) → now.number ≡ before.number → IsHeld before folder name n → IsHeld now folder name n
held_stays before now folder name n same held = grind arith

pub read_stays : (before now : Disk) (folder : List ℕ) (name : ProofName) (n : ℕ) → now.number ≡ before.number → IsRead before folder name n → IsRead now folder name n
read_stays before now folder name n same held = grind arith

-- a file of the folder is that of its path, where its name is one that it can have
pub file_is : (disk : Disk) (folder : List ℕ) (name : ProofName) (n : ℕ) → IsTrue (in_range name) → disk.number (path_in folder name) ≡ Some n → files_in_folder disk folder name ≡ Some (disk.bytes n)
file_is disk folder name n range here = ap (λ b. if b then bytes_at disk (path_in folder name) else None) range ∙ ap (λ number. option_map disk.bytes number) here

pub no_file : (disk : Disk) (folder : List ℕ) (name : ProofName) → disk.number (path_in folder name) ≡ None → files_in_folder disk folder name ≡ None
no_file disk folder name none = grind arith

-- where the file of a name in range stays, the file of the name does
pub file_stays : (before now : Disk) (folder : List ℕ) (name : ProofName) → (IsTrue (in_range name) → bytes_at now (path_in folder name) ≡ bytes_at before (path_in folder name)) → files_in_folder now folder name ≡ files_in_folder before folder name
file_stays before now folder name stays = grind arith

pub files_stay : (before now : Disk) (folder : List ℕ) → now ≡ before → FilesStay (files_in_folder before folder) (files_in_folder now folder)
files_stay before now folder same name = ap (λ disk. files_in_folder disk folder name) same

-- what is appended to a file that has no other path changes no other file
pub written_others : (before now : Disk) (folder : List ℕ) (name : ProofName) (n : ℕ) (piece : List ℕ) → IsHeld before folder name n → Writes n piece before now → OthersStay name (files_in_folder before folder) (files_in_folder now folder)
written_others before now folder name n piece held writes other apart = grind (arith, file_stays, paths_apart)

pub written_here : (before now : Disk) (folder : List ℕ) (name : ProofName) (n : ℕ) (piece : List ℕ) → IsHeld before folder name n → Writes n piece before now → files_in_folder now folder name ≡ Some (bytes_in (files_in_folder before folder) name ++ piece)
written_here before now folder name n piece held writes = grind (arith, file_is)

-- the same after other calls, which left the file and its number
pub held_spared : (before now : Disk) (folder : List ℕ) (name : ProofName) (n : ℕ) (spared : List ℕ → Type 0) → Spares spared before now → spared (path_in folder name) → IsHeld before folder name n → IsHeld now folder name n
held_spared before now folder name n spared spares is held = record { range = held.range; own = spares.own _ n is held.own }

pub read_spared : (before now : Disk) (folder : List ℕ) (name : ProofName) (n : ℕ) (spared : List ℕ → Type 0) → Spares spared before now → spared (path_in folder name) → IsRead before folder name n → IsRead now folder name n
read_spared before now folder name n spared spares is held = record { range = held.range; here = spares.number _ is ∙ held.here }

pub file_spared : (before now : Disk) (folder : List ℕ) (name : ProofName) (spared : List ℕ → Type 0) → Spares spared before now → (IsTrue (in_range name) → spared (path_in folder name)) → files_in_folder now folder name ≡ files_in_folder before folder name
file_spared before now folder name spared spares is = file_stays before now folder name (λ range. spares.bytes _ (is range))

pub all_held : {F : Type 0} (number : F → ℕ) (before now : Disk) (folder : List ℕ) (begun : OpenFiles F) → now.number ≡ before.number → AllHeld number before folder begun → AllHeld number now folder begun
all_held number before now folder begun same held name file holds = held_stays before now folder name (number file) same (held name file holds)

pub all_read : {F : Type 0} (number : F → ℕ) (before now : Disk) (folder : List ℕ) (reading : Option (ProofName × F)) → now.number ≡ before.number → AllRead number before folder reading → AllRead number now folder reading
all_read number before now folder reading same read name file reads = read_stays before now folder name (number file) same (read name file reads)

-- where one of a kind is closed, the others are still those of their names
pub all_but_closed : {F : Type 0} (number : F → ℕ) (disk : Disk) (folder : List ℕ) (before now : OpenFiles F) (kind : FileKind) → open_of now kind ≡ None → ((other : FileKind) → other ≢ kind → open_of now other ≡ open_of before other) → AllHeld number disk folder before → AllHeld number disk folder now
all_but_closed number disk folder before now kind none others held name file holds = held name file (held_before before now kind none others name file holds)

pub none_read : {F : Type 0} (number : F → ℕ) (disk : Disk) (folder : List ℕ) (reading : Option (ProofName × F)) → reading ≡ None → AllRead number disk folder reading
none_read number disk folder reading none name file reads = absurd (some_is_none reading (name, file) none reads)

pub one_read : {F : Type 0} (number : F → ℕ) (disk : Disk) (folder : List ℕ) (reading : Option (ProofName × F)) (name : ProofName) (file : F) → reading ≡ Some (name, file) → IsRead disk folder name (number file) → AllRead number disk folder reading
one_read number disk folder reading name file is read other opened reads = grind (arith, same_held)

-- after a file was made anew, each that is open is still that of its name
pub begun_held : {F : Type 0} (number : F → ℕ) (before now : Disk) (folder : List ℕ) (name : ProofName) (file : F) (held begun : OpenFiles F) → IsTrue (in_range name) → Holds begun name file → ((other : FileKind) → other ≢ name.kind → open_of begun other ≡ open_of held other) → IsOwn now (path_in folder name) (number file) → Spares (IsNeither (fresh_in folder) (path_in folder name)) before now → AllHeld number before folder held → AllHeld number now folder begun
begun_held number before now folder name file held begun range here others own spares all other opened holds = by_name (held_after held begun name file here others other opened holds)
  where
    by_name : ((other ≡ name) × (opened ≡ file)) ⊎ ((other.kind ≢ name.kind) × Holds held other opened) → IsHeld now folder other (number opened)
    by_name (inl same) = rw (same.0, same.1) (record { range = range; own = own })
    by_name (inr (apart, was)) =
        let is = all other opened was in
        held_spared before now folder other (number opened) (IsNeither (fresh_in folder) (path_in folder name)) spares
        (record { not_first = path_not_fresh folder other is.range; not_second = paths_apart folder other name is.range range (λ same. apart (ap (λ n. n.kind) same)) }) is

pub begun_read : {F : Type 0} (number : F → ℕ) (before now : Disk) (folder : List ℕ) (name : ProofName) (reading : Option (ProofName × F)) → IsTrue (in_range name) → option_map (λ held. held.0) reading ≢ Some name → Spares (IsNeither (fresh_in folder) (path_in folder name)) before now → AllRead number before folder reading → AllRead number now folder reading
begun_read number before now folder name reading range unread spares all other opened reads = grind (arith, all other opened reads, read_spared, path_not_fresh, paths_apart)

-- and every file of the folder but that one stays
pub begun_others : (before now : Disk) (folder : List ℕ) (name : ProofName) → IsTrue (in_range name) → Spares (IsNeither (fresh_in folder) (path_in folder name)) before now → OthersStay name (files_in_folder before folder) (files_in_folder now folder)
begun_others before now folder name range spares other apart = grind (arith, file_spared, path_not_fresh, paths_apart)

-- after a fault each stays, and is still open
pub fault_files : (before now : Disk) (folder : List ℕ) → Spares (IsOther (fresh_in folder)) before now → FilesStay (files_in_folder before folder) (files_in_folder now folder)
fault_files before now folder spares other = file_spared before now folder other (IsOther (fresh_in folder)) spares (λ range. record { not_first = path_not_fresh folder other range })

pub fault_held : {F : Type 0} (number : F → ℕ) (before now : Disk) (folder : List ℕ) (begun : OpenFiles F) → Spares (IsOther (fresh_in folder)) before now → AllHeld number before folder begun → AllHeld number now folder begun
fault_held number before now folder begun spares all name file holds = grind (arith, all name file holds, held_spared, path_not_fresh)

pub fault_read : {F : Type 0} (number : F → ℕ) (before now : Disk) (folder : List ℕ) (reading : Option (ProofName × F)) → Spares (IsOther (fresh_in folder)) before now → AllRead number before folder reading → AllRead number now folder reading
fault_read number before now folder reading spares all name file reads = grind (arith, all name file reads, read_spared, path_not_fresh)

pub some_same : {X : Type 0} (x y : X) → Some x ≡ Some y → x ≡ y
some_same x y e = cc

-- the bytes of the file that stays open for reading
pub read_file : {F : Type 0} (number : F → ℕ) (disk : Disk) (folder : List ℕ) (reading : Option (ProofName × F)) (name opened : ProofName) (file : F) → reading ≡ Some (opened, file) → option_map (λ held. held.0) reading ≡ Some name → AllRead number disk folder reading → files_in_folder disk folder name ≡ Some (disk.bytes (number file))
read_file {F} number disk folder reading name opened file is of all = grind (arith, some_same, file_is)

pub same_bytes : {E : Type 0} (result : Result ℕ E) (file : Option (List ℕ)) (bytes read : List ℕ) (place : ℕ) (buffer : List ℕ) → file ≡ Some read → file ≡ Some bytes → IfOk result (HoldsBytes read place buffer) → IfOk result (HoldsBytes bytes place buffer)
same_bytes result file bytes read place buffer is has holds = rw (some_same bytes read (sym has ∙ is)) holds

pub parts_stay : (before now : Disk) (folder : List ℕ) → now.number ≡ before.number → now.bytes ≡ before.bytes → FilesStay (files_in_folder before folder) (files_in_folder now folder)
parts_stay before now folder number bytes name = file_stays before now folder name (λ range. rw (number, bytes) refl)
