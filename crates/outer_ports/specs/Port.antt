-- What every port to the outside says: whether it tells its contents, and how many faults it had. This project's own.
use Rattle.std.specs.Prelude.{◌≡◌, ◌≢◌, ℕ, ◌<◌, ◌≤◌, ◌⊎◌, Bool, List, [], ◌++◌, length, take, Result, Err, IfOk, OnErr, IsTrue}
use Rattle.outer_ports.specs.declared.failed.Failed.{Failed}

-- the one fault of a source or a sink
abbrev pub failed : Failed
failed = record {}

-- a count of faults rose, or stands at its last value
abbrev pub Rose : ℕ → ℕ → Type 0
Rose before now = (before < now) ⊎ (now ≡ 18446744073709551615)

-- the count of faults never falls; this fault is answered only where it rose, and every other answer leaves it as it was
pub record HasCause {T E : Type 0} (fault : E) (before now : ℕ) (result : Result T E) : Type 0 where
  pub later : before ≤ now
  pub rose : result ≡ Err fault → Rose before now
  pub stays : result ≢ Err fault → now ≡ before

-- a port that tells its contents after a call told them before it
abbrev pub Tells : Bool → Bool → Type 0
Tells before now = IsTrue now → IsTrue before

-- `Ok(n)` took the first n bytes that were left into the buffer, none into a buffer with room only at the end; a fault took nothing
pub record Takes {E : Type 0} (before now buffer : List ℕ) (result : Result ℕ E) : Type 0 where
  pub read : IfOk result (λ n. before ≡ take n buffer ++ now)
  pub end : IfOk result (λ n. n ≡ 0 → 0 < length buffer → before ≡ [])
  pub fault : OnErr result (now ≡ before)

-- `Ok(n)` appended the first n bytes of the piece; a fault appended nothing
pub record Appends {E : Type 0} (before now piece : List ℕ) (result : Result ℕ E) : Type 0 where
  pub appended : IfOk result (λ n. now ≡ before ++ take n piece)
  pub fault : OnErr result (now ≡ before)
