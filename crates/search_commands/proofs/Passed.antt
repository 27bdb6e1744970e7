-- A fault that is handed on has the cause that it had.
use Rattle.std.proofs.Common.{◌≡◌, ℕ, Result, Ok, Err, IsErrAnd}
use Rattle.outer_ports.specs.Port.{HasCause}

pub passed_on : {A T E : Type 0} (fault told : E) (one : Result A E) (last : Result T E) (before now : ℕ) → one ≡ Err told → IsErrAnd last (λ e. e ≡ told) → HasCause fault before now one → HasCause fault before now last
passed_on fault told one (Ok x) before now is handed cause = absurd handed
passed_on fault told one (Err other) before now is handed cause = record { later = cause.later; rose = λ e. cause.rose (cc); stays = λ none. cause.stays (λ e. none (cc)) }
