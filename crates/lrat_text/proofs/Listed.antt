-- A list of fields, as a loop reads it.
use Rattle.std.proofs.Common.{List, ◌++◌, Result, Ok, Err}
use Rattle.lrat_text.specs.{declared.fault.LratTextFault.LratTextFault, Tokens.Token}

-- fields that were read before, in front of what is read
abbrev pub behind : {A : Type 0} → List A → Result (List A × List Token) LratTextFault → Result (List A × List Token) LratTextFault
behind before (Ok read) = Ok (before ++ read.0, read.1)
behind before (Err fault) = Err fault
