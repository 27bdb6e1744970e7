-- How a search ended.
use Rattle.ledger_rules.specs.declared.ledger.Ledger as own
use Rattle.ledger_rules.specs.declared.ledger.LedgerView as view
use Rattle.trail_core.specs.Meaning.{CoreValue}
use Rattle.sat_core.specs.{declared.{guide.Guide.Guide, searching.End.{End, TheVariants.{Total, Refuted, Spent}}}, inner.{Totals.IsTotal, Going.{CanSearch, HasRefuted, HasSpent}}}

-- what holds at each end
abbrev pub IsEnded : {L T : Type 0} → view.Ghosts L → own.Ghosts L T → L → T → CoreValue → Guide → End → Type 0
IsEnded V W ledger store core guide Total = CanSearch V W ledger store core guide × IsTotal core
IsEnded V W ledger store core guide Refuted = HasRefuted V W ledger store
IsEnded V W ledger store core guide Spent = HasSpent V W ledger store
