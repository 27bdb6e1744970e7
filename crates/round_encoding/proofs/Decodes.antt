-- What an encoding and an assignment that satisfies it decode to.
use Rattle.std.proofs.Common.{◌≡◌, ℕ, ◌≤◌, Bool, List, length, sym, ap, subst, arith}
use Rattle.schedule.specs.{Links.TopologyValue, Placed.PlacementValue}
use Rattle.cnf_formula.specs.Formulas.{Satisfies}
use Rattle.round_encoding.specs.{declared.encoding.Encoding.Encoding, Frames.{Frame, frame_of, own_variables}, Rounding.formula_of, Decoding.decoded, Candidates.{IsEncodingOf, IsTightSolution}}
use Rattle.round_encoding.proofs.{Counted.more_variables, Exactly.sound}

module _ (t : TopologyValue) (pre post : PlacementValue) (steps rounds : ℕ) (e : Encoding) (encodes : IsEncodingOf t pre post steps rounds e) (values : List Bool) (satisfies : Satisfies values e.formula) where
  abbrev frame : Frame
  frame = record { map = e.map; extra = e.extra }

  same_frame : frame ≡ frame_of t pre steps rounds
  same_frame = ap (λ (x : Encoding). record { map = x.map; extra = x.extra }) encodes.is

  satisfies_whole : Satisfies values (formula_of t pre post steps rounds)
  satisfies_whole = subst (λ (x : Encoding). Satisfies values x.formula) encodes.is satisfies

  pub valued : own_variables frame ≤ length values
  valued = grind (arith, same_frame, more_variables)

  pub decodes : IsTightSolution t pre post (decoded frame values) steps rounds
  decodes = subst (λ f. IsTightSolution t pre post (decoded f values) steps rounds) (sym same_frame) (sound t pre post steps rounds values encodes.candidate satisfies_whole)
