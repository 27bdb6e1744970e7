-- A list of sends that tells a table of sends.
use Rattle.std.specs.{Prelude.{◌≡◌, ℕ, ◌==◌, ◌&&◌, ◌<◌, Bool, true, List, All}, List.list_any}
use Rattle.schedule.specs.{declared.hop.Hop.Hop, Placed.same_pair, Sends.{IsStep, link_of}}
use Rattle.send_encoding.specs.{Variables.SendMapValue, Moving.IsLinkOf}

-- the send is one of the table's
pub record IsTold (m : SendMapValue) (x : ℕ → ℕ → ℕ → Bool) (h : Hop) : Type 0 where
  pub link : ℕ × (ℕ × ℕ)
  pub is_link : IsLinkOf m link
  pub ends : link.1 ≡ link_of h
  pub chunk : h.chunk < m.chunks
  pub step : IsStep m.steps h.step
  pub sent : x h.chunk link.0 h.step ≡ true

-- each send is one of the table's, and each of the table's is there
pub record Tells (m : SendMapValue) (x : ℕ → ℕ → ℕ → Bool) (sends : List Hop) : Type 0 where
  pub told : All (IsTold m x) sends
  pub tells : (c k : ℕ) (z : ℕ × (ℕ × ℕ)) → c < m.chunks → IsLinkOf m z → IsStep m.steps k → x c z.0 k ≡ true → list_any (λ h. h.step == k && (h.chunk == c && same_pair (link_of h) z.1)) sends ≡ true
