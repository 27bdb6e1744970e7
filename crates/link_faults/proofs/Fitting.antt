-- A schedule that fits after the fault fitted before it.
use Rattle.std.{proofs.{Common.{◌≡◌, ℕ, zero, suc, ◌≤◌, ◌*◌, true, false, List, [], refl, sym, ◌∙◌, arith, slice_set}, lemmas.{Nat.mul-le, List.Elements.{All-from_recursion, recursion_from_All}}}, specs.List.{list_any, AllByRecursion}}
use Rattle.schedule.{specs.{Links.{GroupValue, TopologyValue, has_link, is_usable}, Sends.{ScheduleValue, link_of}, Fitting.{Fits, load, rounds_at}, Judging.group_at}, proofs.First.each_weaker}
use Rattle.link_faults.{specs.Narrowed.{with_width, left_of, narrowed}, proofs.Links.{left_usable, left_within, set_any, set_each}}

module _ (t : TopologyValue) (g : ℕ) (s : ScheduleValue) where
  abbrev Within : ℕ → GroupValue → Type 0
  Within step group = load group step s.sends ≤ group.width * rounds_at s step

  fits_left : Fits (narrowed t g 0) s → Fits t s
  fits_left fits =
      let lost = group_at t g in
      let used : AllByRecursion (λ h. is_usable (narrowed t g 0) (link_of h) ≡ true) s.sends = recursion_from_All (λ h. is_usable (narrowed t g 0) (link_of h) ≡ true) s.sends fits.usable in
      let none : AllByRecursion (λ h. has_link lost (link_of h) ≡ false) s.sends =
      each_weaker (λ h. is_usable (narrowed t g 0) (link_of h) ≡ true) (λ h. has_link lost (link_of h) ≡ false) (λ h is. (left_usable lost t.groups (link_of h) is).1) s.sends used in
      record {
        usable = All-from_recursion (λ h. is_usable t (link_of h) ≡ true) s.sends
            (each_weaker (λ h. is_usable (narrowed t g 0) (link_of h) ≡ true) (λ h. is_usable t (link_of h) ≡ true) (λ h is. (left_usable lost t.groups (link_of h) is).0) s.sends used);
        within = λ step from to.
            All-from_recursion (Within step) t.groups (left_within lost step (rounds_at s step) s.sends t.groups none (recursion_from_All (Within step) (left_of lost t.groups) (fits.within step from to)));
      }

  fits_narrow : (w : ℕ) → suc w ≤ (group_at t g).width → Fits (narrowed t g (suc w)) s → Fits t s
  fits_narrow w less fits =
      let group = group_at t g in
      let none : GroupValue = record { links = []; width = 0 } in
      let new : List GroupValue = slice_set t.groups g (with_width (suc w) group) in
      record {
        usable = All-from_recursion (λ h. is_usable t (link_of h) ≡ true) s.sends
            (each_weaker (λ h. is_usable (narrowed t g (suc w)) (link_of h) ≡ true) (λ h. is_usable t (link_of h) ≡ true)
            (λ h is. let same : list_any (λ group. has_link group (link_of h)) new ≡ list_any (λ group. has_link group (link_of h)) t.groups = set_any (λ group. has_link group (link_of h)) t.groups g none (with_width (suc w) group) refl in sym same ∙ is)
            s.sends (recursion_from_All (λ h. is_usable (narrowed t g (suc w)) (link_of h) ≡ true) s.sends fits.usable));
        within = λ step from to.
            All-from_recursion (Within step) t.groups (set_each (Within step) t.groups g none (with_width (suc w) group)
            (λ small. let more : suc w * rounds_at s step ≤ group.width * rounds_at s step = mul-le (suc w) (rounds_at s step) group.width (rounds_at s step) less (omega arith) in omega (arith, small, more))
            (recursion_from_All (Within step) new (fits.within step from to)));
      }

-- a schedule that fits after the fault fits before it
pub fits_before : (t : TopologyValue) (g w : ℕ) (s : ScheduleValue) → w ≤ (group_at t g).width → Fits (narrowed t g w) s → Fits t s
fits_before t g zero s less fits = fits_left t g s fits
fits_before t g (suc w) s less fits = fits_narrow t g s w less fits
