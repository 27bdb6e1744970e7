-- Which check refuses a fault of a report's links, and when none does.
use Rattle.std.proofs.{Common.{◌≡◌, ◌≢◌, ◌<◌, ◌≤◌, ℕ, List, Bool, false, nat_lt, not, Option, None, Some, Result, Ok, Err, refl, ap, subst, ◌∙◌, slice_get}, lemmas.Bool.{le-ltb, lt-ltb}}
use Rattle.text_lines.specs.Check.{◌>>=◌, need, refuse}
use Rattle.schedule.specs.Links.{GroupValue}
use Rattle.collective_spec.specs.declared.kind.Kind.{Kind, TheVariants.Allreduce}
use Rattle.command_words.specs.declared.fault.WordCode.TheVariants.{NotNarrower, ReportNotTaken, UnknownGroup}
use Rattle.report_form.specs.Reports.{ReportValue}
use Rattle.run_rules.specs.{Refusals.{Refusal, refused_word}, Tasks.{fault_in, is_allreduce}}

pub at_group : {X : Type 0} {o : Option X} (gs hs : List X) (i j : ℕ) → gs ≡ hs → i ≡ j → slice_get gs i ≡ o → slice_get hs j ≡ o
at_group {X} {o} gs hs i j lent at there = subst (λ n. slice_get hs n ≡ o) at (subst (λ g. slice_get g i ≡ o) lent there)

one_search : (kind : Kind) → kind ≢ Allreduce → is_allreduce kind ≡ false
one_search Allreduce other = absurd (other refl)
one_search _ other = refl

module _ (r : ReportValue) (group group_word width width_word : ℕ) (single : r.words.collective.kind ≢ Allreduce) where
  -- the checks of a group that is there or not
  of_group : Option GroupValue → Result (Unit {0}) Refusal
  of_group found = need found (refused_word UnknownGroup group_word) >>= λ old. refuse (not (nat_lt width old.width)) (refused_word NotNarrower width_word)

  of_width : Bool → Result (Unit {0}) Refusal
  of_width narrower = refuse (not narrower) (refused_word NotNarrower width_word)

  by_group : fault_in r group group_word width width_word ≡ of_group (slice_get r.topology.topology.groups group)
  unfolding of_group
  by_group = ap (λ b. refuse b (refused_word ReportNotTaken 0) >>= λ _. of_group (slice_get r.topology.topology.groups group)) (one_search r.words.collective.kind single)

  pub no_group : slice_get r.topology.topology.groups group ≡ None → fault_in r group group_word width width_word ≡ Err (refused_word UnknownGroup group_word)
  unfolding of_group
  no_group none = by_group ∙ ap of_group none

  pub too_wide : (old : GroupValue) → slice_get r.topology.topology.groups group ≡ Some old → old.width ≤ width → fault_in r group group_word width width_word ≡ Err (refused_word NotNarrower width_word)
  unfolding of_group of_width
  too_wide old found wide = by_group ∙ ap of_group found ∙ ap of_width (le-ltb width old.width wide)

  pub taken : (old : GroupValue) → slice_get r.topology.topology.groups group ≡ Some old → width < old.width → fault_in r group group_word width width_word ≡ Ok tt
  unfolding of_group of_width
  taken old found narrow = by_group ∙ ap of_group found ∙ ap of_width (lt-ltb width old.width narrow)
