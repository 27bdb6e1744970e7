use Rattle.std.proofs.{Common.{◌≡◌, ◌∙◌, length, map, sym, ap, subst, rules, reverse, IsPermutation}, lemmas.List.Sorted.answers_always}
use Rattle.schedule.{specs.{Sends.{ScheduleValue, IsSchedule, hop_before}, Summing.Sums, Inverse.{inverse_hop, inverse_of}}, proofs.{Inverted.inverse_sums, Inverting.valid_inverse}}
use Rattle.inversion.proofs.Sorting.{before_is_order, inverse_made}
use Rattle.inversion.proofs.invert.invert_schedule.Goals as goal

pub new-requires : goal.new-requires
new-requires c =
    let s : ScheduleValue = c.args.schedule.now in
    let copied : c.in_ok-rounds.rounds.items ≡ c.rounds.result.now = c.in_ok-rounds.ensures.items_if_clones_equal (λ x y e. e) in
    let back : c.reverse.new.self.items ≡ reverse s.rounds = c.reverse.ensures.items ∙ ap reverse (copied ∙ c.rounds.ensures.rounds) in
    let moved : IsPermutation (map (inverse_hop (length s.rounds)) s.sends) c.sort_unstable_by.new.self.items = rw c.in_ok-sends.ensures at c.sort_unstable_by.ensures.permutation in
    let sorted = c.sort_unstable_by.ensures.sorted hop_before before_is_order (answers_always _ _ _ (λ f a r q k. search rules)) in
    subst IsSchedule (sym (inverse_made s c.reverse.new.self.items c.sort_unstable_by.new.self.items c.rounds.ensures.limits back moved sorted)) (valid_inverse s c.rounds.ensures.limits)

pub returns : goal.returns
returns c =
    let s : ScheduleValue = c.args.schedule.now in
    let copied : c.in_ok-rounds.rounds.items ≡ c.rounds.result.now = c.in_ok-rounds.ensures.items_if_clones_equal (λ x y e. e) in
    let back : c.reverse.new.self.items ≡ reverse s.rounds = c.reverse.ensures.items ∙ ap reverse (copied ∙ c.rounds.ensures.rounds) in
    let moved : IsPermutation (map (inverse_hop (length s.rounds)) s.sends) c.sort_unstable_by.new.self.items = rw c.in_ok-sends.ensures at c.sort_unstable_by.ensures.permutation in
    let sorted = c.sort_unstable_by.ensures.sorted hop_before before_is_order (answers_always _ _ _ (λ f a r q k. search rules)) in
    let is : c.new.result ≡ inverse_of s = c.new.ensures ∙ inverse_made s c.reverse.new.self.items c.sort_unstable_by.new.self.items c.rounds.ensures.limits back moved sorted in
    record {
      inverse = is;
      sums = λ t pre steps rounds placed nodes_are alone in_range tight solves. subst (λ z. Sums t pre z steps rounds) (sym is) (inverse_sums t pre s steps rounds placed nodes_are alone c.rounds.ensures.limits in_range tight solves);
    }
