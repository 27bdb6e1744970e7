-- What the checks of a joined point took stands there, and is valid.
use Rattle.std.proofs.{Common.{◌≡◌, ℕ, ◌+◌, ◌*◌, ◌<◌, ◌≤◌, ◌&&◌, List, [], length, sym, subst, arith, codes, nat_le, nat_lt, All, Decides}, lemmas.{Bool.Decides.{Decides-and, Decides-ltb, Decides-like}, List.Elements.{All-push, All-nil}}}
use Rattle.text_lines.proofs.Gives.{Steps}
use Rattle.candidate_order.specs.{declared.candidate.Candidate.Candidate, Ranges.IsLimits, Frontiers.QuestionValue}
use Rattle.candidate_order.specs.declared.mark.Mark.TheVariants as mark
use Rattle.report_form.specs.{Reports.IsJoinedPoint, Spelling.point_lines, Points.{HeadValue, may_join, joined_head_from, joined_head_line, joined_point_at}}
use Rattle.report_form.proofs.{Tested.{leb_decides, six}, LineTaken.ruled_gives, Shapes.joined_head_take, PointsTaken.{some_rounds, headed, Headed, headed_steps}}

abbrev pub joined_of : Candidate × ℕ → HeadValue
joined_of x = record { candidate = x.0; mark = mark.Joined x.1 }

-- the eight tests of a join
pub record MayJoin (q : QuestionValue) (x : Candidate) (adding : ℕ) : Type 0 where
  pub some_steps : 2 ≤ x.s
  pub steps : x.s ≤ 2 * q.limits.max_s
  pub all_rounds : x.s ≤ x.r
  pub rounds : x.r ≤ x.s + 2 * q.limits.k
  pub some_chunks : 1 ≤ x.c
  pub chunks : x.c ≤ q.limits.max_c
  pub some_add : 1 ≤ adding
  pub some_copy : adding < x.s

pub decides_join : (q : QuestionValue) (x : Candidate) (adding : ℕ) → Decides (may_join q x adding) (MayJoin q x adding)
decides_join q x adding =
    Decides-like (may_join q x adding)
    (λ h. record { some_steps = h.0.0.0.0.0.0.0; steps = h.0.0.0.0.0.0.1; all_rounds = h.0.0.0.0.0.1; rounds = h.0.0.0.0.1; some_chunks = h.0.0.0.1; chunks = h.0.0.1; some_add = h.0.1; some_copy = h.1 })
    (λ h. (((((((h.some_steps, h.steps), h.all_rounds), h.rounds), h.some_chunks), h.chunks), h.some_add), h.some_copy))
    (Decides-and (nat_le 2 x.s && nat_le x.s (2 * q.limits.max_s) && nat_le x.s x.r && nat_le x.r (x.s + 2 * q.limits.k) && nat_le 1 x.c && nat_le x.c q.limits.max_c && nat_le 1 adding) (nat_lt adding x.s)
    (Decides-and (nat_le 2 x.s && nat_le x.s (2 * q.limits.max_s) && nat_le x.s x.r && nat_le x.r (x.s + 2 * q.limits.k) && nat_le 1 x.c && nat_le x.c q.limits.max_c) (nat_le 1 adding)
    (six (nat_le 2 x.s) (nat_le x.s (2 * q.limits.max_s)) (nat_le x.s x.r) (nat_le x.r (x.s + 2 * q.limits.k)) (nat_le 1 x.c) (nat_le x.c q.limits.max_c)
    (leb_decides _ _) (leb_decides _ _) (leb_decides _ _) (leb_decides _ _) (leb_decides _ _) (leb_decides _ _)) (leb_decides _ _)) (Decides-ltb _ _))

module _ (names : List (List ℕ)) (q : QuestionValue) (as_many : length names ≡ q.topology.nodes) where
  pub no_joined : All (IsJoinedPoint q) []
  no_joined = All-nil (IsJoinedPoint q)

  pub joined_steps : IsLimits q.limits → Steps (codes "point ") (joined_point_at names q) (point_lines names) (λ ps. All (IsJoinedPoint q) ps)
  unfolding joined_point_at
  joined_steps ok = headed_steps names q as_many (λ before. joined_head_line q) (λ ps. All (IsJoinedPoint q) ps)
      (λ before p are. ruled_gives joined_head_from (λ h. may_join q h.0 h.1) joined_of headed (Headed q (λ ps. All (IsJoinedPoint q) ps) before)
      (λ words h shape rule.
      let may = (decides_join q h.0 h.1).0 rule in
      let J : Candidate → Type 0 = λ x. MayJoin q x h.1 in (
        joined_head_take words h shape,
        record {
          some = some_rounds h.0.s h.0.r may.all_rounds (omega (arith, may.some_steps, may.rounds, ok.k));
          keeps = λ x s. let m = subst J (sym s.candidate) may in All-push (IsJoinedPoint q) before x are (record {
            has = s.has (omega (arith, may.some_steps)) (omega (arith, may.steps, ok.steps));
            some_steps = m.some_steps;
            steps = m.steps;
            all_rounds = m.all_rounds;
            rounds = m.rounds;
            some_chunks = m.some_chunks;
            chunks = m.chunks;
            adding = h.1;
            mark = s.mark;
            some_add = m.some_add;
            some_copy = m.some_copy;
          });
        },
      )) p)
