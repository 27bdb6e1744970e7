-- The checks of a part, one after the other, and of the parts.
use Rattle.std.proofs.{Common.{arith, ◌≡◌, ℕ, ◌<◌, Bool, true, List, length, map, get_or, Option, None, Some, refl, sym, ap, ◌∙◌, subst, ◌==◌, not, AllPairs, Contains, IsTrue}, Math.ListN.get_or-map, lemmas.List.length-map}
use Rattle.text_lines.specs.Check.{◌>>=◌}
use Rattle.outer_ports.specs.{declared.{part.Part.Part, proof_name.{FileKind.TheVariants.Partial, ProofName.ProofName}}, Files.{Files, kind_number, part_number}, Port.Tells, Shelf.FilesStay}
use Rattle.candidate_order.specs.Frontiers.{QuestionValue, FrontierValue}
use Rattle.report_form.specs.Reports.{ReportValue, IsReport, IsFrontier, parts_of, question_of}
use Rattle.send_encoding.proofs.Orders.{one_pairs}
use Rattle.frontier_audit.specs.{Denials.{Denial, Checked, each, in_part}, Auditing.{unknown_checked, frontier_checked}, Beside.{denial_of, AnswersBeside}, inner.Steps.{answers_checked, part_checked, point_checked, refuted_checked}}
use Rattle.frontier_audit.proofs.{Merging.{LooksAt, Separate, goes_on, later, looks_each, looks_then, plain, plainly_then, since, stops, then_plainly}, Said.{looks_refuted, looks_unknown}}

-- ---- a part

-- the names of formulas and of their proofs
abbrev of_refuted : ProofName → Bool
of_refuted name = not (kind_number name.kind == kind_number Partial)

module _ (p : Part) (q : QuestionValue) (f : FrontierValue) where
  abbrev points : Checked Denial
  points = each (point_checked q) f.points

  abbrev refuted : Files → Checked Denial
  refuted files = each (refuted_checked p q files) f.refuted

  abbrev unknown : Files → Checked Denial
  unknown files = each (unknown_checked p q files) f.unknown

  abbrev behind_points : Files → Checked Denial
  behind_points files = refuted files >>= (λ _. unknown files >>= (λ _. answers_checked q f))

  looks_files : (own : ProofName → Bool) → LooksAt own refuted → LooksAt own unknown → LooksAt own (λ files. frontier_checked p q files f)
  looks_files own a b = grind (arith, looks_then)

  looks_formulas : (own : ProofName → Bool) → ((name : ProofName) → name.part ≡ p → of_refuted name ≡ true → own name ≡ true) → LooksAt own refuted
  looks_formulas own has = looks_each own (refuted_checked p q) f.refuted (λ k d low. looks_refuted own p q (get_or f.refuted k d) (has _ refl refl) (has _ refl refl))

  looks_logs : (own : ProofName → Bool) → ((name : ProofName) → name.part ≡ p → not (of_refuted name) ≡ true → own name ≡ true) → LooksAt own unknown
  looks_logs own has = looks_each own (unknown_checked p q) f.unknown (λ k d low. looks_unknown own p q (get_or f.unknown k d) (has _ refl refl))

  abbrev AnswersPart : Bool → Files → Option Denial → Type 0
  AnswersPart tells shelf d = AnswersBeside tells shelf (λ files. frontier_checked p q files f) d

  module _ {told : Bool} {shelf : Files} where
    pub points_decide : (d : Denial) → Some d ≡ denial_of points → AnswersPart told shelf (Some d)
    points_decide d e = stops told shelf (λ files. points) behind_points d (plain told shelf points (Some d) e)

    module _ (none : None ≡ denial_of points) where
      pub refuted_decide : (d : Denial) → AnswersBeside told shelf refuted (Some d) → AnswersPart told shelf (Some d)
      refuted_decide d a = plainly_then told shelf points behind_points (Some d) (sym none) (stops told shelf refuted (λ files. unknown files >>= (λ _. answers_checked q f)) d a)

      -- the logs are looked at later, where the files are as before
      module _ (first : AnswersBeside told shelf refuted None) {tells : Bool} (still : Tells told tells) {between : Files} (stay : IsTrue tells → FilesStay shelf between) where
        behind_refuted : (d : Option Denial) → AnswersBeside tells shelf (λ files. unknown files >>= (λ _. answers_checked q f)) d → AnswersPart tells shelf d
        behind_refuted d b = plainly_then tells shelf points behind_points d (sym none)
            (goes_on tells shelf refuted (λ files. unknown files >>= (λ _. answers_checked q f)) of_refuted d (looks_formulas of_refuted (λ name here own. own))
            (looks_then _ unknown (λ files. answers_checked q f) (looks_logs (λ name. not (of_refuted name)) (λ name here own. own)) (λ g h s. refl)) (later told tells shelf refuted None still first) b)

        pub unknown_decide : (d : Denial) → AnswersBeside tells between unknown (Some d) → AnswersPart tells shelf (Some d)
        unknown_decide d b = behind_refuted (Some d) (stops tells shelf unknown (λ files. answers_checked q f) d (since tells shelf between unknown (Some d) stay b))

        pub answers_decide : (d : Option Denial) → AnswersBeside tells between unknown None → d ≡ denial_of (answers_checked q f) → AnswersPart tells shelf d
        answers_decide d b e = behind_refuted d (then_plainly tells shelf unknown (answers_checked q f) d (since tells shelf between unknown None stay b) e)

-- ---- parts of a report

-- the names of a part
abbrev is_in : Part → ProofName → Bool
is_in p name = part_number name.part == part_number p

looks_at_part : (own : ProofName → Bool) (r : ReportValue) (x : Part × FrontierValue) → ((name : ProofName) → name.part ≡ x.0 → own name ≡ true) → LooksAt own (λ files. part_checked r files x)
looks_at_part own r x has f g same =
    let q = question_of r.words r.topology x.0 in
    ap (in_part x.0) (looks_files x.0 q x.1 own (looks_formulas x.0 q x.1 own (λ name here _. has name here)) (looks_logs x.0 q x.1 own (λ name here _. has name here)) f g same)

-- the parts of a report are different ones
abbrev PartsApart : Part → Part → Type 0
PartsApart a b = not (part_number b == part_number a) ≡ true

-- what holds of each pair of names holds of what they name
pub unnamed_pairs : {X Y : Type 0} (R : Y → Y → Type 0) (f : X → Y) (xs : List X) → AllPairs R (map f xs) → AllPairs (λ a b. R (f a) (f b)) xs
unnamed_pairs R f xs all i j d before within = grind (arith, all i j (f d) before (subst (λ n. j < n) (sym (length-map xs f)) within), get_or-map)

pub separate_parts : (r : ReportValue) → IsReport r → Separate (part_checked r) r.frontiers
separate_parts r ok = record {
  own = λ x. is_in x.0;
  looks = λ x. looks_at_part (is_in x.0) r x (λ name e. ap (λ p. part_number p == part_number x.0) e ∙ (grind arith));
  apart = λ i j d below low. looks_at_part _ r _ (λ name e. ap (λ p. not (part_number p == part_number (get_or r.frontiers i d).0)) e ∙ parts_differ i j d below low);
}
  where
    parts_differ : AllPairs (λ x y. PartsApart x.0 y.0) r.frontiers
    parts_differ = unnamed_pairs PartsApart (λ x. x.0) r.frontiers (subst (AllPairs PartsApart) (sym ok.parts) (grind (arith, one_pairs)))

-- ---- a part at its place

pub record AtPart (r : ReportValue) (i : ℕ) (x : Part × FrontierValue) : Type 0 where
  pub low : i < length r.frontiers
  pub is : x ≡ get_or r.frontiers i x
  pub among : Contains (parts_of r.words.collective.kind) x.0
  pub frontier : IsFrontier (question_of r.words r.topology x.0) x.1

pub at_part : (r : ReportValue) → IsReport r → (xs : List (Part × FrontierValue)) (i : ℕ) (x : Part × FrontierValue) → xs ≡ r.frontiers → i < length xs → x ≡ get_or xs i x → AtPart r i x
at_part r ok xs i x same below at =
    let low : i < length r.frontiers = subst (λ ys. i < length ys) same below in
    let is : x ≡ get_or r.frontiers i x = subst (λ ys. x ≡ get_or ys i x) same at in
    record {
      low = low;
      is = is;
      among = subst (λ ps. Contains ps x.0) ok.parts (i, subst (λ n. i < n) (sym (length-map r.frontiers (λ y. y.0))) low, get_or-map (λ y. y.0) r.frontiers i x ∙ ap (λ y. y.0) (sym is));
      frontier = subst (λ y. IsFrontier (question_of r.words r.topology y.0) y.1) (sym is) (ok.frontiers i x low);
    }

-- ---- the answer of a part is that of the report's part

abbrev pub named_in : Part → Option Denial → Option (Part × Denial)
named_in p None = None
named_in p (Some d) = Some (p, d)

pub named_denial : (p : Part) (checked : Checked Denial) → named_in p (denial_of checked) ≡ denial_of (in_part p checked)
named_denial p checked = grind arith

pub in_report : {tells : Bool} {shelf : Files} (r : ReportValue) (x : Part × FrontierValue) {q : QuestionValue} {d : Option Denial} → q ≡ question_of r.words r.topology x.0 → AnswersBeside tells shelf (λ files. frontier_checked x.0 q files x.1) d
    → AnswersBeside tells shelf (λ files. part_checked r files x) (named_in x.0 d)
in_report r x is a = grind (arith, named_denial)
