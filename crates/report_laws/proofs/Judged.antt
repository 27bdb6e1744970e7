-- A line, and a check of what it says that needs what stands before it and is told at this line, as one part.
use Rattle.std.proofs.Common.{◌≡◌, ℕ, List, Option, Result, Ok, Err, refl, ap, ◌∙◌, arith}
use Rattle.text_lines.{specs.{Text.{Row, Place}, Check.{◌>>=◌, at_line, line_part}}, proofs.{Gives.{gives_done, gives_fail, gives_then}, Steady.{ReadsLike, SteadyAt, Steady, line_alike, steady_line}}}
use Rattle.topology_text.specs.declared.fault.TopologyCode.{TopologyCode}
use Rattle.report_form.{specs.{declared.fault.ReportCode.ReportCode, Lines.among}, proofs.ReportTaken.among_ok}
use Rattle.report_laws.proofs.SteadyLists.{steady_among}

abbrev pub with_later : {A B : Type 0} → A × Place → B → Result ((A × B) × Place) (ReportCode × ℕ)
with_later x y = Ok ((x.0, y), x.1)

-- the line's check, and the later check of its value
module _ {A B : Type 0} (check : Option Row → Result A TopologyCode) (later : A → Result B ReportCode) where
  abbrev later_at : ℕ → A × Place → Result ((A × B) × Place) (ReportCode × ℕ)
  later_at line x = at_line line (later x.0) >>= with_later x

  abbrev pub judged : List Row → Place → Result ((A × B) × Place) (ReportCode × ℕ)
  judged rows p = among rows (line_part check p) >>= later_at p.number

  module _ (rows others : List Row) where
    -- behind the line that was read
    later_at_line : (p : Place) (x : A × Place) → among rows (line_part check p) ≡ Ok x → ReadsLike (λ q. among others (line_part check q)) p x → SteadyAt (later_at p.number x) (judged others) p
    later_at_line p x read l = by_later (later x.0) refl
      where
        by_later : (s : Result B ReportCode) → later x.0 ≡ s → SteadyAt (at_line p.number s >>= with_later x) (judged others) p
        by_later (Ok y) e = gives_done ((x.0, y), x.1) (record {
          later = l.later;
          fewer = l.fewer;
          alike = λ n q same low.
              let to = l.alike n q same low in
              record { rest = to.rest; is = ap (λ r. r >>= later_at q.number) to.is ∙ ap (λ r. at_line q.number r >>= with_later (x.0, to.rest)) e; same = to.same };
        })
        by_later (Err why) e = grind (arith, gives_fail, line_alike, among_ok)

    pub steady_judged : Steady (judged rows) (judged others)
    steady_judged = record {
      at = λ p. gives_then (among rows (line_part check p)) (later_at p.number) ((steady_among rows others (line_part check) (line_part check) (steady_line check)).at p)
          (λ e f. record { late = f.late; alike = λ q same. let w = f.alike q same in record { why = w.why; is = ap (λ r. r >>= later_at q.number) w.is } }) (λ x read l. later_at_line p x read l);
    }

-- the line and its later check, one after the other and as one part
pub judged_passed : {A B C : Type 0} (later : A → Result B ReportCode) (n : ℕ) (r : Result (A × Place) (ReportCode × ℕ)) (next : A → B → Place → Result C (ReportCode × ℕ)) → (r >>= (λ x. at_line n (later x.0) >>= (λ y. next x.0 y x.1)))
    ≡ ((r >>= (λ x. at_line n (later x.0) >>= with_later {A = A} {B = B} x)) >>= (λ z. next z.0.0 z.0.1 z.1))
judged_passed {A} {B} {C} later n r next = grind arith
