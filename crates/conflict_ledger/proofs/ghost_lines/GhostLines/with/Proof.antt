-- `with` makes a value of no bytes, whose ghost field has the lines of the one that is lent, and one more.
use mathlib.Core.{Path.{refl, subst, sym}, List.{List, [], ◌∷◌, ◌++◌}}
use mir.Val.{Val, vptr, vstruct, vnil}
use base.{Logic.ent, Fml.{Fml, ftrue}}
use prog.Wp.{WpFn}
use contract.Running.{tables}
use types.{Kit.{‵, raw, ◌⊛◌, ◌$◌, ◌∵◌, !, qed, move, keep, split, join, fjoin, use0, suffices, done}, Run.{no_more, returns, enter}, Part.agg, ByLocal.{alloc_all, pass_all, free_all, look_at, sets}}
use denote.{Builtin.RefOf, Exit.yes, RattleType.owns, Shadow.makes_shadow, Signature.{types_at, type_at, plain}, Steps.nothing, Triple.{Entry.{alive, Res}, Walked.{says, Stays, stay_dropped, Goes-dropped, walk_of, ends_at}}}
use Rattle.std.proofs.raw_atomic.Walks.{proved_at}
use Rattle.cnf_formula.specs.contracts.line.ProofLine.{the_row as line_row}
use Rattle.conflict_ledger.{specs.contracts.ghost_lines.GhostLines.the_row, proofs.ghost_lines.GhostLines.with.Statement.statement}
use Rattle.conflict_ledger.specs.contracts.ghost_lines.GhostLines.with as f
use Rattle.conflict_ledger.proofs.ghost_lines.GhostLines.with.Code as code

abbrev stayed : Stays f.ended.signature.params f.ended.kept
stayed = (stay_dropped _ yes, (stay_dropped _ yes, tt))

pub with_spec : {M : Type 1} → statement M
with_spec 𝓤 𝓛 𝓜 𝓡 wired =
    let c = f.clauses 𝓛 𝓜.mem 𝓡.returns in let W = walk_of 𝓛 f.ended stayed c in let 𝓣 = tables 𝓤 𝓛.H 𝓜 𝓡 𝓡.env in
    proved_at 𝓛 f.ended stayed c 𝓜 𝓡 (Goes-dropped 𝓛 2 (RefOf (0 ∷ []) tt (plain (λ _. the_row)) (λ _. tt)) yes (λ κs x w. refl), (Goes-dropped 𝓛 2 (RefOf (1 ∷ []) tt (plain (λ _. line_row)) (λ _. tt)) yes (λ κs x w. refl), tt))
    f.Key.name code.function (code.unfolded 𝓤 𝓛.H 𝓜 𝓡 wired)
    (λ y are.
    let At : List Val → List Val → W.Ghost = λ us ws. ((y.0.0, y.0.1, y.0.2, y.0.3, (us, (ws, tt))), y.1) in
    let Goes : List Val → List Val → Type 1 = λ us ws. ent 𝓤 (W.pre (At us ws)) (WpFn 𝓤 𝓛.H 𝓣.C 𝓣.Λ code.function (us ++ (ws ++ [])) (W.post (At us ws))) in
    let p = y.0.3.0.ref_ptr in let q = y.0.3.1.0.ref_ptr in
    let us : List Val = vptr p.0 p.1 ∷ [] in let ws : List Val = vptr q.0 q.1 ∷ [] in
    let v : Val = vstruct vnil in let r : Res f.signature y.0.0 = record { lines = y.0.3.0.now.lines ++ y.0.3.1.0.now ∷ [] } in
    let O : Fml = (type_at f.signature.result y.0.0).own_val r (v ∷ []) in
    let walk : Goes us ws =
    qed 𝓛 ((raw (alive 𝓛 f.signature y.0.0 y.0.1) ⊛ ‵ (owns (types_at f.signature.params y.0.0) y.0.3 (us, (ws, tt)))) ∷ ‵ ftrue ∷ []) ∵ split ! $ keep ! (0 ∷ []) $
    enter ! _ _ _ _ _ $ alloc_all ! (λ l. pass_all ! refl ((tt, tt), ((tt, tt), tt)) $
    sets ! (agg ! (no_more !)) refl (tt, tt) $
    returns ! (look_at ! 0 refl) $ free_all ! refl $
    use0 𝓛 (‵ O) (makes_shadow 𝓛 O ((λ _. (tt, tt)), tt) ((tt, (refl, tt)), tt)) $
    suffices ! _ (ends_at 𝓛 f.ended stayed c (At us ws) v r (tt, (tt, tt)) (tt, (tt, tt))) $ says ! refl $
    nothing ! $ nothing ! $ fjoin ! $ nothing ! $ fjoin ! $ join ! $ move ! (1 ∷ 0 ∷ []) $ join ! $ done !) in
    subst (λ xs. Goes xs y.0.4.1.0) (sym are.0.0) (subst (Goes us) (sym are.1.0.0) walk))
