-- `none` makes a value of no bytes, whose ghost field has no line.
use mathlib.Core.{Path.refl, List.{[], ◌∷◌}}
use mir.Val.{Val, vstruct, vnil}
use base.Fml.{Fml, ftrue}
use contract.Running.{tables}
use types.{Kit.{‵, raw, ◌⊛◌, ◌$◌, ◌∵◌, !, qed, move, keep, split, join, use0, suffices, done}, Run.{no_more, returns, enter}, Part.agg, ByLocal.{alloc_all, pass_all, free_all, look_at, sets}}
use denote.{Shadow.makes_shadow, Steps.nothing, RattleType.owns, Signature.{types_at, type_at}, Triple.{Entry.{alive, Res}, Walked.{says, Stays, walk_of, ends_at}}}
use Rattle.std.proofs.raw_atomic.Walks.{proved_at}
use Rattle.conflict_ledger.specs.contracts.ghost_lines.GhostLines.none as f
use Rattle.conflict_ledger.proofs.ghost_lines.GhostLines.none.Statement.{statement}
use Rattle.conflict_ledger.proofs.ghost_lines.GhostLines.none.Code as code

abbrev stayed : Stays f.ended.signature.params f.ended.kept
stayed = tt

pub none_spec : {M : Type 1} → statement M
none_spec 𝓤 𝓛 𝓜 𝓡 wired =
    let c = f.clauses 𝓛 𝓜.mem 𝓡.returns in let W = walk_of 𝓛 f.ended stayed c in let 𝓣 = tables 𝓤 𝓛.H 𝓜 𝓡 𝓡.env in
    proved_at 𝓛 f.ended stayed c 𝓜 𝓡 tt
    f.Key.name code.function (code.unfolded 𝓤 𝓛.H 𝓜 𝓡 wired)
    (λ y are. let v : Val = vstruct vnil in let r : Res f.signature y.0.0 = record { lines = [] } in
    let O : Fml = (type_at f.signature.result y.0.0).own_val r (v ∷ []) in
    qed 𝓛 ((raw (alive 𝓛 f.signature y.0.0 y.0.1) ⊛ ‵ (owns (types_at f.signature.params y.0.0) y.0.3 y.0.4)) ∷ ‵ ftrue ∷ []) ∵ split ! $ keep ! (0 ∷ []) $
    enter ! _ _ _ _ _ $ alloc_all ! (λ l. pass_all ! refl tt $
    sets ! (agg ! (no_more !)) refl (tt, tt) $
    returns ! (look_at ! 0 refl) $ free_all ! refl $
    use0 𝓛 (‵ O) (makes_shadow 𝓛 O ((λ _. (tt, tt)), tt) ((tt, (refl, tt)), tt)) $
    suffices ! _ (ends_at 𝓛 f.ended stayed c y v r tt tt) $ says ! refl $
    nothing ! $ join ! $ move ! (1 ∷ 0 ∷ []) $ join ! $ done !))
