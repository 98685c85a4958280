use Rattle.mdp_print.proofs.Steps.{[], ◌∷◌, refl, proved, ‵, raw, ◌⊛◌, ftrue, ◌$◌, ◌∵◌, !, qed, done, move, keep, split, fjoin, suffices, agg, enter, no_more, returns, alloc_all, pass_all, free_all, look_at, sets, owns, types_at, nothing, alive, Stays, walk_of, says, ends_at, bare, makes_bare}
use Rattle.mdp_print.specs.contracts.taken_bytes.TakenBytes.{the_row as Row}
use Rattle.mdp_print.specs.contracts.taken_bytes.TakenBytes.none as f
use Rattle.mdp_print.proofs.taken_bytes.TakenBytes.none.Statement.{statement}
use Rattle.mdp_print.proofs.taken_bytes.TakenBytes.none.Code as code

abbrev stayed : Stays f.ended.signature.params f.ended.kept
stayed = tt

pub none_spec : {M : Type 1} → statement M
none_spec 𝓤 𝓛 𝓜 𝓡 wired =
    let c = f.clauses 𝓛 𝓜.mem 𝓡.returns in let W = walk_of 𝓛 f.ended stayed c in
    proved 𝓛 f.ended stayed c 𝓜 𝓡 tt
    f.Key.name code.function (code.unfolded 𝓤 𝓛.H 𝓜 𝓡 wired)
    (λ κs. tt) (λ κs. tt) (λ κs qs bounds a _ are.
    let y : W.Ghost = ((κs, qs, bounds, a, tt), tt) in
    let empty : Row.Denot = record { bytes = [] } in
    qed 𝓛 ((raw (alive 𝓛 f.signature κs qs) ⊛ ‵ (owns (types_at f.signature.params κs) a tt)) ∷ ‵ ftrue ∷ []) ∵ split ! $ keep ! (0 ∷ []) $
    enter ! _ _ _ _ _ $ alloc_all ! (λ l. pass_all ! refl tt $
    sets ! (agg ! (no_more !)) refl (tt, tt) $
    returns ! (look_at ! 0 refl) $ free_all ! refl $
    suffices ! _ (ends_at 𝓛 f.ended stayed c y bare empty tt tt) $ says ! refl $
    -- the result, then what is left of no parameters
    nothing ! $ makes_bare ! $ fjoin ! $ nothing ! $ move ! (2 ∷ 0 ∷ 1 ∷ []) $ done !))
