use Rattle.mdp_print.proofs.Steps.{[], ◌∷◌, ◌++◌, refl, proved, ‵, raw, ◌⊛◌, ftrue, ◌$◌, ◌∵◌, !, qed, done, move, keep, split, fjoin, suffices, agg, enter, no_more, returns, alloc_all, pass_all, free_all, look_at, sets, yes, owns, shr_vals, RefOf, plain, types_at, named_lft, nothing, alive, Stays, walk_of, says, stay_dropped, Goes-dropped, ends_at, bare, makes_bare}
use Rattle.mdp_print.specs.contracts.taken_bytes.TakenBytes.{the_row as Row}
use Rattle.mdp_print.specs.contracts.taken_bytes.Bytes.{the_row as More}
use Rattle.mdp_print.specs.contracts.taken_bytes.TakenBytes.and as f
use Rattle.mdp_print.proofs.taken_bytes.TakenBytes.and.Statement.{statement}
use Rattle.mdp_print.proofs.taken_bytes.TakenBytes.and.Code as code

-- both references are let go
abbrev stayed : Stays f.ended.signature.params f.ended.kept
stayed = (stay_dropped _ yes, (stay_dropped _ yes, tt))

pub and_spec : {M : Type 1} → statement M
and_spec 𝓤 𝓛 𝓜 𝓡 wired =
    let c = f.clauses 𝓛 𝓜.mem 𝓡.returns in let W = walk_of 𝓛 f.ended stayed c in
    let self_goes = Goes-dropped 𝓛 3 (RefOf (0 ∷ []) tt (plain (λ _. Row)) (λ _. tt)) yes (λ κs x h. refl) in
    let more_goes = Goes-dropped 𝓛 3 (RefOf (1 ∷ []) tt (plain (λ κs. More (named_lft 3 2 tt κs))) (λ _. tt)) yes (λ κs x h. refl) in
    proved 𝓛 f.ended stayed c 𝓜 𝓡 (self_goes, (more_goes, tt))
    f.Key.name code.function (code.unfolded 𝓤 𝓛.H 𝓜 𝓡 wired)
    (λ κs. (shr_vals, (shr_vals, tt))) (λ κs. ((λ r vs s. s.0), ((λ r vs s. s.0), tt))) (λ κs qs bounds a _ are.
    let y : W.Ghost = ((κs, qs, bounds, a, (shr_vals a.0, (shr_vals a.1.0, tt))), tt) in
    let longer : Row.Denot = record { bytes = a.0.now.bytes ++ a.1.0.now.0.now } in
    qed 𝓛 ((raw (alive 𝓛 f.signature κs qs) ⊛ ‵ (owns (types_at f.signature.params κs) a y.0.4)) ∷ ‵ ftrue ∷ []) ∵ split ! $ keep ! (0 ∷ []) $
    enter ! _ _ _ _ _ $ alloc_all ! (λ l. pass_all ! refl ((tt, tt), ((tt, tt), tt)) $
    sets ! (agg ! (no_more !)) refl (tt, tt) $
    returns ! (look_at ! 0 refl) $ free_all ! refl $
    suffices ! _ (ends_at 𝓛 f.ended stayed c y bare longer (tt, (tt, tt)) (tt, (tt, tt))) $ says ! refl $
    -- the result, then what is left of the parameters, which is nothing
    nothing ! $ makes_bare ! $ fjoin ! $ nothing ! $ nothing ! $ fjoin ! $ nothing ! $ fjoin ! $ move ! (2 ∷ 0 ∷ 1 ∷ []) $ done !))
