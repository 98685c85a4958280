-- A handle that is not null gives its block, as that of a box that was taken apart.
use Rattle.std.proofs.Common.{◌≡◌, List, [], ◌∷◌, ◌++◌, refl, sym, subst, lit<}
use base.Fml.{ftrue}
use base.Logic.{SProp, ent, emp, id⊢}
use prog.Wp.{WpFn}
use mir.Syntax.{impl, tnil, dnil}
use mir.Val.{Val, vptr, vcons, vnil}
use contract.Monad.{fact, fact_i}
use contract.Running.{tables}
use denote.Exit.{yes}
use denote.Param.{layout}
use denote.RattleType.{RattleType, owns}
use denote.RawPtr.{Ptr, block_ptr, null_ptr, tests_null}
use denote.Signature.{types_at, type_at, plain}
use denote.Steps.{nothing}
use denote.Triple.Walked.{Stays, stay_dropped, walk_of, Goes-dropped}
use types.ByLocal.{alloc_all, pass_all, free_all, look_at, get, get_in, sets, env}
use types.Kit.{‵, raw, ◌⊛◌, at_ret, ◌$◌, ◌∵◌, !, qed, by, move, keep, split, fsplit, fjoin, use0, use1, suffices}
use types.Match.{live}
use types.Part.{agg, sub, whole}
use types.Run.{stop, fld, lit, of_opd, bin, no_more, and_then, first, branches, skips, exec, returns, returns_within, enter}
use Rattle.core.proofs.alloc.Calls.{Al, handle_tells}
use Rattle.core.proofs.alloc.Shapes.{after}
use Rattle.core.proofs.cell.Inside.{Good}
use Rattle.core.proofs.option.Made.{Some-of, none_of}
use Rattle.std.specs.Prelude.{Option, None, Some}
use Rattle.std.specs.Option.{option_map}
use Rattle.std.specs.contracts.alloc.Global as heap
use Rattle.std.specs.contracts.impls.GlobalAllocator.TheImpl.{ghosts}
use Rattle.std.proofs.alloc.Global.TheLaws as heap_laws
use Rattle.std.proofs.raw_atomic.Walks.{proved_at, leaves}
use Rattle.std_alloc.proofs.ResultValues.{and_tt}
use Rattle.mdp_boxes.proofs.Words.{Apart, two, two_good, goes_together}
use Rattle.mdp_session.specs.contracts.session.Session as session
use Rattle.mdp_c.specs.contracts.handle.Handle as handle
use Rattle.mdp_c.specs.contracts.handle.Handle.into_loose_box as f
use Rattle.mdp_c.proofs.Words.{word, word_fits, address_fits, by_state}
use Rattle.mdp_c.proofs.handle.Handle.into_loose_box.Statement.{statement}
use Rattle.mdp_c.proofs.handle.Handle.into_loose_box.Code as code

abbrev S : RattleType
S = session.the_row

abbrev Z : RattleType
Z = heap.the_row

abbrev Loose : RattleType
Loose = Apart S Z heap_laws.the_row_laws ghosts

abbrev allocator : Al
allocator = record { row = Z; laws = heap_laws.the_row_laws; g = ghosts; d = impl [] tnil dnil; drops = impl [] tnil dnil }

abbrev moved : Stays f.ended.signature.params f.ended.kept
moved = (stay_dropped (plain (λ _. handle.the_row)) yes, (stay_dropped (plain (λ _. Z)) yes, tt))

pub into_loose_box_spec : {M : Type 1} → statement M
into_loose_box_spec 𝓤 𝓛 𝓜 𝓡 wired =
    let clauses = f.clauses 𝓛 𝓜.mem 𝓡.returns in let machine = tables 𝓤 𝓛.H 𝓜 𝓡 𝓡.env in
    proved_at 𝓛 f.ended moved clauses 𝓜 𝓡 (Goes-dropped 𝓛 0 (plain (λ _. handle.the_row)) yes (λ κs x w. refl), (Goes-dropped 𝓛 0 (plain (λ _. Z)) yes (λ κs x w. refl), tt))
    f.Key.name code.function (code.unfolded 𝓤 𝓛.H 𝓜 𝓡 wired) (λ z _.
    let given = z.0.3.0 in let a = z.0.3.1.0 in
    let Ends : Val → SProp 𝓤 = (walk_of 𝓛 f.ended moved clauses).post z in
    let Runs : List Val → SProp 𝓤 = λ ws. WpFn 𝓤 𝓛.H machine.C machine.Λ code.function ws Ends in
    let Out : RattleType = type_at f.signature.result z.0.0 in
    let Is : Option Loose.Denot → Type 0 = λ found. given.held ≡ option_map (λ (l : Loose.Denot). l.value) found in
    qed 𝓛 ((‵ ftrue ⊛ ‵ (owns (types_at f.signature.params z.0.0) z.0.3 z.0.4)) ∷ raw ((clauses z.0.0 z.0.3).requires z.1) ∷ []) ∵
    split ! $ move ! (1 ∷ []) $ fsplit ! $ move ! (1 ∷ []) $ fsplit ! $
    -- the allocator's word first, for both states
    handle_tells allocator ! a z.0.4.1.0 (λ h handle_is good. keep ! (2 ∷ 0 ∷ []) $
    let words : (p : Ptr) → z.0.4.0 ≡ word p ∷ [] → ent 𝓤 (Runs (word p ∷ h ∷ [])) (Runs (z.0.4.0 ++ (z.0.4.1.0 ++ []))) = λ p is.
    subst (λ (us : List Val). ent 𝓤 (Runs (word p ∷ h ∷ [])) (Runs us)) (sym (λ i. is i ++ (handle_is i ++ []))) (id⊢ 𝓤 (Runs (word p ∷ h ∷ []))) in
    by_state ! given z.0.4.0
    -- closed
    (λ none null is. keep ! [] $ suffices ! (Runs (word null_ptr ∷ h ∷ [])) (words null_ptr is) $
    enter ! machine.C machine.Λ code.function (word null_ptr ∷ h ∷ []) Ends $
    alloc_all ! (λ l. pass_all ! refl (word_fits null_ptr, (good, tt)) $
    sets ! (of_opd ! (get_in ! (fld ! refl (stop !)) (sub ! 0 refl (whole !)))) refl (address_fits null_ptr) $ sets ! (bin ! (get ! refl) (lit ! tt) tt) refl (tt, tt) $
    first ! $ branches ! (get ! refl)
    (λ _. sets ! (agg ! (and_then ! (lit ! tt) (no_more !))) refl (tt, (record { fits = lit< tt }, tt)) $
    returns_within ! Ends refl (look_at ! 0 refl) $ free_all ! refl $
    use0 𝓛 (raw (fact 𝓤 (Is None))) (fact_i 𝓤 (Is None) (emp 𝓤) none) $
    use0 𝓛 (‵ (Out.own_val None (live 0 vnil ∷ []))) (none_of 𝓛 Loose) $
    nothing ! $ nothing ! $ fjoin ! $ nothing ! $ fjoin ! $ nothing ! $
    by ! (leaves 𝓛 f.ended moved clauses z (live 0 vnil) None (tt, (tt, tt)) (tt, (tt, tt))))
    (λ differs. absurd differs)))
    -- open
    (λ from b o v some there is can. suffices ! (Runs (word (block_ptr b o) ∷ h ∷ [])) (words (block_ptr b o) is) $
    let pair : Val = two (vptr b o) h in let fits = two_good S Z heap_laws.the_row_laws ghosts b o h good in
    let found : Loose.Denot = record { address = block_ptr b o; alloc = a; value = v } in
    let out : Val = live 1 (vcons pair vnil) in
    let out_good : Good (layout Out) out = (and_tt _ fits.0, (record { fits = lit< tt }, (fits.1, tt))) in
    enter ! machine.C machine.Λ code.function (word (block_ptr b o) ∷ h ∷ []) Ends $
    alloc_all ! (λ l. pass_all ! refl (word_fits (block_ptr b o), (good, tt)) $
    sets ! (of_opd ! (get_in ! (fld ! refl (stop !)) (sub ! 0 refl (whole !)))) refl (tt, tt) $
    sets ! (bin ! (get ! refl) (lit ! tt) (tests_null (block_ptr b o) can)) refl (tt, tt) $ first ! $ branches ! (get ! refl)
    (λ differs. absurd differs)
    (λ _. skips ! $ exec ! machine.C machine.Λ (env code.function.locals l) (after 3 code.function.body) (at_ret (env code.function.locals l) Ends) $
    sets ! (of_opd ! (get ! refl)) refl (tt, tt) $ sets ! (agg ! (and_then ! (get ! refl) (and_then ! (get ! refl) (no_more !)))) refl fits $
    sets ! (agg ! (and_then ! (lit ! tt) (and_then ! (get ! refl) (no_more !)))) refl out_good $
    goes_together S Z heap_laws.the_row_laws ghosts ! b o h a v $
    use1 𝓛 (‵ (Out.own_val (Some found) (out ∷ []))) (Some-of 𝓛 Loose found pair) $ returns ! (look_at ! 0 refl) $ free_all ! refl $
    use0 𝓛 (raw (fact 𝓤 (Is (Some found)))) (fact_i 𝓤 (Is (Some found)) (emp 𝓤) some) $ move ! (1 ∷ []) $
    nothing ! $ nothing ! $ fjoin ! $ nothing ! $ fjoin ! $ nothing ! $
    by ! (leaves 𝓛 f.ended moved clauses z out (Some found) (tt, (tt, tt)) (tt, (tt, tt))))))))
