-- Whether a handle is open is told by a test for null, and nothing changes.
use Rattle.std.proofs.Common.{◌≡◌, List, [], ◌∷◌, refl, sym, ap}
use mathlib.Core.Bool.{true, false}
use base.Fml.{ftrue, flft}
use base.Fraction.{full_share}
use mir.Syntax.{named}
use mir.Val.{Val, vbool}
use contract.Running.{tables}
use denote.Memory.{cell_at}
use denote.RattleType.{RattleType}
use denote.RawPtr.{Ptr, block_ptr, null_ptr, tests_null}
use denote.Ref.{MutRef, mut_vals, mut_Tells}
use denote.Signature.{plain}
use denote.Steps.{nothing, opens, closes}
use denote.Triple.Walked.{Stays, stay_ref, walk_of, says, ends_at, Goes-ref}
use types.ByLocal.{alloc_all, pass_all, free_all, look_at, get, through, sets}
use types.Kit.{‵, raw, ◌⊛◌, ◌$◌, ◌∵◌, !, qed, move, keep, split, join, fsplit3, fpack, feq_i, group, rewrite, suffices, frame, done}
use types.Part.{whole, sub, look_in}
use types.Run.{stop, fld, load, lit, un, bin, of_opd, returns, enter}
use Rattle.std.specs.Prelude.{Option, None, Some, is_some}
use Rattle.std.specs.declared.alloc.Global.{Global}
use Rattle.std.proofs.raw_atomic.Walks.{proved}
use Rattle.mdp_engine.specs.Engine.{View}
use Rattle.mdp_c.specs.Handle.{owns_block}
use Rattle.mdp_c.specs.contracts.handle.Handle as handle
use Rattle.mdp_c.specs.contracts.handle.Handle.is_open as f
use Rattle.mdp_c.specs.declared.handle.Handle.{Handle}
use Rattle.mdp_c.proofs.Words.{word, address_fits, as_handle, by_state}
use Rattle.mdp_c.proofs.handle.Handle.is_open.Statement.{statement}
use Rattle.mdp_c.proofs.handle.Handle.is_open.Code as code

abbrev H : RattleType
H = handle.the_row

abbrev stays : Stays f.ended.signature.params f.ended.kept
stays = (stay_ref (0 ∷ []) tt (plain (λ _. H)), tt)

-- the handle of an address and of what is held there
same_handle : (h : Handle) (p : Ptr) (x : Option View) → h.address ≡ p → h.held ≡ x → ◌≡◌ {A = Handle} (record { address = p; held = x }) h
same_handle h p x there held = λ i. record { address = sym there i; held = sym held i }

tells : (h : Handle) (x : Option View) → h.held ≡ x → is_some x ≡ is_some h.held
tells h x held = ap (λ (y : Option View). is_some y) (sym held)

pub is_open_spec : {M : Type 1} → statement M
is_open_spec 𝓤 𝓛 𝓜 𝓡 wired =
    let clauses = f.clauses 𝓛 𝓜.mem 𝓡.returns in let machine = tables 𝓤 𝓛.H 𝓜 𝓡 𝓡.env in
    proved 𝓛 f.ended stays clauses 𝓜 𝓡 (Goes-ref 𝓛 1 0 tt (plain (λ _. H)), tt)
    f.Key.name code.function (code.unfolded 𝓤 𝓛.H 𝓜 𝓡 wired)
    (λ κs. (mut_vals, tt)) (λ κs. (mut_Tells (named 0) κs.0 H, tt)) (λ κs qs bounds x _ _.
    let self = x.0 in let b = self.ref_ptr.0 in let o = self.ref_ptr.1 in let h = self.now in
    let at_end : (walk_of 𝓛 f.ended stays clauses).Ghost = ((κs, qs, bounds, x, (mut_vals self, tt)), tt) in
    let Cell = λ (ws : List Val). ‵ (cell_at full_share H.mir ws b o) in
    qed 𝓛 (((‵ (flft κs.0 qs.0) ⊛ ‵ ftrue) ⊛ ‵ ((MutRef (named 0) κs.0 H).own_val self (mut_vals self)) ⊛ ‵ ftrue) ∷ raw ((clauses κs x).requires tt) ∷ []) ∵
    split ! $ split ! $ move ! (2 ∷ []) $ split ! $ keep ! (0 ∷ 2 ∷ []) $ enter ! _ _ _ _ _ $ alloc_all ! (λ l. pass_all ! refl ((tt, tt), tt) $
    fsplit3 ! $ move ! (1 ∷ 2 ∷ 3 ∷ []) $ opens ! tt H b o (λ us. move ! (1 ∷ []) $
    by_state ! h us
    -- closed: null is read, and found to be null
    (λ none null is. rewrite ! 0 Cell is refl $
    sets ! (of_opd ! (load ! (through ! refl (fld ! refl (stop !))) (look_in ! 0 (sub ! 0 refl (whole !))))) refl (address_fits null_ptr) $
    sets ! (bin ! (get ! refl) (lit ! tt) tt) refl (tt, tt) $ sets ! (un ! (get ! refl) tt) refl (tt, tt) $
    feq_i ! Ptr null_ptr null_ptr refl $ as_handle ! null_ptr None $
    rewrite ! 0 (λ (d : Handle). ‵ (H.own_val d (word null_ptr ∷ []))) (same_handle h null_ptr None null none) refl $
    move ! (1 ∷ []) $ closes ! tt H h (word null_ptr ∷ []) b o $ returns ! (look_at ! 0 refl) $ free_all ! refl $ move ! (3 ∷ []) $
    suffices ! _ (ends_at 𝓛 f.ended stays clauses at_end (vbool false) false (h, tt) (tt, tt)) $ says ! (refl, tells h None none) $
    group ! 3 $ nothing ! $ move ! (1 ∷ 0 ∷ []) $ join ! $ nothing ! $ move ! (2 ∷ 0 ∷ []) $ join ! $ frame ! $ frame ! $
    feq_i ! (List Val) (vbool false ∷ []) (vbool false ∷ []) refl $ done !)
    -- open: the block's address is read, which may be compared with null
    (λ a b' o' v some there is can. rewrite ! 1 Cell is refl $
    sets ! (of_opd ! (load ! (through ! refl (fld ! refl (stop !))) (look_in ! 1 (sub ! 0 refl (whole !))))) refl (tt, tt) $
    sets ! (bin ! (get ! refl) (lit ! tt) (tests_null (block_ptr b' o') can)) refl (tt, tt) $ sets ! (un ! (get ! refl) tt) refl (tt, tt) $
    fpack ! Global (owns_block (block_ptr b' o') v) a $ as_handle ! (block_ptr b' o') (Some v) $
    rewrite ! 0 (λ (d : Handle). ‵ (H.own_val d (word (block_ptr b' o') ∷ []))) (same_handle h (block_ptr b' o') (Some v) there some) refl $
    move ! (1 ∷ []) $ closes ! tt H h (word (block_ptr b' o') ∷ []) b o $ returns ! (look_at ! 0 refl) $ free_all ! refl $ move ! (3 ∷ []) $
    suffices ! _ (ends_at 𝓛 f.ended stays clauses at_end (vbool true) true (h, tt) (tt, tt)) $ says ! (refl, tells h (Some v) some) $
    group ! 3 $ nothing ! $ move ! (1 ∷ 0 ∷ []) $ join ! $ nothing ! $ move ! (2 ∷ 0 ∷ []) $ join ! $ frame ! $ frame ! $
    feq_i ! (List Val) (vbool true ∷ []) (vbool true ∷ []) refl $ done !))))
