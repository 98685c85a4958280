-- The session is lent where it lies, and the handle has what the loan leaves there.
use Rattle.std.proofs.Common.{◌≡◌, ℕ, List, [], ◌∷◌, refl, sym, subst}
use lib.Dec.{T}
use base.Fml.{GName, Fml, ftrue, flft, fsep}
use base.Fraction.{full_share}
use base.Logic.{SProp, ent, sep, id⊢}
use seplogic.Ra.Ura.{Ura}
use mir.Raw.{raw as bare}
use mir.Syntax.{named}
use mir.Val.{Val, vptr}
use contract.Monad.{fact}
use contract.Running.{tables}
use denote.Exit.{no}
use denote.Follow.{follows, Part, lends_Part}
use denote.Memory.{part_at, part_of, mem, cell_at, lone}
use denote.RattleType.{RattleType}
use denote.RawPtr.{Ptr, block_ptr}
use denote.Ref.{MutBor, MutRef, mut_vals, mut_Tells}
use denote.Signature.{plain, mut_ref_to}
use denote.Steps.{nothing, opens, heard}
use denote.Triple.Walked.{Stays, stay_dropped, walk_of, says, ends_at, Goes-spent_ref}
use types.ByLocal.{alloc_all, pass_all, free_all, look_at, get, through, sets, sets_last, env}
use types.Kit.{‵, raw, ◌⊛◌, some, later, at_ret, ◌$◌, ◌∵◌, !, qed, move, keep, use1, split, split3, join, pick, fsplit, fsplit3, fjoin, fpack, await, group, rewrite, suffices, frame, done}
use types.Logic.{Logic, sem}
use types.Part.{whole, sub, look_in}
use types.Run.{stop, fld, load, addr, of_opd, first, blocks, exec, returns, enter}
use Rattle.core.proofs.alloc.Shapes.{after}
use Rattle.std.specs.Prelude.{Some, IsSome}
use Rattle.std.specs.declared.alloc.Global.{Global}
use Rattle.std.specs.contracts.impls.GlobalAllocator.TheImpl.{ghosts}
use Rattle.std.proofs.raw_atomic.Walks.{proved}
use Rattle.mdp_engine.specs.Engine.{View}
use Rattle.mdp_session.specs.contracts.session.Session as session
use Rattle.mdp_c.specs.Handle.{owns_block}
use Rattle.mdp_c.specs.Lending.{with_session}
use Rattle.mdp_c.specs.contracts.handle.Handle as handle
use Rattle.mdp_c.specs.contracts.handle.Handle.session as f
use Rattle.mdp_c.specs.declared.handle.Handle.{Handle}
use Rattle.mdp_c.proofs.Words.{word, as_handle, by_state}
use Rattle.mdp_c.proofs.handle.Handle.session.Statement.{statement}
use Rattle.mdp_c.proofs.handle.Handle.session.Code as code

abbrev S : RattleType
S = session.the_row

abbrev H : RattleType
H = handle.the_row

abbrev spent : Stays f.ended.signature.params f.ended.kept
spent = (stay_dropped (mut_ref_to (0 ∷ []) tt (plain (λ _. H))) no, tt)

-- what the handle keeps while the session is lent: its word, and the right to free the block
abbrev Kept : Global → ℕ → ℕ → ℕ → ℕ → Fml
Kept a b o at_b at_o = fsep (ghosts.dealloc_token a (bare (lone S.mir)) (block_ptr b o)) (cell_at full_share H.mir (word (block_ptr b o) ∷ []) at_b at_o)

-- with the session that comes back this is a handle again
comes_back : {M : Type 1} {𝓤 : Ura M} (𝓛 : Logic 𝓤) (h : Handle) (a : Global) (b o at_b at_o : ℕ) → h.address ≡ block_ptr b o → (v : View)
    → ent 𝓤 (sep 𝓤 (sem 𝓛 ((mem S).own_at v b o)) (sem 𝓛 (Kept a b o at_b at_o))) (sem 𝓛 ((mem H).own_at (with_session h v) at_b at_o))
unfolding part_of
comes_back 𝓛 h a b o at_b at_o there v =
    qed 𝓛 (‵ (part_at S full_share v b o) ∷ ‵ (Kept a b o at_b at_o) ∷ []) ∵
    move ! (1 ∷ []) $ fsplit ! $ move ! (2 ∷ 0 ∷ []) $ fjoin ! $
    fpack ! Global (owns_block (block_ptr b o) v) a $ as_handle ! (block_ptr b o) (Some v) $
    rewrite ! 0 (λ (p : Ptr). ‵ (H.own_val (record { address = p; held = Some v }) (word (block_ptr b o) ∷ []))) (sym there) refl $
    move ! (1 ∷ 0 ∷ []) $ fjoin ! $
    fpack ! (List Val) (λ us. fsep (cell_at full_share H.mir us at_b at_o) (H.own_val (with_session h v) us)) (word (block_ptr b o) ∷ []) $ done !

pub session_spec : {M : Type 1} → statement M
session_spec 𝓤 𝓛 𝓜 𝓡 wired =
    let clauses = f.clauses 𝓛 𝓜.mem 𝓡.returns in let machine = tables 𝓤 𝓛.H 𝓜 𝓡 𝓡.env in
    proved 𝓛 f.ended spent clauses 𝓜 𝓡 (Goes-spent_ref 𝓛 1 (0 ∷ []) tt (plain (λ _. H)), tt)
    f.Key.name code.function (code.unfolded 𝓤 𝓛.H 𝓜 𝓡 wired)
    (λ κs. (mut_vals, tt)) (λ κs. (mut_Tells (named 0) κs.0 H, tt)) (λ κs qs bounds x _ _.
    let κ = κs.0 in let q = qs.0 in let self = x.0 in let at_b = self.ref_ptr.0 in let at_o = self.ref_ptr.1 in let γ = self.ghost_name in let h = self.now in
    let at_end : (walk_of 𝓛 f.ended spent clauses).Ghost = ((κs, qs, bounds, x, (mut_vals self, tt)), tt) in
    let Ends : Val → SProp 𝓤 = (walk_of 𝓛 f.ended spent clauses).post at_end in
    let Cell = λ (ws : List Val). ‵ (cell_at full_share H.mir ws at_b at_o) in
    qed 𝓛 (((‵ (flft κ q) ⊛ ‵ ftrue) ⊛ ‵ ((MutRef (named 0) κ H).own_val self (mut_vals self)) ⊛ ‵ ftrue) ∷ raw (fact 𝓤 (IsSome h.held)) ∷ []) ∵
    move ! (1 ∷ []) $ heard ! _ (λ is_open. split ! $ split ! $ move ! (2 ∷ []) $ split ! $ keep ! (0 ∷ 2 ∷ []) $
    enter ! _ _ _ _ _ $ alloc_all ! (λ l. pass_all ! refl ((tt, tt), tt) $
    fsplit3 ! $ move ! (1 ∷ 2 ∷ 3 ∷ []) $ opens ! tt H at_b at_o (λ us. move ! (1 ∷ []) $
    by_state ! h us
    -- it is not closed
    (λ none null is. absurd (subst T (sym (subst IsSome none is_open)) tt))
    (λ a b o v some' there is can.
    -- [the session; the right to free its block; the handle's cell; the open borrow]
    fsplit ! $ rewrite ! 2 Cell is refl $ first ! $ blocks ! $
    sets ! (of_opd ! (load ! (through ! refl (fld ! refl (stop !))) (look_in ! 2 (sub ! 0 refl (whole !))))) refl (tt, tt) $
    sets ! (of_opd ! (get ! refl)) refl (tt, tt) $
    sets_last ! (addr ! (through ! refl (stop !))) refl (tt, tt) $
    exec ! machine.C machine.Λ (env code.function.locals l) (after 1 code.function.body) (at_ret (env code.function.locals l) Ends) $
    sets ! (of_opd ! (get ! refl)) refl (tt, tt) $
    move ! (1 ∷ 2 ∷ []) $ fjoin ! $ move ! (2 ∷ 3 ∷ 4 ∷ 1 ∷ 0 ∷ []) $ group ! 5 $
    -- the loan, under a name of its own
    let back = comes_back 𝓛 h a b o at_b at_o there in let kept = sem 𝓛 (Kept a b o at_b at_o) in
    use1 𝓛 (later (some (λ (δ : GName). raw (Part 𝓛 H S (with_session h) (named 0) κ q at_b at_o b o γ kept back v δ))))
    (lends_Part 𝓛 H S (with_session h) (named 0) κ q at_b at_o b o γ kept back (H.coded.code h) (H.coded.code h) v) $ await ! tt $ pick ! (λ δ.
    returns ! (look_at ! 0 refl) $ free_all ! refl $ keep ! (0 ∷ []) $
    let loan : MutBor View = record { ref_ptr = (b, o); ghost_name = δ; now = v } in
    use1 𝓛 (‵ ((MutRef (named 0) κ S).own_val loan (vptr b o ∷ [])) ⊛ ‵ (flft κ q) ⊛ ‵ (follows H S γ δ (with_session h))) (id⊢ 𝓤 _) $ split3 ! $
    suffices ! _ (ends_at 𝓛 f.ended spent clauses at_end (vptr b o) loan (tt, tt) (tt, tt)) $
    nothing ! $ nothing ! $ fjoin ! $ join ! $ nothing ! $ move ! (2 ∷ 0 ∷ []) $ join ! $ join ! $ frame ! $ says ! (sym some') $ done !))))))
