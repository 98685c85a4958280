-- The machine word of a handle, and what a handle owns by its two states. Assumes `Logic`.
use Rattle.std.proofs.Common.{◌≡◌, ℕ, List, [], ◌∷◌, ◌++◌, refl, ap, ◌∙◌, lit<}
use lib.Dec.{T}
use seplogic.Ra.Ura.{Ura}
use mir.Syntax.{ty_ptr}
use mir.Raw.{raw as bare}
use mir.Val.{Val, vstruct, vcons, vnil, of_list, has_ty, WT}
use base.Logic.{ent, via, fst∗, snd∗, never, never_e, guard, guard_i}
use base.Fml.{ftrue}
use base.Fraction.{full_share}
use types.Logic.{Logic, sem}
use types.Kit.{Item, Goal, Seq, Step, step, ‵, ◌$◌, drop, fsplit, fjoin, fpick, fpack, feq_i, feq_l, given, learn, use1}
use contract.Monad.{fact_use}
use denote.RattleType.{Valss}
use denote.Builtin.{RawPtr}
use denote.Memory.{lone}
use denote.Param.{layout}
use denote.RawPtr.{Ptr, block_ptr, null_ptr, ptr_val, lies_at, Testable}
use denote.Steps.{nothing}
use denote.Struct.Struct.{within}
use denote.Struct.Owning.{shape}
use Rattle.std.specs.Prelude.{Option, None, Some}
use Rattle.std.specs.declared.alloc.Global.{Global}
use Rattle.std.specs.contracts.impls.GlobalAllocator.TheImpl.{ghosts}
use Rattle.std.proofs.GlobalToken.{dealloc_token-Testable}
use Rattle.mdp_engine.specs.Engine.{View}
use Rattle.mdp_session.specs.contracts.session.Session as session
use Rattle.mdp_c.specs.Handle.{owns_block, owns_session}
use Rattle.mdp_c.specs.contracts.handle.Handle as handle
use Rattle.mdp_c.specs.declared.handle.Handle.{Handle}

-- the struct of one address
abbrev pub word : Ptr → Val
word p = vstruct (vcons (ptr_val p) vnil)

pub address_fits : (p : Ptr) → T (has_ty ty_ptr (ptr_val p)) × WT (ptr_val p)
address_fits null_ptr = (tt, record { fits = lit< tt })
address_fits (block_ptr b o) = (tt, tt)

pub word_fits : (p : Ptr) → T (has_ty (layout handle.the_row) (word p)) × WT (word p)
word_fits null_ptr = (tt, (record { fits = lit< tt }, tt))
word_fits (block_ptr b o) = (tt, (tt, tt))

-- the address of a block that may be freed may be compared with null
may_be_tested : {M : Type 1} {𝓤 : Ura M} (𝓛 : Logic 𝓤) (p : Ptr) (v : View) (a : Global) → ent 𝓤 (sem 𝓛 (owns_block p v a)) (guard 𝓤 (Testable p) (sem 𝓛 (owns_block p v a)))
may_be_tested {𝓤 = 𝓤} 𝓛 p v a =
    let block = bare (lone session.the_row.mir) in
    let value = sem 𝓛 (lies_at session.the_row full_share p v) in let token = sem 𝓛 (ghosts.dealloc_token a block p) in
    fact_use 𝓤 (Testable p) (via 𝓤 token (snd∗ 𝓤 value token) (dealloc_token-Testable 𝓛 a block p)) (guard_i 𝓤 (Testable p) (sem 𝓛 (owns_block p v a)))

module _ {M : Type 1} {𝓤 : Ura M} {𝓛 : Logic 𝓤} {K : Type 0} {Γ : List (Item 𝓤)} {G : Goal 𝓤 𝓛.H} where
  -- what is owned at an address: nothing, and that is null, or a session in a block
  by_address : K → (p : Ptr) (x : Option View)
      → (x ≡ None → p ≡ null_ptr → Seq K 𝓛 Γ G)
      → ((a : Global) (b o : ℕ) (v : View) → x ≡ Some v → p ≡ block_ptr b o → Testable (block_ptr b o) → Seq K 𝓛 (‵ (owns_block (block_ptr b o) v a) ∷ Γ) G)
      → Seq K 𝓛 (‵ (owns_session p x) ∷ Γ) G
  by_address t p None closed open' = feq_l t (λ at_null. closed refl at_null)
  by_address t (block_ptr b o) (Some v) closed open' =
      fpick t (λ a. use1 𝓛 (given (Testable (block_ptr b o)) (‵ (owns_block (block_ptr b o) v a))) (may_be_tested 𝓛 (block_ptr b o) v a) $ learn t (λ can. open' a b o v refl refl can))
  by_address t null_ptr (Some v) closed open' =
      fpick t (λ a. use1 𝓛 (given ⊥ (‵ ftrue)) (via 𝓤 (never 𝓤) (fst∗ 𝓤 (never 𝓤) (sem 𝓛 (ghosts.dealloc_token a (bare (lone session.the_row.mir)) null_ptr))) (never_e 𝓤 _)) $ learn t (λ no. absurd no))

  -- a handle is closed or open, by its word; open it gives its block
  pub by_state : K → (h : Handle) (vs : List Val)
      → (h.held ≡ None → h.address ≡ null_ptr → vs ≡ word null_ptr ∷ [] → Seq K 𝓛 Γ G)
      → ((a : Global) (b o : ℕ) (v : View) → h.held ≡ Some v → h.address ≡ block_ptr b o → vs ≡ word (block_ptr b o) ∷ [] → Testable (block_ptr b o) → Seq K 𝓛 (‵ (owns_block (block_ptr b o) v a) ∷ Γ) G)
      → Seq K 𝓛 (‵ (handle.the_row.own_val h vs) ∷ Γ) G
  by_state t h vs closed open' =
      fsplit t $ fpick t (λ fields. fsplit t $ feq_l t (λ whole. fsplit t $ feq_l t (λ address. drop t $
      let is : vs ≡ word h.address ∷ [] = whole ∙ ap (λ (us : List Val). vstruct (of_list (us ++ [])) ∷ []) address in
      let at = λ (p : Ptr) (e : h.address ≡ p). is ∙ ap (λ (q : Ptr). word q ∷ []) e in
      by_address t h.address h.held (λ none null. closed none null (at null_ptr null)) (λ a b o v some there can. open' a b o v some there (at (block_ptr b o) there) can))))

  -- an address and what is owned there are a handle
  pub as_handle : K → (p : Ptr) (x : Option View)
      → Step K 𝓛 (‵ (handle.the_row.own_val (record { address = p; held = x }) (word p ∷ [])) ∷ Γ) G (‵ (owns_session p x) ∷ Γ) G
  as_handle t p x = step (λ rest.
      let at : List Val = ptr_val p ∷ [] in let whole : List Val = word p ∷ [] in
      nothing t $ feq_i t (List Val) at at refl $ fjoin t $ feq_i t (List Val) whole whole refl $ fjoin t $
      fpack t (Valss (RawPtr ∷ [])) (within (shape handle.the_type) (p, tt) whole) (at, tt) $ fjoin t $ rest)
