-- A box that was taken apart, by its two machine words: the address of its block and the allocator's handle. Assumes `Logic`.
use Rattle.std.proofs.Common.{◌≡◌, ℕ, List, [], ◌∷◌, ◌++◌, refl, sym, ap, ◌∙◌, subst}
use mathlib.Core.Bool.{true, ◌&&◌}
use lib.Dec.{T}
use seplogic.Ra.Ura.{Ura}
use mir.Syntax.{impl, tnil, dnil}
use mir.Raw.{raw as bare}
use mir.Val.{Val, vptr, vstruct, vcons, vnil, of_list, has_ty, WT}
use base.Logic.{SProp, ent, never, fst∗, id⊢}
use types.Logic.{Logic, sem}
use types.Kit.{Item, Goal, Seq, Step, step, ‵, ◌$◌, move, drop, fsplit, fjoin, fpick, fpack, feq_i, feq_l}
use denote.RattleType.{RattleType, Valss}
use denote.Builtin.{RawPtr}
use denote.Memory.{lone}
use denote.RawPtr.{Ptr, block_ptr, null_ptr, ptr_val, in_a_block}
use denote.Steps.{nothing}
use denote.Param.{layout}
use denote.Param.Laws.{Laws}
use denote.Struct.Struct.{within}
use denote.Struct.Owning.{shape}
use Rattle.core.specs.declared.alloc.Allocator.{Ghosts}
use Rattle.core.proofs.alloc.Calls.{Al, handle_tells}
use Rattle.core.proofs.cell.Inside.{Good}
use Rattle.std_alloc.specs.Box.Ownership.{box_owns}
use Rattle.std_alloc.proofs.ResultValues.{and_tt}
use Rattle.mdp_boxes.specs.contracts.loose_box.LooseBox as apart

-- the struct of an address and a handle
abbrev pub two : Val → Val → Val
two address handle = vstruct (vcons address (vcons handle vnil))

-- what is shown of one word is shown of the arguments that are this word
pub of_word : {M : Type 1} (𝓤 : Ura M) (Runs : List Val → SProp 𝓤) (ws : List Val) (w : Val) → ws ≡ w ∷ [] → ent 𝓤 (Runs (w ∷ [])) (Runs (ws ++ []))
of_word 𝓤 Runs ws w is = subst (λ (us : List Val). ent 𝓤 (Runs (w ∷ [])) (Runs us)) (sym (ap (λ (us : List Val). us ++ []) is)) (id⊢ 𝓤 (Runs (w ∷ [])))

module _ (X Z : RattleType) (laws : Laws Z) (g : Ghosts Z.Denot) where
  abbrev pub Apart : RattleType
  Apart = apart.the_row X Z g

  -- the right to free the block of an element
  abbrev pub frees : Z.Denot → Ptr → X.Denot → base.Fml.Fml
  frees a p x = box_owns (g.dealloc_token a) X p x

  abbrev allocator : Al
  allocator = record { row = Z; laws = laws; g = g; d = impl [] tnil dnil; drops = impl [] tnil dnil }

  pub two_good : (b o : ℕ) (h : Val) → Good (layout Z) h → T (has_ty (layout Z) h && true) × WT (two (vptr b o) h)
  two_good b o h good = (and_tt (has_ty (layout Z) h) good.0, (tt, (good.1, tt)))

  -- which word it is, from what its fields are
  word_is : (vs ps hs : List Val) (p : Ptr) (b o : ℕ) (h : Val) → vs ≡ vstruct (of_list (ps ++ (hs ++ []))) ∷ [] → ps ≡ ptr_val p ∷ [] → hs ≡ h ∷ [] → p ≡ block_ptr b o → vs ≡ two (vptr b o) h ∷ []
  word_is vs ps hs p b o h whole address handle there =
      whole ∙ ap (λ (us : List Val). vstruct (of_list (us ++ (hs ++ []))) ∷ []) address ∙ ap (λ (us : List Val). vstruct (of_list (ptr_val p ∷ (us ++ []))) ∷ []) handle
      ∙ ap (λ (q : Ptr). vstruct (of_list (ptr_val q ∷ h ∷ [])) ∷ []) there

  module _ {M : Type 1} {𝓤 : Ura M} {𝓛 : Logic 𝓤} {K : Type 0} {Γ : List (Item 𝓤)} {G : Goal 𝓤 𝓛.H} where
    -- [the block; the handle]
    pub comes_apart : K → (d : Apart.Denot) (vs : List Val)
        → ((b o : ℕ) (h : Val) → d.address ≡ block_ptr b o → vs ≡ two (vptr b o) h ∷ [] → Good (layout Z) h → Seq K 𝓛 (‵ (frees d.alloc (block_ptr b o) d.value) ∷ ‵ (Z.own_val d.alloc (h ∷ [])) ∷ Γ) G)
        → Seq K 𝓛 (‵ (Apart.own_val d vs) ∷ Γ) G
    comes_apart t d vs more =
        fsplit t $ fpick t (λ fields. fsplit t $ feq_l t (λ whole. fsplit t $ feq_l t (λ address. fsplit t $
        handle_tells allocator t d.alloc fields.1.0 (λ h handle good. move t (1 ∷ []) $ drop t $ move t (1 ∷ 0 ∷ []) $
        in_a_block t d.address (λ p. frees d.alloc p d.value) (fst∗ 𝓤 (never 𝓤) (sem 𝓛 (g.dealloc_token d.alloc (bare (lone X.mir)) null_ptr))) (λ b o there.
        more b o h there (word_is vs _ fields.1.0 d.address b o h whole address handle there) good)))))

    pub goes_together : K → (b o : ℕ) (h : Val) (a : Z.Denot) (x : X.Denot)
        → Step K 𝓛 (‵ (Apart.own_val (record { address = block_ptr b o; alloc = a; value = x }) (two (vptr b o) h ∷ [])) ∷ Γ) G (‵ (frees a (block_ptr b o) x) ∷ ‵ (Z.own_val a (h ∷ [])) ∷ Γ) G
    goes_together t b o h a x = step (λ rest.
        let at : List Val = vptr b o ∷ [] in let word : List Val = two (vptr b o) h ∷ [] in
        nothing t $ move t (2 ∷ 0 ∷ []) $ fjoin t $ feq_i t (List Val) at at refl $ fjoin t $ feq_i t (List Val) word word refl $ fjoin t $
        fpack t (Valss (RawPtr ∷ Z ∷ [])) (within (shape (apart.the_type X Z g)) (block_ptr b o, (a, tt)) word) (at, (h ∷ [], tt)) $ fjoin t $ rest)
