-- `from_box` keeps the address and the handle that the box's own call hands out, with what they own.
use Rattle.std.proofs.Common.{◌≡◌, List, [], ◌∷◌, ◌++◌, refl, ap, ◌∙◌}
use mir.Syntax.{a_type, dcons, dnil}
use mir.Raw.{raw as bare}
use mir.Val.{Val, vptr, vstruct, of_list}
use mir.MapTy.{inst_fn}
use base.Logic.{SProp, emp, never, id⊢, fst∗}
use base.Fml.{ftrue, fsep, flft}
use prog.Wp.{WpFn}
use types.Logic.{sem}
use types.Kit.{‵, raw, ◌⊛◌, some, later, ◌$◌, ◌∵◌, !, qed, by, move, keep, drop, split, split3, join, fsplit, fjoin, fpick, pick, suffices, use0, use1, await, rewrite, feq_l}
use types.Run.{stop, fld, of_opd, no_more, and_then, returns, enter}
use types.ByLocal.{alloc_all, pass_all, free_all, look_at, get, get_in, sets, lands_as}
use types.Part.{agg, sub, whole}
use contract.Monad.{fact, fact_i}
use contract.Running.{tables}
use denote.Exit.{no}
use denote.RattleType.{RattleType, owns}
use denote.Signature.{types_at, plain}
use denote.Builtin.{RawPtr}
use denote.RawPtr.{Ptr, null_ptr, ptr_val, in_a_block}
use denote.Steps.{nothing, only, heard}
use denote.Param.{param, layout, bounded}
use denote.Param.Laws.{param_laws}
use denote.Struct.Tuple.{Tuple}
use denote.Triple.Spec.{triple_of}
use denote.Triple.Call.{calls_at}
use denote.Triple.Walked.{Stays, stay_dropped, walk_of}
use Rattle.core.proofs.alloc.Calls.{Goes-blank, handle_tells}
use Rattle.core.proofs.atomic.Steps.{fm}
use Rattle.std.proofs.raw_atomic.Walks.{proved_at, leaves}
use Rattle.std_alloc.proofs.BoxSteps.Form as box
use Rattle.std_alloc.proofs.BoxSteps.Steps.{box_out, box_in}
use Rattle.std_alloc.specs.contracts.boxed.Box.into_raw_with_allocator as raw_parts
use Rattle.std_alloc.proofs.boxed.Box.into_raw_with_allocator.Met.{met}
use Rattle.mdp_boxes.specs.contracts.loose_box.LooseBox.from_box as f
use Rattle.mdp_boxes.specs.contracts.loose_box.LooseBox.from_box.Key.{name as #self}
use Rattle.mdp_boxes.proofs.Words.{two, two_good, frees, goes_together, of_word}
use Rattle.mdp_boxes.proofs.loose_box.LooseBox.from_box.Statement.{statement}
use Rattle.mdp_boxes.proofs.loose_box.LooseBox.from_box.Code as code

pub from_box_spec : {M : Type 1} → statement M
from_box_spec 𝓤 𝓛 𝓜 𝓡 wired T A ofT ofA g d dx dd allocator glue glued =
    let machine = tables 𝓤 𝓛.H 𝓜 𝓡 𝓡.env in
    let X : RattleType = param 0 T in let Z : RattleType = param 1 A in let laws = param_laws 1 A ofA in
    let E : box.Bx = record { row = T; laws = ofT; al = record { row = A; laws = ofA; g = g; d = d; drops = dd } } in
    let types = bounded (a_type ∷ a_type ∷ []) (T, (A, tt)) (dcons d (dcons dx (dcons dd dnil))) in
    let fn = inst_fn types code.function in
    let ends = f.ended T A g d dx dd in
    let clauses = f.clauses T A g d dx dd 𝓛 𝓜.mem 𝓡.returns in
    let moved : Stays ends.signature.params ends.kept = (stay_dropped (plain (λ _. box.B E)) no, tt) in
    proved_at 𝓛 ends moved clauses 𝓜 𝓡 (Goes-blank 𝓛 2 (plain (λ _. box.B E)) no (λ κs x w. tt), tt)
    (#self types) fn (code.unfolded 𝓤 𝓛.H 𝓜 𝓡 wired (T, (A, tt)) d dx dd) (λ z _.
    let κs = z.0.0 in let qs = z.0.1 in let boxed = z.0.3.0 in let a = boxed.alloc in
    let Ends : Val → SProp 𝓤 = (walk_of 𝓛 ends moved clauses).post z in
    let Runs : List Val → SProp 𝓤 = λ ws. WpFn 𝓤 𝓛.H machine.C machine.Λ fn ws Ends in
    let alive = ‵ (flft κs.0 qs.0) ⊛ ‵ (flft κs.1.0 qs.1.0) ⊛ ‵ ftrue in
    qed 𝓛 ((alive ⊛ ‵ (owns (types_at ends.signature.params κs) z.0.3 z.0.4)) ∷ raw ((clauses κs z.0.3).requires z.1) ∷ []) ∵
    split ! $ move ! (1 ∷ []) $ fsplit ! $
    -- the box, by its word
    box_out E ! boxed z.0.4.0 (λ b o h there word good. box_in E ! boxed b o boxed.value there refl $
    let w : Val = box.word E h b o in
    let Parts = triple_of 𝓛 (raw_parts.signature T A g d dd dx) (raw_parts.spec T A g d dd dx 𝓛 𝓜.mem 𝓡.returns) in
    let asks : Parts.Ghost = ((κs, qs, tt, (boxed, tt), (w ∷ [], tt)), tt) in
    fjoin ! $ move ! (1 ∷ 0 ∷ []) $ join ! $ join ! $ use1 𝓛 (raw (Parts.pre asks)) (id⊢ 𝓤 _) $
    suffices ! (Runs (w ∷ [])) (of_word 𝓤 Runs z.0.4.0 w word) $
    enter ! machine.C machine.Λ fn (w ∷ []) Ends $ alloc_all ! (λ l. pass_all ! refl (two_good X Z laws g b o h good, tt) $
    sets ! (of_opd ! (get ! refl)) refl (two_good X Z laws g b o h good) $
    calls_at ! (fm 𝓛 𝓜 𝓡) Parts (met 𝓤 𝓛 𝓜 𝓡 (code.calls-std_alloc::boxed::Box::into_raw_with_allocator 𝓡.env wired) T A ofT ofA g d dd dx allocator glued glue) asks (and_then ! (get ! refl) (no_more !)) (λ u.
    -- the address and the handle, and the block that they own
    use1 𝓛 (later (some (λ (r : Ptr × A.Denot). (alive ⊛ ‵ ((Tuple (RawPtr ∷ Z ∷ [])).own_val r (u ∷ [])))
    ⊛ some (λ (_ : (Unit {0} × (Unit {0} × Unit {0})) × Unit {0}). ‵ (fsep (fsep ftrue (fsep ftrue ftrue)) ftrue) ⊛ (raw (fact 𝓤 (r.1 ≡ a)) ⊛ ‵ (frees X Z laws g a r.0 boxed.value)))))) (id⊢ 𝓤 _) $
    await ! tt $ pick ! (λ r. split ! $ move ! (1 ∷ []) $ pick ! (λ _. split3 ! $ drop ! $ heard ! (r.1 ≡ a) (λ same.
    in_a_block ! r.0 (λ p. frees X Z laws g a p boxed.value) (fst∗ 𝓤 (never 𝓤) (sem 𝓛 (g.dealloc_token a (bare (layout T)) null_ptr))) (λ b' o' there'.
    move ! (1 ∷ []) $ split ! $ move ! (1 ∷ []) $ fpick ! (λ parts. fsplit ! $ feq_l ! (λ pair. fsplit ! $ feq_l ! (λ address. fsplit ! $
    rewrite ! 0 (λ (s : A.Denot). ‵ (A.own_val s parts.1.0)) same refl $ handle_tells E.al ! a parts.1.0 (λ h' handle good'.
    let fits = two_good X Z laws g b' o' h' good' in
    lands_as ! (ap only (pair ∙ (λ j. vstruct (of_list ((address ∙ ap (λ (p : Ptr). ptr_val p ∷ []) there') j ++ (handle j ++ []))) ∷ []))) refl fits $
    sets ! (of_opd ! (get_in ! (fld ! refl (stop !)) (sub ! 0 refl (whole !)))) refl (tt, tt) $
    sets ! (of_opd ! (get_in ! (fld ! refl (stop !)) (sub ! 1 refl (whole !)))) refl good' $ sets ! (of_opd ! (get ! refl)) refl good' $
    sets ! (agg ! (and_then ! (get ! refl) (and_then ! (get ! refl) (no_more !)))) refl fits $
    -- what they own, as the new struct's
    move ! (3 ∷ 0 ∷ []) $ goes_together X Z laws g ! b' o' h' a boxed.value $
    use0 𝓛 (raw (fact 𝓤 (boxed.value ≡ boxed.value))) (fact_i 𝓤 (boxed.value ≡ boxed.value) (emp 𝓤) refl) $ nothing ! $ nothing ! $ fjoin ! $
    returns ! (look_at ! 0 refl) $ free_all ! refl $ keep ! (4 ∷ 0 ∷ 2 ∷ 1 ∷ []) $
    by ! (leaves 𝓛 ends moved clauses z (two (vptr b' o') h') (record { address = denote.RawPtr.block_ptr b' o'; alloc = a; value = boxed.value }) ((tt, (tt, tt)), tt) (tt, tt))))))))))))))
