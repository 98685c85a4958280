-- `into_box` hands the address and the handle, with what they own, to the box's own call.
use Rattle.std.proofs.Common.{◌≡◌, List, [], ◌∷◌, refl, sym, ap, subst}
use mir.Syntax.{a_type, dcons, dnil}
use mir.Val.{Val, vptr}
use mir.MapTy.{inst_fn}
use base.Logic.{SProp, id⊢}
use base.Fml.{ftrue, flft}
use prog.Wp.{WpFn}
use types.Kit.{‵, raw, ◌⊛◌, some, later, at_ret, ◌$◌, ◌∵◌, !, qed, by, move, keep, drop, split, split3, join, fsplit, fjoin, pick, suffices, use1, await, rewrite, feq_i}
use types.Run.{stop, fld, of_opd, no_more, and_then, first, blocks, exec, returns, enter}
use types.ByLocal.{alloc_all, pass_all, free_all, look_at, get, get_in, sets, lands_last, env}
use types.Part.{sub, whole}
use contract.Monad.{fact}
use contract.BorrowLft.{◌⊑◌}
use contract.Running.{tables}
use denote.Exit.{no}
use denote.RattleType.{RattleType, owns}
use denote.Signature.{types_at, plain}
use denote.RawPtr.{block_ptr}
use denote.Steps.{nothing, only}
use denote.Param.{param, layout, bounded}
use denote.Param.Laws.{param_laws}
use denote.Triple.Clauses.{Lasts, lasts}
use denote.Triple.Spec.{triple_of}
use denote.Triple.Call.{calls_at_last}
use denote.Triple.Walked.{Stays, stay_dropped, walk_of}
use Rattle.core.proofs.alloc.Calls.{Goes-blank}
use Rattle.core.proofs.alloc.Shapes.{after}
use Rattle.core.proofs.atomic.Steps.{fm}
use Rattle.core.proofs.cell.Inside.{Good}
use Rattle.std.proofs.raw_atomic.Walks.{proved_at, leaves}
use Rattle.std_alloc.proofs.BoxSteps.Form as box
use Rattle.std_alloc.proofs.BoxSteps.Steps.{box_out, box_in}
use Rattle.std_alloc.specs.contracts.boxed.Box.from_raw as whole_box
use Rattle.std_alloc.proofs.boxed.Box.from_raw.Met.{met}
use Rattle.mdp_boxes.specs.contracts.loose_box.LooseBox.into_box as f
use Rattle.mdp_boxes.specs.contracts.loose_box.LooseBox.into_box.Key.{name as #self}
use Rattle.mdp_boxes.proofs.Words.{Apart, two, two_good, comes_apart, of_word}
use Rattle.mdp_boxes.proofs.loose_box.LooseBox.into_box.Statement.{statement}
use Rattle.mdp_boxes.proofs.loose_box.LooseBox.into_box.Code as code

pub into_box_spec : {M : Type 1} → statement M
into_box_spec 𝓤 𝓛 𝓜 𝓡 wired T A ofT ofA g d dx dd allocator glue glued =
    let machine = tables 𝓤 𝓛.H 𝓜 𝓡 𝓡.env in
    let X : RattleType = param 0 T in let Z : RattleType = param 1 A in let laws = param_laws 1 A ofA in
    let E : box.Bx = record { row = T; laws = ofT; al = record { row = A; laws = ofA; g = g; d = d; drops = dd } } in
    let types = bounded (a_type ∷ a_type ∷ []) (T, (A, tt)) (dcons d (dcons dx (dcons dd dnil))) in
    let fn = inst_fn types code.function in
    let ends = f.ended T A g d dx dd in
    let clauses = f.clauses T A g d dx dd 𝓛 𝓜.mem 𝓡.returns in
    let moved : Stays ends.signature.params ends.kept = (stay_dropped (plain (λ _. Apart X Z laws g)) no, tt) in
    proved_at 𝓛 ends moved clauses 𝓜 𝓡 (Goes-blank 𝓛 2 (plain (λ _. Apart X Z laws g)) no (λ κs x w. tt), tt)
    (#self types) fn (code.unfolded 𝓤 𝓛.H 𝓜 𝓡 wired (T, (A, tt)) d dx dd) (λ z _.
    let κs = z.0.0 in let qs = z.0.1 in let parts = z.0.3.0 in let a = parts.alloc in
    let Ends : Val → SProp 𝓤 = (walk_of 𝓛 ends moved clauses).post z in
    let Runs : List Val → SProp 𝓤 = λ ws. WpFn 𝓤 𝓛.H machine.C machine.Λ fn ws Ends in
    let alive = ‵ (flft κs.0 qs.0) ⊛ ‵ (flft κs.1.0 qs.1.0) ⊛ ‵ ftrue in
    qed 𝓛 ((alive ⊛ ‵ (owns (types_at ends.signature.params κs) z.0.3 z.0.4)) ∷ raw ((clauses κs z.0.3).requires z.1) ∷ []) ∵
    split ! $ move ! (1 ∷ []) $ fsplit ! $
    -- the struct, by its word
    comes_apart X Z laws g ! parts z.0.4.0 (λ b o h there word good.
    let w : Val = two (vptr b o) h in let fits = two_good X Z laws g b o h good in
    let Whole = triple_of 𝓛 (whole_box.signature T A g d dd) (whole_box.spec T A g d dd 𝓛 𝓜.mem 𝓡.returns) in
    let asks : Whole.Ghost = ((κs, qs, tt, (a, (block_ptr b o, tt)), (h ∷ [], (vptr b o ∷ [], tt))), parts.value) in
    let B : RattleType = box.B E in
    -- what the call requires
    move ! (4 ∷ []) $ use1 𝓛 (raw (fact 𝓤 (κs.0 ⊑ T.lives)) ⊛ raw (fact 𝓤 (κs.1.0 ⊑ A.lives)) ⊛ ‵ ftrue) (id⊢ 𝓤 _) $
    split3 ! $ move ! (2 ∷ []) $ drop ! $ move ! (1 ∷ 2 ∷ []) $ join ! $ move ! (1 ∷ 0 ∷ []) $ join ! $
    move ! (2 ∷ []) $ feq_i ! (List Val) (vptr b o ∷ []) (vptr b o ∷ []) refl $ fjoin ! $ move ! (2 ∷ 0 ∷ []) $ fjoin ! $
    move ! (2 ∷ 0 ∷ []) $ join ! $ join ! $ use1 𝓛 (raw (Whole.pre asks)) (id⊢ 𝓤 _) $
    suffices ! (Runs (w ∷ [])) (of_word 𝓤 Runs z.0.4.0 w word) $ enter ! machine.C machine.Λ fn (w ∷ []) Ends $ alloc_all ! (λ l. pass_all ! refl (fits, tt) $
    sets ! (of_opd ! (get_in ! (fld ! refl (stop !)) (sub ! 0 refl (whole !)))) refl (tt, tt) $
    sets ! (of_opd ! (get_in ! (fld ! refl (stop !)) (sub ! 1 refl (whole !)))) refl good $ first ! $ blocks ! $ sets ! (of_opd ! (get ! refl)) refl good $
    calls_at_last ! (fm 𝓛 𝓜 𝓡) Whole (met 𝓤 𝓛 𝓜 𝓡 (code.calls-std_alloc::boxed::Box::from_raw 𝓡.env wired) T A ofT ofA g d dd allocator glued) asks (and_then ! (get ! refl) (and_then ! (get ! refl) (no_more !))) (λ u.
    -- the box
    use1 𝓛 (later (some (λ (r : B.Denot). (alive ⊛ ‵ (B.own_val r (u ∷ [])))
    ⊛ some (λ (ls : Lasts (whole_box.ended T A g d dd) κs asks.0.3). ‵ (lasts (whole_box.ended T A g d dd) κs asks.0.3 ls) ⊛ (raw (fact 𝓤 (r.value ≡ parts.value)) ⊛ raw (fact 𝓤 (r.alloc ≡ a))))))) (id⊢ 𝓤 (Whole.post asks u)) $
    await ! tt $ pick ! (λ r. split ! $ move ! (1 ∷ []) $ pick ! (λ _. split3 ! $ drop ! $ move ! (2 ∷ []) $ split ! $ move ! (1 ∷ []) $
    box_out E ! r (u ∷ []) (λ b' o' h' there' word' good'. box_in E ! r b' o' r.value there' refl $
    rewrite ! 0 (λ (us : List Val). ‵ (B.own_val r us)) (sym word') refl $
    let fits' : Good (layout B) u = subst (Good (layout B)) (sym (ap only word')) (two_good X Z laws g b' o' h' good') in
    lands_last ! refl fits' $ exec ! machine.C machine.Λ (env fn.locals l) (after 3 fn.body) (at_ret (env fn.locals l) Ends) $
    sets ! (of_opd ! (get ! refl)) refl fits' $ nothing ! $ nothing ! $ fjoin ! $ returns ! (look_at ! 0 refl) $ free_all ! refl $ keep ! (2 ∷ 0 ∷ 1 ∷ 3 ∷ []) $
    by ! (leaves 𝓛 ends moved clauses z u r ((tt, (tt, tt)), tt) (tt, tt)))))))))
