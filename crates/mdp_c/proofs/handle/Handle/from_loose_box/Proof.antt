-- The handle of a box that was taken apart has its address, and owns its block.
use Rattle.std.proofs.Common.{◌≡◌, List, [], ◌∷◌, refl}
use base.Fml.{ftrue}
use base.Logic.{SProp, emp}
use prog.Wp.{WpFn}
use mir.Val.{Val, vptr}
use contract.Monad.{fact, fact_i}
use contract.Running.{tables}
use denote.Exit.{yes}
use denote.RattleType.{RattleType, owns}
use denote.RawPtr.{block_ptr}
use denote.Signature.{types_at, plain}
use denote.Steps.{nothing}
use denote.Triple.Walked.{Stays, stay_dropped, walk_of, Goes-dropped}
use types.ByLocal.{alloc_all, pass_all, free_all, look_at, get, get_in, sets}
use types.Kit.{‵, raw, ◌⊛◌, ◌$◌, ◌∵◌, !, qed, by, move, keep, split, fsplit, fjoin, fpack, use0, suffices}
use types.Part.{agg, sub, whole}
use types.Run.{stop, fld, of_opd, no_more, and_then, returns, enter}
use Rattle.std.specs.Prelude.{Option, Some}
use Rattle.std.specs.contracts.alloc.Global as heap
use Rattle.std.specs.contracts.impls.GlobalAllocator.TheImpl.{ghosts}
use Rattle.std.specs.declared.alloc.Global.{Global}
use Rattle.std.proofs.alloc.Global.TheLaws as heap_laws
use Rattle.std.proofs.raw_atomic.Walks.{proved_at, leaves}
use Rattle.mdp_boxes.proofs.Words.{Apart, two, two_good, comes_apart, of_word}
use Rattle.mdp_engine.specs.Engine.{View}
use Rattle.mdp_session.specs.contracts.session.Session as session
use Rattle.mdp_c.specs.Handle.{owns_block}
use Rattle.mdp_c.specs.contracts.handle.Handle.from_loose_box as f
use Rattle.mdp_c.proofs.Words.{word, word_fits, as_handle}
use Rattle.mdp_c.proofs.handle.Handle.from_loose_box.Statement.{statement}
use Rattle.mdp_c.proofs.handle.Handle.from_loose_box.Code as code

abbrev Loose : RattleType
Loose = Apart session.the_row heap.the_row heap_laws.the_row_laws ghosts

abbrev moved : Stays f.ended.signature.params f.ended.kept
moved = (stay_dropped (plain (λ _. Loose)) yes, tt)

pub from_loose_box_spec : {M : Type 1} → statement M
from_loose_box_spec 𝓤 𝓛 𝓜 𝓡 wired =
    let clauses = f.clauses 𝓛 𝓜.mem 𝓡.returns in let machine = tables 𝓤 𝓛.H 𝓜 𝓡 𝓡.env in
    proved_at 𝓛 f.ended moved clauses 𝓜 𝓡 (Goes-dropped 𝓛 0 (plain (λ _. Loose)) yes (λ κs x w. refl), tt)
    f.Key.name code.function (code.unfolded 𝓤 𝓛.H 𝓜 𝓡 wired) (λ z _.
    let loose = z.0.3.0 in let some : Option View = Some loose.value in
    let Ends : Val → SProp 𝓤 = (walk_of 𝓛 f.ended moved clauses).post z in
    let Runs : List Val → SProp 𝓤 = λ ws. WpFn 𝓤 𝓛.H machine.C machine.Λ code.function ws Ends in
    qed 𝓛 ((‵ ftrue ⊛ ‵ (owns (types_at f.signature.params z.0.0) z.0.3 z.0.4)) ∷ raw ((clauses z.0.0 z.0.3).requires z.1) ∷ []) ∵
    split ! $ move ! (1 ∷ []) $ fsplit ! $
    comes_apart session.the_row heap.the_row heap_laws.the_row_laws ghosts ! loose z.0.4.0 (λ b o h there is good.
    keep ! (0 ∷ []) $
    suffices ! (Runs (two (vptr b o) h ∷ [])) (of_word 𝓤 Runs z.0.4.0 (two (vptr b o) h) is) $ enter ! machine.C machine.Λ code.function (two (vptr b o) h ∷ []) Ends $
    alloc_all ! (λ l. pass_all ! refl (two_good session.the_row heap.the_row heap_laws.the_row_laws ghosts b o h good, tt) $
    sets ! (of_opd ! (get_in ! (fld ! refl (stop !)) (sub ! 0 refl (whole !)))) refl (tt, tt) $ sets ! (of_opd ! (get ! refl)) refl (tt, tt) $
    sets ! (agg ! (and_then ! (get ! refl) (no_more !))) refl (word_fits (block_ptr b o)) $ returns ! (look_at ! 0 refl) $ free_all ! refl $
    use0 𝓛 (raw (fact 𝓤 (some ≡ Some loose.value))) (fact_i 𝓤 (some ≡ Some loose.value) (emp 𝓤) refl) $ move ! (1 ∷ []) $
    fpack ! Global (owns_block (block_ptr b o) loose.value) loose.alloc $ as_handle ! (block_ptr b o) some $
    nothing ! $ nothing ! $ fjoin ! $ nothing ! $
    by ! (leaves 𝓛 f.ended moved clauses z (word (block_ptr b o)) (record { address = block_ptr b o; held = some }) (tt, tt) (tt, tt)))))
