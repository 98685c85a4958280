-- A closed handle is made of null, at which it owns nothing.
use Rattle.std.proofs.Common.{◌≡◌, [], ◌∷◌, refl}
use base.Logic.{emp}
use contract.Monad.{fact, fact_i}
use denote.RawPtr.{Ptr, null_ptr}
use denote.Steps.{nothing}
use denote.Triple.Entry.{on_entry}
use types.ByLocal.{alloc_all, pass_all, free_all, look_at, sets}
use types.Kit.{raw, ◌$◌, ◌∵◌, !, qed, by, keep, use0, feq_i}
use types.Part.{agg}
use types.Run.{lit, no_more, and_then, returns, enter}
use Rattle.std.specs.Prelude.{Option, None}
use Rattle.std.proofs.raw_atomic.Walks.{proved_at, leaves}
use Rattle.mdp_engine.specs.Engine.{View}
use Rattle.mdp_c.specs.contracts.handle.Handle.closed as f
use Rattle.mdp_c.proofs.Words.{word, word_fits, as_handle}
use Rattle.mdp_c.proofs.handle.Handle.closed.Statement.{statement}
use Rattle.mdp_c.proofs.handle.Handle.closed.Code as code

abbrev nothing_held : Option View
nothing_held = None

pub closed_spec : {M : Type 1} → statement M
closed_spec 𝓤 𝓛 𝓜 𝓡 wired =
    let clauses = f.clauses 𝓛 𝓜.mem 𝓡.returns in
    proved_at 𝓛 f.ended tt clauses 𝓜 𝓡 tt f.Key.name code.function (code.unfolded 𝓤 𝓛.H 𝓜 𝓡 wired) (λ z _.
    qed 𝓛 (raw (on_entry 𝓛 f.signature z.0.0 z.0.1 z.0.3 z.0.4) ∷ raw ((clauses z.0.0 z.0.3).requires z.1) ∷ []) ∵ keep ! [] $
    enter ! _ _ _ _ _ $ alloc_all ! (λ l. pass_all ! refl tt $ sets ! (agg ! (and_then ! (lit ! tt) (no_more !))) refl (word_fits null_ptr) $
    returns ! (look_at ! 0 refl) $ free_all ! refl $
    use0 𝓛 (raw (fact 𝓤 (nothing_held ≡ None))) (fact_i 𝓤 (nothing_held ≡ None) (emp 𝓤) refl) $
    feq_i ! Ptr null_ptr null_ptr refl $ as_handle ! null_ptr nothing_held $ nothing ! $ nothing ! $
    by ! (leaves 𝓛 f.ended tt clauses z (word null_ptr) (record { address = null_ptr; held = nothing_held }) tt tt)))
