use Rattle.std.proofs.Common.{◌≡◌, [], sym, subst, ◌∙◌}
use Rattle.std.specs.Prelude.{IfOk}
use Rattle.std.proofs.lemmas.Result.{err_from_is_err_and}
use Rattle.mdp_arbiter.specs.declared.arbiter.Standing.{Standing}
use Rattle.mdp_crew.specs.Arbitrating.{IsNextNumber}
use Rattle.mdp_pipeline.specs.Merge.{records_in}
use Rattle.mdp_pipeline.specs.Reading.{refusals_text}
use Rattle.mdp_pipeline.specs.RefusalTexts.{RefusalTexts}
use Rattle.mdp_pipeline.specs.Running.{joined_texts}
use Rattle.mdp_pipeline.proofs.Joining.{Joined, all_told, ends_early, ends_short, ends_well, map_ok, readings_in, rest_in}
use Rattle.mdp_pipeline.proofs.settling.settle_and_finish.Goals as goal

pub returns-in_err-standing-clause-begins : goal.returns-in_err-standing-clause-begins
returns-in_err-standing-clause-begins g c =
    let left = c.args.readers in
    let joined : Joined c.args.crew.receiver (records_in c.args.feeds) left.a left.b left.s =
    record { read_a = c.requires.a; read_b = c.requires.b; read_s = c.requires.s; all_a = c.settle.ensures.a; all_b = c.settle.ensures.b; all_s = c.settle.ensures.s } in
    let p = err_from_is_err_and c.from_residual.result c.from_residual.ensures.1 in
    rw p.1 (ends_short c.args.crew.receiver (records_in c.args.feeds) left.a left.b left.s joined (g.W.CountedWrite.taken c.args.writer.now) c.args.crew.standing)

pub returns-in_default-clause-begins : goal.returns-in_default-clause-begins
returns-in_default-clause-begins g c =
    let left = c.args.readers in
    let joined : Joined c.args.crew.receiver (records_in c.args.feeds) left.a left.b left.s =
    record { read_a = c.requires.a; read_b = c.requires.b; read_s = c.requires.s; all_a = c.settle.ensures.a; all_b = c.settle.ensures.b; all_s = c.settle.ensures.s } in
    ends_short c.args.crew.receiver (records_in c.args.feeds) left.a left.b left.s joined (g.W.CountedWrite.taken c.args.writer.now) c.args.crew.standing

pub returns-clause-text : goal.returns-clause-text
returns-clause-text g c =
    let left = c.args.readers in
    let joined : Joined c.args.crew.receiver (records_in c.args.feeds) left.a left.b left.s =
    record { read_a = c.requires.a; read_b = c.requires.b; read_s = c.requires.s; all_a = c.settle.ensures.a; all_b = c.settle.ensures.b; all_s = c.settle.ensures.s } in
    let told = subst (λ o. IfOk o (λ (texts : RefusalTexts). (rest_in joined ≡ []) × (joined_texts texts ≡ refusals_text (readings_in joined))))
    (sym c.of.ensures ∙ c.in-Ok.is) (all_told c.args.crew.receiver (records_in c.args.feeds) left.a left.b left.s joined) in
    ends_well c.args.crew.receiver (records_in c.args.feeds) left.a left.b left.s joined (g.W.CountedWrite.taken c.args.writer.now) (g.W.CountedWrite.taken c.write_end.new.writer)
    c.args.crew.standing c.in_ok-standing.standing c.in-Ok.refusals c.write_end.result c.in_ok-standing.was told.0 told.1 c.write_end.ensures.stands c.write_end.ensures.text

pub returns-clause-begins : goal.returns-clause-begins
returns-clause-begins g c =
    let left = c.args.readers in
    let joined : Joined c.args.crew.receiver (records_in c.args.feeds) left.a left.b left.s =
    record { read_a = c.requires.a; read_b = c.requires.b; read_s = c.requires.s; all_a = c.settle.ensures.a; all_b = c.settle.ensures.b; all_s = c.settle.ensures.s } in
    let told = subst (λ o. IfOk o (λ (texts : RefusalTexts). (rest_in joined ≡ []) × (joined_texts texts ≡ refusals_text (readings_in joined))))
    (sym c.of.ensures ∙ c.in-Ok.is) (all_told c.args.crew.receiver (records_in c.args.feeds) left.a left.b left.s joined) in
    ends_early c.args.crew.receiver (records_in c.args.feeds) left.a left.b left.s joined (g.W.CountedWrite.taken c.args.writer.now) (g.W.CountedWrite.taken c.write_end.new.writer)
    c.args.crew.standing c.in_ok-standing.standing c.in-Ok.refusals c.write_end.result c.in_ok-standing.was told.0 told.1 c.write_end.ensures.begins

pub returns-clause-range : goal.returns-clause-range
returns-clause-range g c =
    let known = subst (λ o. IfOk o (λ standing. IsNextNumber standing.next)) c.in_ok-standing.was c.requires.range in
    map_ok c.write_end.result _ _ (λ summary tells. subst (λ (s : Standing). IsNextNumber s.next) (sym tells) known) c.write_end.ensures.stands
