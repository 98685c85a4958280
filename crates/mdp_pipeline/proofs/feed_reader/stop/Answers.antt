use Rattle.std.proofs.Common.{◌≡◌, true, [], ◌∷◌, ◌++◌, List, sym, ap, ◌∙◌}
use Rattle.std.proofs.lemmas.List.{append-nil}
use Rattle.mdp_arbiter.specs.Accepted.{Event}
use Rattle.mdp_engine.specs.Steps.{event_of}
use Rattle.std.specs.Prelude.{map}
use Rattle.mdp_crew.specs.declared.batch.Batch.{Batch}
use Rattle.mdp_crew.specs.Batches.{all_events}
use Rattle.mdp_pipeline.proofs.HandingOver.{all_events-append, ended_after, one_batch, puts_more}
use Rattle.mdp_pipeline.proofs.feed_reader.stop.Goals as goal

-- the last batch is empty
pub returns : goal.returns
returns g c = λ feed records before so_far.
    let b : Batch g.row.A.Denot = record { events = c.new.result; is_last = true } in
    let empty : all_events (b ∷ []) ≡ [] = one_batch b ∙ ap (map event_of) c.new.ensures.items in
    record {
      over = record {
        batches = so_far.batches ++ b ∷ [];
        put = puts_more before c.args.sender c.put.new.self so_far.batches (b ∷ []) so_far.put c.put.ensures;
        readings = so_far.readings;
        are = so_far.are;
        rest = so_far.rest;
        front =
            so_far.front
            ∙ ap (λ (t : List Event). t ++ so_far.rest) (sym (append-nil (all_events so_far.batches)) ∙ ap (λ (t : List Event). all_events so_far.batches ++ t) (sym empty) ∙ sym (all_events-append so_far.batches (b ∷ [])));
      };
      ended = ended_after c.args.sender c.put.new.self b c.requires c.put.ensures;
      whole = tt;
      refusals = tt;
    }
