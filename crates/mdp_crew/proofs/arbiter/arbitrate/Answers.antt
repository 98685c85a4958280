use Rattle.std.proofs.Common.{◌≡◌, [], ◌∷◌, ap, ◌∙◌, length, map, arith}
use Rattle.std.proofs.lemmas.List.{take_at}
use Rattle.mdp_crew.proofs.Adding.{all_sent}
use Rattle.mdp_crew.specs.declared.order.Order.TheVariants.{Done}
use Rattle.mdp_crew.specs.Batches.{events_taken}
use Rattle.mdp_crew.specs.Orders.{and_sent}
use Rattle.mdp_crew.proofs.Sending.{and_done, begun_there, stands_there, stops_later, takes_more}
use Rattle.mdp_crew.proofs.arbiter.arbitrate.Goals as goal

pub returns-in-Ok : goal.returns-in-Ok
returns-in-Ok g c = λ channel begun none.
    let first = c.args.senders.items in
    let now = c.take_all-sent.new.senders in
    let after = c.send_done.new.senders in
    let receiver = c.take_all-sent.new.receiver in
    let events = events_taken receiver.taken in
    let so_far = c.in-Ok.ensures.sends channel first (begun_there channel c.args.receiver first c.as_mut_slice.result.now c.args.arbiter begun none c.as_mut_slice.ensures.value) in
    let mid_long : length now ≡ c.args.senders.len = omega arith in
    let end_long : length after ≡ c.args.senders.len = omega arith in
    let told : after ≡ map (and_sent (Done ∷ [])) now =
    c.send_done.ensures ∙ ap (map (and_sent (Done ∷ []))) (c.as_mut_slice-2.ensures.value ∙ take_at now _ c.args.senders.len mid_long) in
    record {
      batches = so_far.batches;
      lanes = take_at after _ c.args.senders.len end_long ∙ and_done so_far.batches first now after so_far.lanes told;
      takes = c.in-Ok.ensures.takes;
      ends = c.in-Ok.ensures.ends;
      sent = all_sent channel events so_far.batches c.take_all-sent.new.arbiter _ so_far.all;
      stands = stands_there channel events so_far.batches c.take_all-sent.new.arbiter _ so_far.all c.next.ensures.next (c.lost.ensures.stands events so_far.all.settled.stands);
      range = (c.next.ensures.least, c.next.ensures.most);
    }

pub returns : goal.returns
returns g c = λ channel begun none.
    let first = c.args.senders.items in
    let now = c.take_all-sent.new.senders in
    let after = c.send_done.new.senders in
    let stopped = c.in-Err.ensures.stops channel first (begun_there channel c.args.receiver first c.as_mut_slice.result.now c.args.arbiter begun none c.as_mut_slice.ensures.value) in
    let later = stops_later channel c.take_all-sent.new.receiver c.drain.new.receiver first now c.drain.ensures.takes stopped in
    let mid_long : length now ≡ c.args.senders.len = omega arith in
    let end_long : length after ≡ c.args.senders.len = omega arith in
    let told : after ≡ map (and_sent (Done ∷ [])) now =
    c.send_done.ensures ∙ ap (map (and_sent (Done ∷ []))) (c.as_mut_slice-2.ensures.value ∙ take_at now _ c.args.senders.len mid_long) in
    record {
      batches = later.batches;
      lanes = take_at after _ c.args.senders.len end_long ∙ and_done later.batches first now after later.lanes told;
      takes = takes_more c.args.receiver c.take_all-sent.new.receiver c.drain.new.receiver c.in-Err.ensures.takes c.drain.ensures.takes;
      ends = c.drain.ensures.ends;
      sent = record { rest = later.sent.rest; front = later.sent.front; whole = tt };
      stands = tt;
      range = tt;
    }
