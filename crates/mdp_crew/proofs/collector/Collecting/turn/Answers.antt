use Rattle.std.specs.List.{list_any}
use Rattle.std.proofs.Common.{◌≡◌, true, false, List, length, refl, sym, ap, ◌∙◌, subst}
use Rattle.mdp_reports.specs.declared.answer.Answer.{Answer}
use Rattle.mdp_crew.specs.declared.crew.Post.{Post}
use Rattle.mdp_crew.specs.Collecting.{showing}
use Rattle.mdp_crew.specs.TakenRounds.{all_tell, all_finish, all_took, is_told, lasts}
use Rattle.mdp_crew.proofs.Taking.{many_taken, turned_all, turned_on, turned_broken, turned_short}
use Rattle.mdp_crew.proofs.collector.Collecting.turn.Goals as goal

pub returns-then-all_are_finished-clause-turned : goal.returns-then-all_are_finished-clause-turned
returns-then-all_are_finished-clause-turned g c =
    let taken = g.W.CountedWrite.taken c.args.writer.now in
    turned_all (showing c.args.self.now taken c.args.board.now) (showing c.take.new.self taken c.args.board.now) c.take.new.self.round.items c.take.ensures.took.0
    (ap all_finish (sym c.deref.ensures.value) ∙ sym c.all_are_finished.ensures ∙ c.if-all_are_finished.true) c.take.ensures.took.1 refl refl

pub returns-then-not-all_are_told-clause-turned : goal.returns-then-not-all_are_told-clause-turned
returns-then-not-all_are_told-clause-turned g c =
    let taken = g.W.CountedWrite.taken c.args.writer.now in
    turned_broken (showing c.args.self.now taken c.args.board.now) (showing c.drain.new.self taken c.args.board.now) c.take.new.self.posts.items c.take.new.self.round.items c.drain.ensures.0
    c.take.ensures.took.0 c.take.ensures.took.1 c.drain.ensures.2 c.drain.ensures.3 refl refl

-- as many answers as there are workers
pub drain-requires : goal.drain-requires
drain-requires g c = many_taken c.args.self.now.posts.items c.take.new.self.posts.items c.take.new.self.round.items c.take.ensures.took.0 c.take.ensures.took.1

pub drain-requires-in-Err : goal.drain-requires-in-Err
drain-requires-in-Err g c =
    let same = c.in-Err.ensures.stays in
    ap (λ v. length v.items) same.1
    ∙ many_taken c.args.self.now.posts.items c.take.new.self.posts.items c.take.new.self.round.items c.take.ensures.took.0 c.take.ensures.took.1
    ∙ sym (ap (λ v. length v.items) same.0)

pub returns-in-Ok-clause-turned : goal.returns-in-Ok-clause-turned
returns-in-Ok-clause-turned g c =
    let told : all_tell c.take.new.self.round.items ≡ true = ap all_tell (sym c.deref-2.ensures.value) ∙ sym c.all_are_told.ensures ∙ c.if-not-all_are_told.false in
    turned_on (showing c.args.self.now (g.W.CountedWrite.taken c.args.writer.now) c.args.board.now) (showing c.show.new.self (g.W.CountedWrite.taken c.show.new.writer) c.show.new.board)
    c.take.new.self.posts.items c.take.new.self.collector c.take.new.self.round.items c.take.ensures.took.0 told c.take.ensures.took.1 c.take.ensures.collector
    (ap (λ v. v.items) c.in-Ok.ensures.stays.0) c.in-Ok.ensures.shows

pub returns-in-Err-clause-turned : goal.returns-in-Err-clause-turned
returns-in-Err-clause-turned g c =
    let told : all_tell c.take.new.self.round.items ≡ true = ap all_tell (sym c.deref-2.ensures.value) ∙ sym c.all_are_told.ensures ∙ c.if-not-all_are_told.false in
    let same : c.show.new.self.posts.items ≡ c.take.new.self.posts.items = ap (λ v. v.items) c.in-Err.ensures.stays.0 in
    let more : List (List (Answer g.row.A.Denot)) = c.drain-in-Err.ensures.0 in
    turned_short (showing c.args.self.now (g.W.CountedWrite.taken c.args.writer.now) c.args.board.now) (showing c.drain-in-Err.new.self (g.W.CountedWrite.taken c.show.new.writer) c.show.new.board)
    c.take.new.self.posts.items c.show.new.self.posts.items c.take.new.self.collector c.show.new.self.collector c.take.new.self.round.items c.drain-in-Err.ensures.0
    c.take.ensures.took.0 told c.take.ensures.took.1 c.take.ensures.collector
    (c.drain-in-Err.ensures.1 ∙ ap length same) (c.drain-in-Err.ensures.2 ∙ ap (λ (l : List (Post g.row.A.Denot)). all_took l more) same)
    (subst (λ (l : List (Answer g.row.A.Denot)). list_any is_told (lasts l more) ≡ false) (ap (λ v. v.items) c.in-Err.ensures.stays.1) c.drain-in-Err.ensures.3) c.in-Err.ensures.begins
