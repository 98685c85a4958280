use Rattle.std.proofs.Common.{◌∙◌, List, sym, ap}
use Rattle.mdp_capture.specs.Record.{RecordContent}
use Rattle.mdp_pipeline.specs.Merge.{first_of_lines, head_line, in_order}
use Rattle.mdp_pipeline.proofs.Heads.{next_is_a, next_is_b}
use Rattle.mdp_pipeline.proofs.feeds.Feeds.next_by_line.Goals as goal

pub returns-in_ok-record-in-A : goal.returns-in_ok-record-in-A
returns-in_ok-record-in-A g c =
    let b = c.args.self.now.b.now in
    let s = c.args.self.now.s.now in
    let is = c.in_ok-record-in-A.ensures.cases.0 in
    let found = ap (λ (a : List RecordContent). first_of_lines (head_line a) (head_line b) (head_line s)) (sym is) ∙ sym c.next_feed.ensures ∙ c.in-A.is in
    ap (λ (a : List RecordContent). in_order (record { a = a; b = b; s = s })) is ∙ next_is_a c.in_ok-record-in-A.record.now c.in_ok-record-in-A.rest.now b s found

pub returns-in_ok-record-in-B : goal.returns-in_ok-record-in-B
returns-in_ok-record-in-B g c =
    let a = c.args.self.now.a.now in
    let s = c.args.self.now.s.now in
    let is = c.in_ok-record-in-B.ensures.cases.0 in
    let found = ap (λ (b : List RecordContent). first_of_lines (head_line a) (head_line b) (head_line s)) (sym is) ∙ sym c.next_feed.ensures ∙ c.in-B.is in
    ap (λ (b : List RecordContent). in_order (record { a = a; b = b; s = s })) is ∙ next_is_b a c.in_ok-record-in-B.record.now c.in_ok-record-in-B.rest.now s found
