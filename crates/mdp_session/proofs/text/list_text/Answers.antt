use Rattle.std.proofs.Common.{◌≡◌, ℕ, ◌+◌, ◌-◌, List, ◌∷◌, length, take, drop, sym, ap, ◌∙◌, arith, length-drop}
use Rattle.std.proofs.lemmas.List.{drop-drop, drop_all, take_rest}
use Rattle.mdp_capture.specs.Line.{line_of}
use Rattle.mdp_capture.specs.Listed.{instrument_said}
use Rattle.mdp_session.specs.Listing.{entries_of_text}
use Rattle.mdp_session.proofs.Fronts.{behind_left, line_left, lists_all, lists_more, next_left, none_left, stops_there}
use Rattle.mdp_session.proofs.text.list_text.Goals as goal

-- what is left of a text, as the code cuts it
abbrev rest_of : List ℕ → ℕ → List ℕ
rest_of text at = take (length text - at) (drop at text)

pub loop-at-preserved : goal.loop-at-preserved
loop-at-preserved c =
    let text = c.args.text.now in
    let loop = c.loop-at in
    let rest = rest_of text loop.at in
    let few = c.first_line-length.result.0 in
    let end = c.first_line-length.result.1 in
    let entries = entries_of_text text in
    let entry = instrument_said (line_of (take few rest)) in
    let more = entries_of_text (drop end rest) in
    let same : rest ≡ drop loop.at text = take_rest text loop.at in
    let left : drop loop.before entries ≡ entry ∷ more = line_left text rest loop.before few end (loop.invariant.left ∙ ap entries_of_text (sym same)) c.first_line-length.ensures.line in
    let behind : drop end rest ≡ drop (loop.at + end) text = ap (drop end) same ∙ drop-drop end loop.at text in
    record {
      front = rw c.in_ok-why.ensures.list (lists_more entries loop.before loop.list entry (next_left entries more loop.before entry left) (sym c.in_ok-why.ensures.answer ∙ c.in-None.is) loop.invariant.front);
      left = behind_left entries more loop.before entry left ∙ ap entries_of_text behind;
      few = omega (arith, c.first_line-length.ensures.some);
      inside = omega (arith, c.first_line-length.ensures.inside, ap length same, length-drop loop.at text);
    }

pub returns-clause-listed : goal.returns-clause-listed
returns-clause-listed c =
    let text = c.args.text.now in
    let loop = c.loop-at in
    let none = loop.invariant.left ∙ ap entries_of_text (drop_all loop.at text c.loop-at-test.false) in
    lists_all (entries_of_text text) loop.before loop.list (none_left (entries_of_text text) loop.before none) loop.invariant.front

pub returns-in-Some-clause-fault : goal.returns-in-Some-clause-fault
returns-in-Some-clause-fault c =
    let text = c.args.text.now in
    let loop = c.loop-at in
    let rest = rest_of text loop.at in
    let few = c.first_line-length.result.0 in
    let end = c.first_line-length.result.1 in
    let entries = entries_of_text text in
    let entry = instrument_said (line_of (take few rest)) in
    let more = entries_of_text (drop end rest) in
    let left : drop loop.before entries ≡ entry ∷ more = line_left text rest loop.before few end (loop.invariant.left ∙ ap entries_of_text (sym (take_rest text loop.at))) c.first_line-length.ensures.line in
    (loop.before, stops_there entries loop.before loop.list entry c.in-Some.why (next_left entries more loop.before entry left) (sym c.in_ok-why.ensures.answer ∙ c.in-Some.is) loop.invariant.front, omega arith)
