use Rattle.std.proofs.Common.{◌+◌, ◌∷◌, take, ap, ◌∙◌, sym}
use Rattle.std.proofs.lemmas.List.{take_rest}
use Rattle.mdp_capture.proofs.Splits.{parts_found, parts_none}
use Rattle.mdp_channel.specs.Address.{parts}
use Rattle.mdp_channel.proofs.field.cut_at.Goals as goal

pub returns-in-Some : goal.returns-in-Some
returns-in-Some c =
    let text = c.args.text.now in
    let end = c.in-Some.end in
    parts_found c.args.byte text end c.in-Some.ensures ∙ ap (λ rest. take end text ∷ parts c.args.byte rest) (sym (take_rest text (end + 1)))

pub returns-in-None : goal.returns-in-None
returns-in-None c = parts_none c.args.byte c.args.text.now c.in-None.ensures
