use Rattle.std.proofs.Common.{◌≡◌, sym, ap, ◌∙◌, true}
use Rattle.std.specs.Prelude.{is_some}
use Rattle.mdp_capture.specs.Line.{is_name}
use Rattle.mdp_capture.proofs.Fields.{name_is_text, text_is_read}
use Rattle.mdp_session.proofs.listed.name_of.Goals as goal

-- a name is text, so that it is read
pub returns-in_err-text : goal.returns-in_err-text
returns-in_err-text c =
    let bytes = c.args.bytes.now in
    let named : is_name bytes ≡ true = sym c.is_name.ensures ∙ c.if-not-is_name.false in
    let was_read = text_is_read _ _ bytes c.from_utf8.result c.from_utf8.ensures.cases (name_is_text bytes named) in
    let was_not = ap is_some c.in_err-text.was in
    absurd (cc (c.ok.ensures.variant, was_read, was_not))
