use Rattle.std.proofs.Common.{sym, ap, ◌∙◌}
use Rattle.std.specs.Prelude.{is_some}
use Rattle.mdp_capture.proofs.Fields.{name_is_text, text_is_read}
use Rattle.mdp_capture.proofs.field.name_of.Goals as goal

pub returns-in_err-text : goal.returns-in_err-text
returns-in_err-text c =
    let field = c.args.field.now in
    let read = text_is_read _ _ field c.from_utf8.result c.from_utf8.ensures.cases (name_is_text field (sym c.is_name.ensures ∙ c.if-not-is_name.false)) in
    let none = ap is_some c.in_err-text.was in
    absurd (cc (c.ok.ensures.variant, read, none))
