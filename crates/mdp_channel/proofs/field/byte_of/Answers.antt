use Rattle.std.proofs.Common.{◌≡◌, Some, false, codes, sym, ◌∙◌, arith, rules}
use Rattle.std.specs.Str.{bytes_eq}
use Rattle.std.proofs.lemmas.Bool.{cond-false}
use Rattle.mdp_capture.specs.Line.{number_of}
use Rattle.mdp_channel.proofs.Numerals.{number_parsed}
use Rattle.mdp_channel.proofs.field.byte_of.Goals as goal

pub returns : goal.returns
returns c =
    let field = c.args.field.now in
    let other : bytes_eq field (codes "0") ≡ false = search rules in
    c.ok.ensures.value
    ∙ number_parsed 8 255 field c.in_ok-text.text.now c.parse.result (omega arith) c.parse.ensures.value.0 c.in_ok-text.ensures.0 c.in_ok-text.ensures.1
    ∙ sym (cond-false (bytes_eq field (codes "0")) (Some 0) (number_of 255 field) other)
