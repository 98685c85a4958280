use Rattle.std.proofs.Common.{◌≡◌, [], refl, subst, sym}
use Rattle.std.proofs.lemmas.Result.{err_from_is_err_and}
use Rattle.mdp_capture.specs.Decoded.{content_with}
use Rattle.mdp_capture.proofs.LinesCut.{if_refused}
use Rattle.mdp_pipeline.specs.declared.streamed_lines.StreamedLines.{StreamedLines}
use Rattle.mdp_pipeline.specs.Streamed.{RefusesContent, RefusesText, TakesTexts}
use Rattle.mdp_pipeline.proofs.LinesBehind.{nothing_taken, text_refused, text_taken}
use Rattle.mdp_pipeline.proofs.streamed_lines.StreamedLinesTakesLines.take_line.Goals as goal

pub returns-clause-taken : goal.returns-clause-taken
returns-clause-taken g c =
    let old = c.args.self.now in
    let seen = record old { decoder = c.decode.new.self } in
    let mid = c.take.new.self in
    text_taken old seen mid (record mid { line = c.saturating_add-self.result }) c.args.text.now (content_with c.decode.new.self.bytes c.in_ok-line.line) c.in_ok-line.ensures.content
    (record { window = refl; start = refl; instruments = refl; has = refl; notes = refl; run = refl }) refl c.in_ok-take.ensures.taken c.take.ensures.line
    (record { window = refl; start = refl; instruments = refl; has = refl; notes = refl; run = refl }) c.saturating_add-self.ensures

pub returns-in_err-take-clause-refused : goal.returns-in_err-take-clause-refused
returns-in_err-take-clause-refused g c =
    let old = c.args.self.now in
    let seen = record old { decoder = c.decode.new.self } in
    let mid = c.take.new.self in
    let content = content_with c.decode.new.self.bytes c.in_ok-line.line in
    let p = err_from_is_err_and c.from_residual-in_err-take.result c.from_residual-in_err-take.ensures.1 in
    rw (p.1, p.2)
    (if_refused (λ refused. (mid ≡ seen) × RefusesContent content seen refused) (λ refused. TakesTexts old [] mid × RefusesText mid c.args.text.now refused) _
    (λ refused out.
    subst (λ (s : StreamedLines g.row.A.Denot). TakesTexts old [] s × RefusesText s c.args.text.now refused) (sym out.0) (
      nothing_taken old seen (record { window = refl; start = refl; instruments = refl; has = refl; notes = refl; run = refl }) refl,
      text_refused seen seen c.args.text.now content refused c.in_ok-line.ensures.content (record { window = refl; start = refl; instruments = refl; has = refl; notes = refl; run = refl }) refl out.1,
    ))
    c.in_err-take.ensures.refused)
