-- What a draft holds of a text's lines.
use Rattle.std.proofs.Common.{◌≡◌, ℕ, List, [], ◌∷◌, ◌++◌, Result, Ok, Err, sym, ap, ◌∙◌, subst, append_assoc, append-nil}
use Rattle.std.specs.Str.Lines.{lines}
use Rattle.mdp_capture.specs.Capture.{CaptureContent, IfRefused, IsTextFaultOf, RefusedLine, add_line, add_lines, capture_of, needs_instrument, no_capture}
use Rattle.mdp_capture.specs.Cutting.{BeginsWithLines, CutsInto, IsStopped}
use Rattle.mdp_capture.specs.Draft.{HoldsLines, IsRefusedAt, LeavesOut, TakesTexts, capture_so_far}
use Rattle.mdp_capture.specs.Line.{LineContent}
use Rattle.mdp_capture.specs.Reading.{HasRead, RefusesPiece, TakesPiece}
use Rattle.mdp_capture.specs.declared.reading.Reading.{Reading}
use Rattle.mdp_capture.specs.declared.draft.Draft.{Draft}
use Rattle.mdp_capture.specs.declared.fault.CaptureFault.{CaptureFault}
use Rattle.mdp_capture.proofs.LinesCut.{cuts_on, if_refused}

abbrev made : List (List ℕ) → Result CaptureContent RefusedLine
made ls = add_lines 1 ls no_capture

module _ {A : Type 0} where
  -- before the first line
  pub holds_none : (draft : Draft A) → draft.line ≡ 1 → capture_so_far draft ≡ no_capture → HoldsLines draft []
  holds_none draft line none rest = ap (λ (n : ℕ). add_lines n rest no_capture) (sym line) ∙ ap (add_lines draft.line rest) (sym none)

  held_more : (old new : Draft A) (before front : List (List ℕ)) → HoldsLines old before → TakesTexts old front new → HoldsLines new (before ++ front)
  held_more old new before front held takes rest = ap made (append_assoc before front rest) ∙ held (front ++ rest) ∙ takes rest

  pub out_is_fault : (old new : Draft A) (content : LineContent) (fault : CaptureFault) → LeavesOut old content new fault → IsTextFaultOf (add_line old.line content (capture_so_far old)) fault
  out_is_fault old new content fault =
      if_refused (λ refused. (add_line old.line content (capture_so_far old) ≡ Err refused) × (capture_so_far new ≡ capture_so_far old) × (new.line ≡ old.line)) (λ refused. add_line old.line content (capture_so_far old) ≡ Err refused) fault (λ refused out. out.0)

  -- all lines of a text
  pub whole_text : (draft : Draft A) (text : List ℕ) → HoldsLines draft (lines text) → capture_of text ≡ needs_instrument (Ok (capture_so_far draft))
  whole_text draft text held = ap needs_instrument (ap made (sym (append-nil (lines text))) ∙ held [])

  -- ---- a text that is read piece by piece

  pub read_none : (reading : Reading A) → reading.cutter ≡ [] → reading.draft.line ≡ 1 → capture_so_far reading.draft ≡ no_capture → HasRead reading []
  read_none reading pending line none = record {
    front = [];
    says = holds_none reading.draft line none;
    cuts = λ more. ap (λ (t : List ℕ). lines (t ++ more)) (sym pending);
  }

  pub piece_taken : (old new : Reading A) (piece : List ℕ) → CutsInto (λ front. TakesTexts old.draft front new.draft) (old.cutter ++ piece) new.cutter → TakesPiece old piece new
  piece_taken old new piece cut text read = record {
    front = read.front ++ cut.front;
    says = held_more old.draft new.draft read.front cut.front read.says cut.says;
    cuts = λ more.
        cuts_on text old.cutter piece read.front read.cuts more
        ∙ ap (λ (ls : List (List ℕ)). read.front ++ ls) (cut.cuts more)
        ∙ sym (append_assoc read.front cut.front (lines (new.cutter ++ more)));
  }

  -- a line at which the run is refused, after those that were taken in
  refused_there : (old new : Draft A) (before front : List (List ℕ)) (line : List ℕ) (refused : RefusedLine) (rest : List (List ℕ)) → HoldsLines old before → TakesTexts old front new → IsRefusedAt new line refused → made (before ++ ((front ++ line ∷ []) ++ rest)) ≡ Err refused
  refused_there old new before front line refused rest held takes is =
      ap (λ (ls : List (List ℕ)). made (before ++ ls)) (append_assoc front (line ∷ []) rest)
      ∙ held (front ++ (line ∷ rest)) ∙ takes (line ∷ rest) ∙ is rest

  -- a piece in which the run is refused
  pub piece_refused : (old : Reading A) (new : Draft A) (piece : List ℕ) (fault : CaptureFault) → IfRefused fault (IsStopped (BeginsWithLines (old.cutter ++ piece)) (λ front. TakesTexts old.draft front new) (IsRefusedAt new)) → RefusesPiece old piece fault
  piece_refused old new piece fault says text more read =
      if_refused (IsStopped (BeginsWithLines (old.cutter ++ piece)) (λ front. TakesTexts old.draft front new) (IsRefusedAt new)) (λ refused. capture_of ((text ++ piece) ++ more) ≡ Err refused) fault
      (λ refused stop. ap needs_instrument
      (ap made (cuts_on text old.cutter piece read.front read.cuts more ∙ ap (λ (ls : List (List ℕ)). read.front ++ ls) (stop.are.1 more))
      ∙ refused_there old.draft new read.front stop.front stop.line refused (lines (stop.are.0 ++ more)) read.says stop.taken stop.is_refused)) says

  -- the whole text
  ends_there : (reading : Reading A) (text : List ℕ) (read : HasRead reading text) → lines text ≡ read.front ++ lines reading.cutter
  ends_there reading text read = ap lines (sym (append-nil text)) ∙ read.cuts [] ∙ ap (λ (t : List ℕ). read.front ++ lines t) (append-nil reading.cutter)

  pub read_all : (reading : Reading A) (new : Draft A) (text : List ℕ) → TakesTexts reading.draft (lines reading.cutter) new → HasRead reading text → HoldsLines new (lines text)
  read_all reading new text takes read =
      subst (HoldsLines new) (sym (ends_there reading text read)) (held_more reading.draft new read.front (lines reading.cutter) read.says takes)

  -- a last line at which the run is refused
  pub end_refused : (reading : Reading A) (new : Draft A) (fault : CaptureFault) → IfRefused fault (IsStopped (λ all. all ≡ lines reading.cutter) (λ front. TakesTexts reading.draft front new) (IsRefusedAt new)) → (text : List ℕ) → HasRead reading text → IsTextFaultOf (capture_of text) fault
  end_refused reading new fault says text read =
      if_refused (IsStopped (λ all. all ≡ lines reading.cutter) (λ front. TakesTexts reading.draft front new) (IsRefusedAt new)) (λ refused. capture_of text ≡ Err refused) fault
      (λ refused stop. ap needs_instrument
      (ap made (ends_there reading text read ∙ ap (λ (ls : List (List ℕ)). read.front ++ ls) (sym stop.are ∙ sym (append-nil (stop.front ++ stop.line ∷ []))))
      ∙ refused_there reading.draft new read.front stop.front stop.line refused [] read.says stop.taken stop.is_refused)) says
