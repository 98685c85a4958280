-- A reading that follows the bytes of a reader.
use Rattle.std.proofs.Common.{◌≡◌, ℕ, List, [], ◌++◌, Option, None, Some, Result, Ok, Err, length, take, drop, refl, sym, ap, ◌∙◌, subst, append_assoc, append-nil}
use Rattle.std.proofs.lemmas.List.{take_at}
use Rattle.std.specs.Prelude.{IfErr, IfSome}
use Rattle.std.specs.Io.KnownBytes.{Consumes, IsAtEnd}
use Rattle.mdp_capture.specs.Capture.{CaptureContent, RefusedLine, capture_of, IsFaultOf, IsTextFaultOf}
use Rattle.mdp_capture.specs.declared.fault.CaptureFault.{CaptureFault}
use Rattle.mdp_capture.specs.declared.fault.CaptureFault.TheVariants as faults

-- no read fails in a line
pub as_fault : (answer : Result CaptureContent RefusedLine) (fault : CaptureFault) → IsTextFaultOf answer fault → IsFaultOf answer fault
as_fault answer (faults.Refused line refusal) is = is
as_fault answer faults.Memory is = tt
as_fault answer faults.Input is = tt

pub no_input : {X P : Type 0} (result : Result X CaptureFault) (answer : Result CaptureContent RefusedLine) (fault : CaptureFault) → IsTextFaultOf answer fault → result ≡ Err fault → result ≡ Err faults.Input → P
no_input result answer (faults.Refused line refusal) says is same = absurd (cc)
no_input result answer faults.Memory says is same = absurd (cc)
no_input result answer faults.Input says is same = absurd says

pub never_input : {X P : Type 0} (result : Result X CaptureFault) (answer : Result CaptureContent RefusedLine) → IfErr result (IsTextFaultOf answer) → result ≡ Err faults.Input → P
never_input (Ok x) answer says same = absurd (cc)
never_input (Err fault) answer says same = no_input (Err fault) answer fault says refl same

-- before the first read
pub starts : (rest : Option (List ℕ)) → Consumes rest rest []
starts None = tt
starts (Some text) = refl

-- after one more read
pub goes_on : (whole old new : Option (List ℕ)) (text bytes : List ℕ) → Consumes whole old text → Consumes old new bytes → Consumes whole new (text ++ bytes)
goes_on None old new text bytes follows read = tt
goes_on (Some whole) None new text bytes follows read = elim follows [ ]
goes_on (Some whole) (Some old) None text bytes follows read = elim read [ ]
goes_on (Some whole) (Some old) (Some new) text bytes follows read = follows ∙ ap (λ (t : List ℕ). text ++ t) read ∙ sym (append_assoc text bytes new)

-- at the end
pub comes_to : (P : List ℕ → Type 0) (whole old new : Option (List ℕ)) (text : List ℕ) → Consumes whole old text → Consumes old new [] → IsAtEnd new → P text → IfSome whole P
comes_to P None old new text follows read end is = tt
comes_to P (Some whole) None new text follows read end is = elim follows [ ]
comes_to P (Some whole) (Some old) None text follows read end is = elim read [ ]
comes_to P (Some whole) (Some old) (Some new) text follows read end is =
    let all : whole ≡ text = follows ∙ ap (λ (t : List ℕ). text ++ t) (read ∙ end) ∙ append-nil text in
    subst P (sym all) is

-- at a line of what was read
pub fails_there : (whole old new : Option (List ℕ)) (text bytes : List ℕ) (fault : CaptureFault) → Consumes whole old text → Consumes old new bytes → ((more : List ℕ) → IsTextFaultOf (capture_of ((text ++ bytes) ++ more)) fault) → IfSome whole (λ w. IsFaultOf (capture_of w) fault)
fails_there None old new text bytes fault follows read is = tt
fails_there (Some whole) None new text bytes fault follows read is = elim follows [ ]
fails_there (Some whole) (Some old) None text bytes fault follows read is = elim read [ ]
fails_there (Some whole) (Some old) (Some new) text bytes fault follows read is =
    let all : whole ≡ (text ++ bytes) ++ new = follows ∙ ap (λ (t : List ℕ). text ++ t) read ∙ sym (append_assoc text bytes new) in
    as_fault (capture_of whole) fault (subst (λ (w : List ℕ). IsTextFaultOf (capture_of w) fault) (sym all) (is new))

-- a failed read says nothing of the text
pub says_nothing : (whole : Option (List ℕ)) → IfSome whole (λ text. IsFaultOf (capture_of text) faults.Input)
says_nothing None = tt
says_nothing (Some whole) = tt

-- what a read wrote to the whole of a buffer is the buffer
pub whole_buffer : (len : ℕ) (bytes items got : List ℕ) → length bytes ≡ len → got ≡ take len (bytes ++ drop (length bytes) items) → got ≡ bytes
whole_buffer len bytes items got same is = is ∙ take_at bytes (drop (length bytes) items) len same
