-- A text that is cut line by line, and piece by piece.
use Rattle.std.proofs.Common.{◌≡◌, ℕ, ◌+◌, ◌<◌, List, [], ◌∷◌, ◌++◌, Some, length, take, drop, refl, sym, ap, ◌∙◌, subst, arith, append_assoc, append-nil}
use Rattle.std.specs.Str.Lines.{lines, strip_carriage_return}
use Rattle.memchr.specs.Find.{IsFirstByte, is_byte}
use Rattle.mdp_capture.specs.Capture.{IfRefused, RefusedLine}
use Rattle.mdp_capture.specs.Cutting.{BeginsWithLines, Cuts, CutsInto, IsStopped, LeavesOutLine}
use Rattle.mdp_capture.specs.declared.fault.CaptureFault.{CaptureFault}
use Rattle.mdp_capture.specs.declared.fault.CaptureFault.TheVariants as faults
use Rattle.mdp_capture.proofs.Splits.{IsFreeOf, free_before}
use Rattle.mdp_capture.proofs.Pieces.{cut_there, free_append, lines_at, lines_last}

-- what a refusal says follows from what another says
pub if_refused : (P Q : RefusedLine → Type 0) (fault : CaptureFault) → ((refused : RefusedLine) → P refused → Q refused) → IfRefused fault P → IfRefused fault Q
if_refused P Q (faults.Refused line refusal) on is = on (record { line = line; refusal = refusal }) is
if_refused P Q faults.Memory on is = tt
if_refused P Q faults.Input on is = is

-- ---- where a text is cut

pub cuts_on : (text rest piece : List ℕ) (front : List (List ℕ)) → Cuts text front rest → Cuts (text ++ piece) front (rest ++ piece)
cuts_on text rest piece front cuts more =
    ap lines (append_assoc text piece more) ∙ cuts (piece ++ more) ∙ ap (λ (t : List ℕ). front ++ lines t) (sym (append_assoc rest piece more))

line_there : (pending rest more : List ℕ) (k : ℕ) → IsFreeOf 10 pending → IsFirstByte (is_byte 10) rest (Some k)
    → lines ((pending ++ rest) ++ more) ≡ strip_carriage_return (pending ++ take k rest) ∷ lines (drop (k + 1) rest ++ more)
line_there pending rest more k free first =
    let behind = drop (k + 1) rest ++ more in
    ap lines (append_assoc pending rest more ∙ ap (λ (t : List ℕ). pending ++ t) (cut_there rest more k first) ∙ sym (append_assoc pending (take k rest) (10 ∷ behind)))
    ∙ lines_at (pending ++ take k rest) behind (free_append 10 pending (take k rest) free (free_before 10 rest k first))

-- one line more
pub cuts_more : (text pending rest : List ℕ) (front : List (List ℕ)) (k : ℕ) → IsFreeOf 10 pending → IsFirstByte (is_byte 10) rest (Some k) → Cuts text front (pending ++ rest) → Cuts text (front ++ strip_carriage_return (pending ++ take k rest) ∷ []) (drop (k + 1) rest)
cuts_more text pending rest front k free first cuts more =
    let line = strip_carriage_return (pending ++ take k rest) in
    cuts more
    ∙ ap (λ (ls : List (List ℕ)). front ++ ls) (line_there pending rest more k free first)
    ∙ sym (append_assoc front (line ∷ []) (lines (drop (k + 1) rest ++ more)))

-- nothing is free of what it does not hold
nothing_free : IsFreeOf 10 []
nothing_free i d below = absurd (omega (arith, below))

-- ---- what is taken in of it, by something that takes in these lines after others

module _ {L : Type 0} (Takes : L → List (List ℕ) → L → Type 0) (none : (x : L) → Takes x [] x) (more : (x y z : L) (front rest : List (List ℕ)) → Takes x front y → Takes y rest z → Takes x (front ++ rest) z) where
  -- no line yet
  pub none_cut : (x : L) (text : List ℕ) → CutsInto (λ front. Takes x front x) text text
  none_cut x text = record { front = []; says = none x; cuts = λ further. refl }

  -- one line more
  pub one_cut : (x y z : L) (text rest : List ℕ) (k : ℕ) → IsFirstByte (is_byte 10) rest (Some k) → CutsInto (λ front. Takes x front y) text rest → Takes y (strip_carriage_return (take k rest) ∷ []) z → CutsInto (λ front. Takes x front z) text (drop (k + 1) rest)
  one_cut x y z text rest k first cut step = record {
    front = cut.front ++ strip_carriage_return (take k rest) ∷ [];
    says = more x y z cut.front (strip_carriage_return (take k rest) ∷ []) cut.says step;
    cuts = cuts_more text [] rest cut.front k nothing_free first cut.cuts;
  }

  -- a line that was pending, and what follows it
  pub ended_cut : (x y z : L) (pending piece left : List ℕ) (k : ℕ) → IsFreeOf 10 pending → IsFirstByte (is_byte 10) piece (Some k) → Takes x (strip_carriage_return (pending ++ take k piece) ∷ []) y → CutsInto (λ front. Takes y front z) (drop (k + 1) piece) left → CutsInto (λ front. Takes x front z) (pending ++ piece) left
  ended_cut x y z pending piece left k free first step cut =
      let line = strip_carriage_return (pending ++ take k piece) in
      record {
        front = line ∷ cut.front;
        says = more x y z (line ∷ []) cut.front step cut.says;
        cuts = λ further. line_there pending piece further k free first ∙ ap (λ (ls : List (List ℕ)). line ∷ ls) (cut.cuts further);
      }

  -- a line that was left out stops the text there
  pub stops_there : (Refuses : List ℕ → RefusedLine → Type 0) (x y z : L) (text rest : List ℕ) (k : ℕ) (fault : CaptureFault) → IsFirstByte (is_byte 10) rest (Some k) → CutsInto (λ front. Takes x front y) text rest
      → IfRefused fault (λ refused. Takes y [] z × Refuses (strip_carriage_return (take k rest)) refused) → IfRefused fault (IsStopped (BeginsWithLines text) (λ front. Takes x front z) Refuses)
  stops_there Refuses x y z text rest k fault first cut =
      if_refused (λ refused. Takes y [] z × Refuses (strip_carriage_return (take k rest)) refused) (IsStopped (BeginsWithLines text) (λ front. Takes x front z) Refuses) fault
      (λ refused out. record {
        front = cut.front;
        line = strip_carriage_return (take k rest);
        are = (drop (k + 1) rest, cuts_more text [] rest cut.front k nothing_free first cut.cuts);
        taken = subst (λ (ls : List (List ℕ)). Takes x ls z) (append-nil cut.front) (more x y z cut.front [] cut.says out.0);
        is_refused = out.1;
      })

  -- so does one that was pending
  pub stops_at_pending : (Refuses : List ℕ → RefusedLine → Type 0) (x z : L) (pending piece : List ℕ) (k : ℕ) (fault : CaptureFault) → IsFreeOf 10 pending → IsFirstByte (is_byte 10) piece (Some k)
      → IfRefused fault (LeavesOutLine (λ front. Takes x front z) Refuses (strip_carriage_return (pending ++ take k piece))) → IfRefused fault (IsStopped (BeginsWithLines (pending ++ piece)) (λ front. Takes x front z) Refuses)
  stops_at_pending Refuses x z pending piece k fault free first =
      let line = strip_carriage_return (pending ++ take k piece) in
      if_refused (LeavesOutLine (λ front. Takes x front z) Refuses line) (IsStopped (BeginsWithLines (pending ++ piece)) (λ front. Takes x front z) Refuses) fault
      (λ refused out. record {
        front = [];
        line = line;
        are = (drop (k + 1) piece, λ further. line_there pending piece further k free first);
        taken = out.0;
        is_refused = out.1;
      })

  -- and one that follows it
  pub stops_later : (Refuses : List ℕ → RefusedLine → Type 0) (x y z : L) (pending piece : List ℕ) (k : ℕ) (fault : CaptureFault) → IsFreeOf 10 pending → IsFirstByte (is_byte 10) piece (Some k) → Takes x (strip_carriage_return (pending ++ take k piece) ∷ []) y
      → IfRefused fault (IsStopped (BeginsWithLines (drop (k + 1) piece)) (λ front. Takes y front z) Refuses) → IfRefused fault (IsStopped (BeginsWithLines (pending ++ piece)) (λ front. Takes x front z) Refuses)
  stops_later Refuses x y z pending piece k fault free first step =
      let line = strip_carriage_return (pending ++ take k piece) in
      if_refused (IsStopped (BeginsWithLines (drop (k + 1) piece)) (λ front. Takes y front z) Refuses) (IsStopped (BeginsWithLines (pending ++ piece)) (λ front. Takes x front z) Refuses) fault
      (λ refused stop. record {
        front = line ∷ stop.front;
        line = stop.line;
        are = (stop.are.0, λ further. line_there pending piece further k free first ∙ ap (λ (ls : List (List ℕ)). line ∷ ls) (stop.are.1 further));
        taken = more x y z (line ∷ []) stop.front step stop.taken;
        is_refused = stop.is_refused;
      })

  -- the last line is left out
  pub stops_last : (Refuses : List ℕ → RefusedLine → Type 0) (x z : L) (pending : List ℕ) (fault : CaptureFault) → IsFreeOf 10 pending → 0 < length pending
      → IfRefused fault (λ refused. Takes x [] z × Refuses pending refused) → IfRefused fault (IsStopped (λ all. all ≡ lines pending) (λ front. Takes x front z) Refuses)
  stops_last Refuses x z pending fault free some =
      if_refused (λ refused. Takes x [] z × Refuses pending refused) (IsStopped (λ all. all ≡ lines pending) (λ front. Takes x front z) Refuses) fault
      (λ refused out. record {
        front = [];
        line = pending;
        are = sym (lines_last pending free some);
        taken = out.0;
        is_refused = out.1;
      })
