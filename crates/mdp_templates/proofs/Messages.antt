-- Messages that are read one after the other.
use Rattle.std.proofs.Common.{◌≡◌, ◌≢◌, ℕ, ◌<◌, List, [], ◌∷◌, ◌++◌, drop, Option, Some, None, Result, Ok, Err, sym, ap, subst, ◌∙◌}
use Rattle.std.specs.Prelude.{IfErr}
use Rattle.std.specs.Option.{option_to_list}
use Rattle.std.specs.List.{filter_map}
use Rattle.std.proofs.lemmas.List.{append-nil}
use Rattle.std.proofs.lemmas.List.Elements.{filter_map-append}
use Rattle.mdp_sbe.proofs.Framings.{AreMessages-push}
use Rattle.mdp_sbe.specs.declared.refusal.Refusal.{Refusal}
use Rattle.mdp_sbe.specs.declared.header.Header.{Header}
use Rattle.mdp_sbe.specs.Framing.{IsHeader, Parts, BeginsMessage, AreMessages, AreRefused}
use Rattle.mdp_sbe.specs.Framing.IsRefusedHere.{in_message}
use Rattle.mdp_templates.specs.declared.quote.Quote.{Quote}
use Rattle.mdp_templates.specs.declared.fault.Fault.{Fault}
use Rattle.mdp_templates.specs.declared.fault.Fault.TheVariants as faults
use Rattle.mdp_templates.specs.Answer.{OnRefusal}
use Rattle.mdp_templates.specs.Incremental.{IsIncremental, IsRefusedIncremental, IsRefusedPacket}
use Rattle.mdp_templates.specs.Incremental.IsRefusedPacket.{in_messages}
use Rattle.mdp_templates.specs.Recovery.{AddsRecovery, full_refresh, HasBadSide, IsBadlySided, IsRecovery, IsRefusedRecovery, IsRefusedSnapshot, IsSnapshot, IsWhole, Give, AreRefusedSnapshots}
use Rattle.mdp_templates.specs.Layout.{IsLaidOut, IsRefusedLayout}
use Rattle.mdp_templates.specs.Recovery.IsRefusedSnapshot.{in_layout, in_sides}
use Rattle.mdp_templates.specs.Spans.{AddsOne}
use Rattle.mdp_templates.specs.Recovery.AreRefusedSnapshots.{in_messages as in_recovery}
use Rattle.mdp_templates.specs.Snapshot.{SnapshotContent}

-- the next message is refused
pub refused_message : {V : Type 0} (IsValue : Parts → V → Type 0) (IsRefused : Parts → Refusal → Type 0) (rest : List ℕ) (values : List V) (here : List ℕ) (message : Parts) (after : List ℕ) (fault : Fault) → AreMessages IsValue rest values here → BeginsMessage here message after → OnRefusal (IsRefused message) fault → OnRefusal (AreRefused IsValue IsRefused rest) fault
refused_message IsValue IsRefused rest values here message after (faults.Refused r) so_far begins bad = record { values = values; here = here; good = so_far; fault = in_message message after begins bad }
refused_message IsValue IsRefused rest values here message after faults.Memory so_far begins bad = tt

-- the messages of a packet are refused
pub refused_packet : (text : List ℕ) (header : Header) (fault : Fault) → IsHeader text header → 0 < header.number → OnRefusal (AreRefused IsIncremental IsRefusedIncremental (drop 12 text)) fault → OnRefusal (IsRefusedPacket text) fault
refused_packet text header (faults.Refused r) begins positive bad = in_messages header begins positive bad
refused_packet text header faults.Memory begins positive bad = tt

pub refused_packet_result : {V : Type 0} (text : List ℕ) (header : Header) (result : Result V Fault) → IsHeader text header → 0 < header.number → IfErr result (OnRefusal (AreRefused IsIncremental IsRefusedIncremental (drop 12 text))) → IfErr result (OnRefusal (IsRefusedPacket text))
refused_packet_result text header (Ok v) begins positive bad = tt
refused_packet_result text header (Err fault) begins positive bad = refused_packet text header fault begins positive bad

-- ---- the recovery feed

abbrev itself : Option SnapshotContent → Option SnapshotContent
itself value = value

-- a message more, that gives a snapshot or none
pub Give-more : (rest : List ℕ) (values new : List SnapshotContent) (here : List ℕ) (message : Parts) (after : List ℕ) → Give rest values here → BeginsMessage here message after → AddsRecovery message values new → Give rest new after
Give-more rest values new here message after so_far begins adds =
    record {
      each = so_far.each ++ adds.given ∷ [];
      follow = AreMessages-push IsRecovery rest so_far.each here message adds.given after so_far.follow begins adds.is;
      values_are = adds.grown ∙ ap (λ (vs : List SnapshotContent). vs ++ option_to_list adds.given) so_far.values_are ∙ sym (added so_far.each adds.given);
    }
  where
    added : (each : List (Option SnapshotContent)) (o : Option SnapshotContent) → filter_map itself (each ++ o ∷ []) ≡ filter_map itself each ++ option_to_list o
    added each None = filter_map-append itself each (None ∷ [])
    added each (Some value) = filter_map-append itself each (Some value ∷ [])

-- another template gives none
pub adds_nothing : (message : Parts) (values : List SnapshotContent) → message.template ≢ 52 → AddsRecovery message values values
adds_nothing message values other = record { given = None; grown = sym (append-nil values); is = other }

pub adds_snapshot : (message : Parts) (old new : List SnapshotContent) → message.template ≡ 52 → AddsOne (IsSnapshot message) old new → AddsRecovery message old new
adds_snapshot message old new template adds = record { given = Some adds.item; grown = adds.grown; is = (template, adds.is) }

pub refused_recovery : (message : Parts) (fault : Fault) → message.template ≡ 52 → OnRefusal (IsRefusedSnapshot message) fault → OnRefusal (IsRefusedRecovery message) fault
refused_recovery message (faults.Refused r) template bad = (template, bad)
refused_recovery message faults.Memory template bad = tt

pub refused_snapshot : (message : Parts) (fault : Fault) → OnRefusal (IsRefusedLayout full_refresh message) fault → OnRefusal (IsRefusedSnapshot message) fault
refused_snapshot message (faults.Refused r) bad = in_layout bad
refused_snapshot message faults.Memory bad = tt

-- the entries that are read stand in the list that is handed on
pub refused_sides : (message : Parts) (root : List ℕ) (quotes given : List (Option Quote)) (fault : Fault) → given ≡ quotes → IsLaidOut full_refresh message root quotes → OnRefusal (IsBadlySided given) fault → OnRefusal (IsRefusedSnapshot message) fault
refused_sides message root quotes given (faults.Refused r) same laid_out bad = in_sides root quotes laid_out (subst HasBadSide same bad.sides) bad.refused
refused_sides message root quotes given faults.Memory same laid_out bad = tt

pub adds_whole : (message : Parts) (root : List ℕ) (quotes given : List (Option Quote)) (old new : List SnapshotContent) → given ≡ quotes → IsLaidOut full_refresh message root quotes → AddsOne (IsWhole root given) old new → AddsOne (IsSnapshot message) old new
adds_whole message root quotes given old new same laid_out adds = record {
  item = adds.item;
  grown = adds.grown;
  is = record { root = root; quotes = quotes; laid_out = laid_out; whole = subst (λ (qs : List (Option Quote)). IsWhole root qs adds.item) same adds.is };
}

pub refused_datagram : (text : List ℕ) (header : Header) (fault : Fault) → IsHeader text header → OnRefusal (AreRefused IsRecovery IsRefusedRecovery (drop 12 text)) fault → OnRefusal (AreRefusedSnapshots text) fault
refused_datagram text header (faults.Refused r) begins bad = in_recovery header begins bad
refused_datagram text header faults.Memory begins bad = tt

pub refused_snapshots_result : {V : Type 0} (text : List ℕ) (header : Header) (result : Result V Fault) → IsHeader text header → IfErr result (OnRefusal (AreRefused IsRecovery IsRefusedRecovery (drop 12 text))) → IfErr result (OnRefusal (AreRefusedSnapshots text))
refused_snapshots_result text header (Ok v) begins bad = tt
refused_snapshots_result text header (Err fault) begins bad = refused_datagram text header fault begins bad
