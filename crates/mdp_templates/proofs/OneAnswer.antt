-- The law that on each feed every text has exactly one value or exactly one refusal.
use Rattle.std.proofs.Common.{◌≡◌, ◌≢◌, ◌⊎◌, ℕ, ◌<◌, ◌^◌, List, [], ◌∷◌, drop, length, Option, Some, None, Bool, true, false, Result, Ok, Err, refl, sym, ap, subst, ◌∙◌, arith, inl, inr}
use Rattle.std.specs.Prelude.{slice_index, bit_and, IsTrue, ◌↔◌}
use Rattle.std.specs.Int.{IsBitSet}
use Rattle.std.specs.List.{filter_map}
use Rattle.std.proofs.lemmas.Bool.{cases_lt}
use Rattle.mdp_sbe.specs.Number.{number_at, int32_at}
use Rattle.mdp_sbe.specs.Answer.{HasOneAnswer}
use Rattle.mdp_sbe.specs.Answer.HasOneAnswer.{is_good, is_refused}
use Rattle.mdp_sbe.specs.Framing.{IsHeader, Parts, IsRoot, IsRefusedRoot, AreMessages, AreRefused}
use Rattle.mdp_sbe.specs.Group.{IsGrouped, IsRefusedGrouped}
use Rattle.mdp_sbe.specs.declared.header.Header.{Header}
use Rattle.mdp_sbe.specs.declared.refusal.Refusal.{Refusal}
use Rattle.mdp_sbe.specs.declared.refusal.Refusal.TheVariants as refusals
use Rattle.mdp_sbe.proofs.Chains.{chained, beside}
use Rattle.mdp_sbe.proofs.Framings.{same_or_not, one_header, one_answer_of_messages}
use Rattle.mdp_sbe.proofs.Groups.{one_root, one_grouped}
use Rattle.mdp_templates.specs.declared.entry.Entry.{Entry}
use Rattle.mdp_templates.specs.declared.entry.Level.{Level}
use Rattle.mdp_templates.specs.declared.entry.Kind.{Kind}
use Rattle.mdp_templates.specs.declared.entry.Kind.TheVariants as kinds
use Rattle.mdp_templates.specs.declared.quote.Quote.{Quote}
use Rattle.mdp_templates.specs.declared.template.Template.{Template}
use Rattle.mdp_templates.specs.declared.template.Template.TheVariants as templates
use Rattle.mdp_templates.specs.Entry.{direct_depth, implied_depth}
use Rattle.mdp_templates.specs.Packet.{MessageContent, PacketContent}
use Rattle.mdp_templates.specs.Snapshot.{SnapshotContent}
use Rattle.mdp_templates.specs.Layout.{Layout, AreEntries, AreRefusedEntries, IsLaidOut, IsRefusedLayout}
use Rattle.mdp_templates.specs.Layout.IsRefusedLayout.{in_blocks, in_entry}
use Rattle.mdp_templates.specs.Incremental.{template_of, book_refresh, EndsEvent, IsBook, IsCarrier, IsSteppedOver, IsIncrementalAs, IsIncremental, IsRefusedIncrementalAs, IsRefusedIncremental, IsPacket, IsRefusedPacket}
use Rattle.mdp_templates.specs.Incremental.IsRefusedPacket.{too_short, number_zero, in_messages}
use Rattle.mdp_templates.specs.Recovery.{quote_in, full_refresh, IsSide, HasBadSide, IsWhole, IsSnapshot, IsRefusedSnapshot, IsRecovery, IsRefusedRecovery, Give, AreSnapshots, AreRefusedSnapshots}
use Rattle.mdp_templates.specs.Recovery.IsRefusedSnapshot.{in_layout, in_sides}
use Rattle.mdp_templates.specs.Recovery.AreRefusedSnapshots.{too_short as short_datagram, in_messages as in_recovery}
use Rattle.mdp_templates.proofs.Sides.{SideOrNone, side_or_none, one_side, are_shallow}

-- ---- entries

abbrev Entries : {E : Type 0} → (List ℕ → Result E Refusal) → List (List ℕ) → Type 0
Entries {E} read texts = HasOneAnswer (λ (entries : List E). AreEntries read texts entries) (AreRefusedEntries read texts)

no_more : {E : Type 0} (read : List ℕ → Result E Refusal) (entries : List E) → AreEntries read [] entries → entries ≡ []
no_more read [] good = refl
no_more read (e ∷ entries) good = absurd good

first_entry : {E : Type 0} (read : List ℕ → Result E Refusal) (text : List ℕ) (texts : List (List ℕ)) (first : Result E Refusal) → read text ≡ first → Entries read texts → Entries read (text ∷ texts)
first_entry {E} read text texts (Err r) e others = is_refused r (inl e) same none
  where
    same : (s : Refusal) → AreRefusedEntries read (text ∷ texts) s → s ≡ r
    same s (inl bad) = cc (e, bad)
    same s (inr (entry, good, later)) = absurd (cc (e, good))

    none : (entries : List E) → AreEntries read (text ∷ texts) entries → ⊥
    none [] good = good
    none (x ∷ entries) good = cc (e, good.0)
first_entry {E} read text texts (Ok v) e (is_good vs others one none) = is_good (v ∷ vs) (e, others) same clean
  where
    same : (entries : List E) → AreEntries read (text ∷ texts) entries → entries ≡ v ∷ vs
    same [] good = absurd good
    same (x ∷ entries) good = let behind = one entries good.1 in cc (e, good.0, behind)

    clean : (r : Refusal) → AreRefusedEntries read (text ∷ texts) r → ⊥
    clean r (inl bad) = cc (e, bad)
    clean r (inr (entry, good, later)) = none r later
first_entry {E} read text texts (Ok v) e (is_refused r others one none) = is_refused r (inr (v, e, others)) same clean
  where
    same : (s : Refusal) → AreRefusedEntries read (text ∷ texts) s → s ≡ r
    same s (inl bad) = absurd (cc (e, bad))
    same s (inr (entry, good, later)) = one s later

    clean : (entries : List E) → AreEntries read (text ∷ texts) entries → ⊥
    clean [] good = good
    clean (x ∷ entries) good = none entries good.1

one_entries : {E : Type 0} (read : List ℕ → Result E Refusal) (texts : List (List ℕ)) → Entries read texts
one_entries read [] = is_good [] tt (no_more read) (λ r bad. bad)
one_entries read (t ∷ texts) = first_entry read t texts (read t) refl (one_entries read texts)

-- ---- a layout

layout_fault : {E : Type 0} (layout : Layout E) (message : Parts) (r : Refusal) → IsRefusedLayout layout message r → IsRefusedGrouped message layout.least_root layout.least_entry r ⊎ ((p : List ℕ × List (List ℕ)) × IsGrouped message layout.least_root layout.least_entry p.0 p.1 × AreRefusedEntries layout.read p.1 r)
layout_fault layout message r (in_blocks bad) = inl bad
layout_fault layout message r (in_entry root texts grouped bad) = inr ((root, texts), grouped, bad)

one_layout : {E : Type 0} (layout : Layout E) (message : Parts) → HasOneAnswer (λ (q : List ℕ × List E). IsLaidOut layout message q.0 q.1) (IsRefusedLayout layout message)
one_layout {E} layout message =
    let read = layout.read in
    let least_root = layout.least_root in
    let least_entry = layout.least_entry in
    chained
    (λ (p : List ℕ × List (List ℕ)). IsGrouped message least_root least_entry p.0 p.1) (IsRefusedGrouped message least_root least_entry)
    (λ (p : List ℕ × List (List ℕ)) (q : List ℕ × List E). (q.0 ≡ p.0) × AreEntries read p.1 q.1) (λ (p : List ℕ × List (List ℕ)). AreRefusedEntries read p.1)
    (λ (q : List ℕ × List E). IsLaidOut layout message q.0 q.1) (IsRefusedLayout layout message)
    (record {
      value = λ p q grouped is. record { texts = p.1; grouped = subst (λ (x : List ℕ). IsGrouped message least_root least_entry x p.1) (sym is.0) grouped; each = is.1 };
      steps = λ q is. ((q.0, is.texts), is.grouped, (refl, is.each));
      early = λ r bad. in_blocks bad;
      late = λ p r grouped bad. in_entry p.0 p.1 grouped bad;
      fault = layout_fault layout message;
    })
    (one_grouped message least_root least_entry)
    (λ p grouped. beside p.0 (λ (entries : List E). AreEntries read p.1 entries) (AreRefusedEntries read p.1) (one_entries read p.1))

-- ---- messages of the incremental feeds

one_flag : (a b : Bool) (P : Type 0) → IsTrue a ↔ P → IsTrue b ↔ P → a ≡ b
one_flag true true P p q = refl
one_flag false false P p q = refl
one_flag true false P p q = absurd (let h : IsTrue false = q.1 (p.0 refl) in cc h)
one_flag false true P p q = absurd (let h : IsTrue false = p.1 (q.0 refl) in cc h)

some_flag : (root : List ℕ) → (end : Bool) × EndsEvent root end
some_flag root =
    elim (same_or_not (bit_and (slice_index root 8) (2 ^ 7)) 0) [
      | inl clear ↦
          let none : IsTrue false → bit_and (slice_index root 8) (2 ^ 7) ≢ 0 = λ h. absurd (cc h) in
          (false, (none, λ set. absurd (set clear)))
      | inr set ↦ (true, (λ _. set, λ _. refl))
    ]

abbrev HasContent : List Entry → List ℕ → MessageContent → Type 0
HasContent entries root value = (value.entries ≡ entries) × EndsEvent root value.end

same_content : (entries : List Entry) (root : List ℕ) (value other : MessageContent) → HasContent entries root value → HasContent entries root other → value ≡ other
same_content entries root value other a b =
    let flag : value.end ≡ other.end = one_flag value.end other.end (IsBitSet (slice_index root 8) 7) a.1 b.1 in
    let make : List Entry → Bool → MessageContent = λ es e. record { entries = es; end = e } in
    ap (λ (es : List Entry). make es value.end) (a.0 ∙ sym b.0) ∙ ap (λ (e : Bool). make other.entries e) flag

one_content : (entries : List Entry) (root : List ℕ) → HasOneAnswer (HasContent entries root) (λ _. ⊥)
one_content entries root =
    let flag = some_flag root in
    let value : MessageContent = record { entries = entries; end = flag.0 } in
    is_good value (refl, flag.1) (λ other is. same_content entries root other value is (refl, flag.1)) (λ r bad. bad)

late_fault : {U : Type 0} (First : U → Type 0) (FirstRefused : Refusal → Type 0) (r : Refusal) → FirstRefused r → FirstRefused r ⊎ ((u : U) × First u × ⊥)
late_fault First FirstRefused r bad = inl bad

one_book : (message : Parts) → HasOneAnswer (IsBook message) (IsRefusedLayout book_refresh message)
one_book message =
    chained
    (λ (p : List ℕ × List Entry). IsLaidOut book_refresh message p.0 p.1) (IsRefusedLayout book_refresh message)
    (λ (p : List ℕ × List Entry) (value : MessageContent). HasContent p.1 p.0 value) (λ _ _. ⊥)
    (IsBook message) (IsRefusedLayout book_refresh message)
    (record {
      value = λ p value laid_out is. record { root = p.0; laid_out = subst (λ (es : List Entry). IsLaidOut book_refresh message p.0 es) (sym is.0) laid_out; ends = is.1 };
      steps = λ value is. ((is.root, value.entries), is.laid_out, (refl, is.ends));
      early = λ r bad. bad;
      late = λ p r laid_out bad. absurd bad;
      fault = late_fault (λ (p : List ℕ × List Entry). IsLaidOut book_refresh message p.0 p.1) (IsRefusedLayout book_refresh message);
    })
    (one_layout book_refresh message)
    (λ p laid_out. one_content p.1 p.0)

one_carrier : (message : Parts) → HasOneAnswer (IsCarrier message) (IsRefusedRoot message 9)
one_carrier message =
    chained
    (λ (p : List ℕ × List ℕ). IsRoot message 9 p.0 p.1) (IsRefusedRoot message 9)
    (λ (p : List ℕ × List ℕ) (value : MessageContent). HasContent [] p.0 value) (λ _ _. ⊥)
    (IsCarrier message) (IsRefusedRoot message 9)
    (record {
      value = λ p value block is. record { root = p.0; rest = p.1; block = block; none = is.0; ends = is.1 };
      steps = λ value is. ((is.root, is.rest), is.block, (is.none, is.ends));
      early = λ r bad. bad;
      late = λ p r block bad. absurd bad;
      fault = late_fault (λ (p : List ℕ × List ℕ). IsRoot message 9 p.0 p.1) (IsRefusedRoot message 9);
    })
    (one_root message 9)
    (λ p block. one_content [] p.0)

not_true : (b : Bool) → (IsTrue b → ⊥) → b ≡ false
not_true true never = absurd (never refl)
not_true false never = refl

same_step : (value other : MessageContent) → IsSteppedOver value → IsSteppedOver other → value ≡ other
same_step value other a b =
    let flag : value.end ≡ other.end = not_true value.end a.goes_on ∙ sym (not_true other.end b.goes_on) in
    let make : List Entry → Bool → MessageContent = λ es e. record { entries = es; end = e } in
    ap (λ (es : List Entry). make es value.end) (a.none ∙ sym b.none) ∙ ap (λ (e : Bool). make other.entries e) flag

one_step : HasOneAnswer IsSteppedOver (λ _. ⊥)
one_step =
    let value : MessageContent = record { entries = []; end = false } in
    let never : IsTrue false → ⊥ = λ h. cc h in
    let is : IsSteppedOver value = record { none = refl; goes_on = never } in
    is_good value is (λ other step. same_step other value step is) (λ r bad. bad)

one_as : (template : Template) (message : Parts) → HasOneAnswer (IsIncrementalAs template message) (IsRefusedIncrementalAs template message)
one_as templates.Book message = one_book message
one_as templates.Carrier message = one_carrier message
one_as templates.ChannelReset message = is_refused refusals.ChannelReset refl (λ s bad. bad) (λ value is. is)
one_as templates.Other message = one_step

one_incremental : (message : Parts) → HasOneAnswer (IsIncremental message) (IsRefusedIncremental message)
one_incremental message = one_as (template_of message.template) message

-- ---- a packet

short_or_not : (text : List ℕ) → HasOneAnswer (IsHeader text) (λ r. (length text < 12) × (r ≡ refusals.TooShort))
short_or_not text =
    elim (cases_lt (length text) 12) [
      | inl short ↦ is_refused refusals.TooShort (short, refl) (λ s bad. bad.1) (λ header is. omega (arith, short, is.long))
      | inr long ↦
          let header : Header = record { number = number_at 0 4 text; time = number_at 4 8 text } in
          let is : IsHeader text header = record { long = long; number = refl; time = refl } in
          is_good header is (λ other begins. one_header text other header begins is) (λ r bad. omega (arith, bad.0, long))
    ]

abbrev Behind : List ℕ → Header → PacketContent → Type 0
Behind text header value = (0 < value.number) × (value.number ≡ header.number) × AreMessages IsIncremental (drop 12 text) value.messages []

abbrev BehindRefused : List ℕ → Header → Refusal → Type 0
BehindRefused text header r = ((header.number ≡ 0) × (r ≡ refusals.NumberZero)) ⊎ ((0 < header.number) × AreRefused IsIncremental IsRefusedIncremental (drop 12 text) r)

behind_good : (text : List ℕ) (header : Header) → 0 < header.number → HasOneAnswer (λ (vs : List MessageContent). AreMessages IsIncremental (drop 12 text) vs []) (AreRefused IsIncremental IsRefusedIncremental (drop 12 text)) → HasOneAnswer (Behind text header) (BehindRefused text header)
behind_good text header positive (is_good vs good one none) = is_good (record { number = header.number; messages = vs }) (positive, refl, good) same clean
  where
    same : (w : PacketContent) → Behind text header w → w ≡ record { number = header.number; messages = vs }
    same w is =
        let make : ℕ → List MessageContent → PacketContent = λ n ms. record { number = n; messages = ms } in
        ap (λ (n : ℕ). make n w.messages) is.1 ∙ ap (λ (ms : List MessageContent). make header.number ms) (one w.messages is.2)

    clean : (r : Refusal) → BehindRefused text header r → ⊥
    clean r (inl (zero_is, e)) = omega (arith, positive, zero_is)
    clean r (inr (some, bad)) = none r bad
behind_good text header positive (is_refused r refused one none) = is_refused r (inr (positive, refused)) same (λ w is. none w.messages is.2)
  where
    same : (s : Refusal) → BehindRefused text header s → s ≡ r
    same s (inl (zero_is, e)) = absurd (omega (arith, positive, zero_is))
    same s (inr (some, bad)) = one s bad

behind_zero : (text : List ℕ) (header : Header) → header.number ≡ 0 → HasOneAnswer (Behind text header) (BehindRefused text header)
behind_zero text header zero_is = is_refused refusals.NumberZero (inl (zero_is, refl)) same (λ w is. omega (arith, is.0, is.1, zero_is))
  where
    same : (s : Refusal) → BehindRefused text header s → s ≡ refusals.NumberZero
    same s (inl (e, is)) = is
    same s (inr (some, bad)) = absurd (omega (arith, some, zero_is))

behind_header : (text : List ℕ) (header : Header) → HasOneAnswer (Behind text header) (BehindRefused text header)
behind_header text header =
    elim (cases_lt 0 header.number) [
      | inl positive ↦ behind_good text header positive (one_answer_of_messages IsIncremental IsRefusedIncremental (drop 12 text) one_incremental)
      | inr none ↦ behind_zero text header (omega (arith, none))
    ]

packet_late : (text : List ℕ) (header : Header) (r : Refusal) → IsHeader text header → BehindRefused text header r → IsRefusedPacket text r
packet_late text header r begins (inl (zero_is, e)) = number_zero header begins zero_is e
packet_late text header r begins (inr (positive, bad)) = in_messages header begins positive bad

packet_fault : (text : List ℕ) (r : Refusal) → IsRefusedPacket text r → ((length text < 12) × (r ≡ refusals.TooShort)) ⊎ ((header : Header) × IsHeader text header × BehindRefused text header r)
packet_fault text r (too_short short e) = inl (short, e)
packet_fault text r (number_zero header begins zero_is e) = inr (header, begins, inl (zero_is, e))
packet_fault text r (in_messages header begins positive bad) = inr (header, begins, inr (positive, bad))

pub one_packet : (text : List ℕ) → HasOneAnswer (IsPacket text) (IsRefusedPacket text)
one_packet text =
    chained
    (IsHeader text) (λ r. (length text < 12) × (r ≡ refusals.TooShort))
    (Behind text) (BehindRefused text)
    (IsPacket text) (IsRefusedPacket text)
    (record {
      value = λ header value begins is. record { header = header; begins = begins; positive = is.0; number = is.1; follow = is.2 };
      steps = λ value is. (is.header, is.begins, (is.positive, is.number, is.follow));
      early = λ r bad. too_short bad.0 bad.1;
      late = packet_late text;
      fault = packet_fault text;
    })
    (short_or_not text)
    (λ header begins. behind_header text header)

-- ---- snapshots

abbrev FourSides : List ℕ → List (Option Quote) → Type 0
FourSides root quotes = HasOneAnswer (IsWhole root quotes) (λ r. HasBadSide quotes × (r ≡ refusals.SnapshotLevels))

bad_sides : (root : List ℕ) (quotes : List (Option Quote)) → HasBadSide quotes → ((value : SnapshotContent) → IsWhole root quotes value → ⊥) → FourSides root quotes
bad_sides root quotes bad none = is_refused refusals.SnapshotLevels (bad, refl) (λ s other. other.1) none

has_side : (root : List ℕ) (quotes : List (Option Quote)) (value : SnapshotContent) → IsWhole root quotes value → HasBadSide quotes → ⊥
has_side root quotes value is bad = of_kind bad.kind bad.none
  where
    of_kind : (kind : Kind) → ((side : List Level) → IsSide kind quotes side → ⊥) → ⊥
    of_kind kinds.Bid none = none value.bids is.bids
    of_kind kinds.Offer none = none value.offers is.offers
    of_kind kinds.ImpliedBid none = none value.implied_bids is.implied_bids
    of_kind kinds.ImpliedOffer none = none value.implied_offers is.implied_offers

same_whole : (root : List ℕ) (quotes : List (Option Quote)) (v w : SnapshotContent) → IsWhole root quotes v → IsWhole root quotes w → v ≡ w
same_whole root quotes v w a b =
    let security = a.security ∙ sym b.security in
    let last = a.last ∙ sym b.last in
    let bids = one_side kinds.Bid quotes v.bids w.bids a.bids b.bids in
    let offers = one_side kinds.Offer quotes v.offers w.offers a.offers b.offers in
    let implied_bids = one_side kinds.ImpliedBid quotes v.implied_bids w.implied_bids a.implied_bids b.implied_bids in
    let implied_offers = one_side kinds.ImpliedOffer quotes v.implied_offers w.implied_offers a.implied_offers b.implied_offers in
    ap (λ x. record v { security = x }) security
    ∙ ap (λ x. record v { security = w.security; last = x }) last
    ∙ ap (λ x. record v { security = w.security; last = w.last; bids = x }) bids
    ∙ ap (λ x. record v { security = w.security; last = w.last; bids = w.bids; offers = x }) offers
    ∙ ap (λ x. record w { implied_bids = x; implied_offers = v.implied_offers }) implied_bids
    ∙ ap (λ x. record w { implied_offers = x }) implied_offers

four_sides : (root : List ℕ) (quotes : List (Option Quote)) → SideOrNone kinds.Bid quotes → SideOrNone kinds.Offer quotes → SideOrNone kinds.ImpliedBid quotes → SideOrNone kinds.ImpliedOffer quotes → FourSides root quotes
four_sides root quotes (inr none) offers implied_bids implied_offers = bad_sides root quotes (record { kind = kinds.Bid; none = none }) (λ value is. none value.bids is.bids)
four_sides root quotes (inl bids) (inr none) implied_bids implied_offers = bad_sides root quotes (record { kind = kinds.Offer; none = none }) (λ value is. none value.offers is.offers)
four_sides root quotes (inl bids) (inl offers) (inr none) implied_offers = bad_sides root quotes (record { kind = kinds.ImpliedBid; none = none }) (λ value is. none value.implied_bids is.implied_bids)
four_sides root quotes (inl bids) (inl offers) (inl implied_bids) (inr none) = bad_sides root quotes (record { kind = kinds.ImpliedOffer; none = none }) (λ value is. none value.implied_offers is.implied_offers)
four_sides root quotes (inl bids) (inl offers) (inl implied_bids) (inl implied_offers) =
    let value : SnapshotContent = record { security = int32_at 8 root; last = number_at 0 4 root; bids = bids.0; offers = offers.0; implied_bids = implied_bids.0; implied_offers = implied_offers.0 } in
    let is : IsWhole root quotes value = record { last = refl; security = refl; bids = bids.1; offers = offers.1; implied_bids = implied_bids.1; implied_offers = implied_offers.1 } in
    is_good value is (λ other whole. same_whole root quotes other value whole is) (λ r bad. has_side root quotes value is bad.0)

sides_behind : (root : List ℕ) (texts : List (List ℕ)) (quotes : List (Option Quote)) → AreEntries quote_in texts quotes → FourSides root quotes
sides_behind root texts quotes good =
    four_sides root quotes
    (side_or_none kinds.Bid quotes direct_depth (are_shallow kinds.Bid texts quotes good))
    (side_or_none kinds.Offer quotes direct_depth (are_shallow kinds.Offer texts quotes good))
    (side_or_none kinds.ImpliedBid quotes implied_depth (are_shallow kinds.ImpliedBid texts quotes good))
    (side_or_none kinds.ImpliedOffer quotes implied_depth (are_shallow kinds.ImpliedOffer texts quotes good))

snapshot_fault : (message : Parts) (r : Refusal) → IsRefusedSnapshot message r → IsRefusedLayout full_refresh message r ⊎ ((p : List ℕ × List (Option Quote)) × IsLaidOut full_refresh message p.0 p.1 × (HasBadSide p.1 × (r ≡ refusals.SnapshotLevels)))
snapshot_fault message r (in_layout bad) = inl bad
snapshot_fault message r (in_sides root quotes laid_out bad e) = inr ((root, quotes), laid_out, (bad, e))

one_snapshot : (message : Parts) → HasOneAnswer (IsSnapshot message) (IsRefusedSnapshot message)
one_snapshot message =
    chained
    (λ (p : List ℕ × List (Option Quote)). IsLaidOut full_refresh message p.0 p.1) (IsRefusedLayout full_refresh message)
    (λ (p : List ℕ × List (Option Quote)). IsWhole p.0 p.1) (λ (p : List ℕ × List (Option Quote)) r. HasBadSide p.1 × (r ≡ refusals.SnapshotLevels))
    (IsSnapshot message) (IsRefusedSnapshot message)
    (record {
      value = λ p value laid_out whole. record { root = p.0; quotes = p.1; laid_out = laid_out; whole = whole };
      steps = λ value is. ((is.root, is.quotes), is.laid_out, is.whole);
      early = λ r bad. in_layout bad;
      late = λ p r laid_out bad. in_sides p.0 p.1 laid_out bad.0 bad.1;
      fault = snapshot_fault message;
    })
    (one_layout full_refresh message)
    (λ p laid_out. sides_behind p.0 laid_out.texts p.1 laid_out.each)

with_snapshot : (message : Parts) → message.template ≡ 52 → HasOneAnswer (IsSnapshot message) (IsRefusedSnapshot message) → HasOneAnswer (IsRecovery message) (IsRefusedRecovery message)
with_snapshot message template (is_good v good one none) = is_good (Some v) (template, good) same (λ r bad. none r bad.1)
  where
    same : (o : Option SnapshotContent) → IsRecovery message o → o ≡ Some v
    same None other = absurd (other template)
    same (Some w) is = ap (λ (x : SnapshotContent). Some x) (one w is.1)
with_snapshot message template (is_refused r refused one none) = is_refused r (template, refused) (λ s bad. one s bad.1) clean
  where
    clean : (o : Option SnapshotContent) → IsRecovery message o → ⊥
    clean None other = other template
    clean (Some w) is = none w is.1

without_snapshot : (message : Parts) → message.template ≢ 52 → HasOneAnswer (IsRecovery message) (IsRefusedRecovery message)
without_snapshot message other = is_good None other same (λ r bad. other bad.0)
  where
    same : (o : Option SnapshotContent) → IsRecovery message o → o ≡ None
    same None is = refl
    same (Some w) is = absurd (other is.0)

one_recovery : (message : Parts) → HasOneAnswer (IsRecovery message) (IsRefusedRecovery message)
one_recovery message =
    elim (same_or_not message.template 52) [
      | inl template ↦ with_snapshot message template (one_snapshot message)
      | inr other ↦ without_snapshot message other
    ]

abbrev itself : Option SnapshotContent → Option SnapshotContent
itself value = value

behind_datagram : (text : List ℕ) → HasOneAnswer (λ (each : List (Option SnapshotContent)). AreMessages IsRecovery (drop 12 text) each []) (AreRefused IsRecovery IsRefusedRecovery (drop 12 text)) → HasOneAnswer (λ (values : List SnapshotContent). Give (drop 12 text) values []) (AreRefused IsRecovery IsRefusedRecovery (drop 12 text))
behind_datagram text (is_good each good one none) = is_good (filter_map itself each) (record { each = each; follow = good; values_are = refl }) same none
  where
    same : (values : List SnapshotContent) → Give (drop 12 text) values [] → values ≡ filter_map itself each
    same values is = is.values_are ∙ ap (filter_map itself) (one is.each is.follow)
behind_datagram text (is_refused r refused one none) = is_refused r refused one (λ values is. none is.each is.follow)

datagram_fault : (text : List ℕ) (r : Refusal) → AreRefusedSnapshots text r → ((length text < 12) × (r ≡ refusals.TooShort)) ⊎ ((header : Header) × IsHeader text header × AreRefused IsRecovery IsRefusedRecovery (drop 12 text) r)
datagram_fault text r (short_datagram short e) = inl (short, e)
datagram_fault text r (in_recovery header begins bad) = inr (header, begins, bad)

pub one_datagram : (text : List ℕ) → HasOneAnswer (AreSnapshots text) (AreRefusedSnapshots text)
one_datagram text =
    chained
    (IsHeader text) (λ r. (length text < 12) × (r ≡ refusals.TooShort))
    (λ _ (values : List SnapshotContent). Give (drop 12 text) values []) (λ _. AreRefused IsRecovery IsRefusedRecovery (drop 12 text))
    (AreSnapshots text) (AreRefusedSnapshots text)
    (record {
      value = λ header values begins give. record { header = header; begins = begins; give = give };
      steps = λ values is. (is.header, is.begins, is.give);
      early = λ r bad. short_datagram bad.0 bad.1;
      late = λ header r begins bad. in_recovery header begins bad;
      fault = datagram_fault text;
    })
    (short_or_not text)
    (λ header begins. behind_datagram text (one_answer_of_messages IsRecovery IsRefusedRecovery (drop 12 text) one_recovery))
