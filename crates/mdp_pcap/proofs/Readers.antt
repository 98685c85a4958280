-- A reader goes on, block by block.
use Rattle.std.proofs.Common.{◌≡◌, ℕ, List, [], ◌∷◌, ◌++◌, take, drop, length, sym, ap, subst, ◌∙◌, arith, refl, Option, Some, None}
use Rattle.std.specs.List.{flat_map}
use Rattle.std.proofs.lemmas.Grind.{flat_map-append}
use Rattle.std.proofs.lemmas.List.{append_assoc, append-nil, length-drop, drop-append-le}
use Rattle.mdp_pcap.specs.Frame.{CapturedContent}
use Rattle.mdp_pcap.specs.Block.{Reading, BlockContent, read_on, frames_of}
use Rattle.mdp_pcap.specs.File.{FrontContent, Whole, Faulty, front_of, cut_end, EndsAs}
use Rattle.mdp_pcap.specs.Placing.{block_in}
use Rattle.mdp_pcap.specs.Reader.{NumberedFrame, Takes, numbered, number_after, next_number, ReaderContent, IsReadOn, StandsAs, IsReadWhole, ending_with, at_first, HasHandedOn, IsReadSome, HasHalted}
use Rattle.mdp_pcap.specs.Stepping.{HasMovedOn, HasGoneOn}
use Rattle.mdp_pcap.specs.declared.block.Block.{Block}
use Rattle.mdp_pcap.specs.declared.layout.Layout.{Layout}
use Rattle.mdp_pcap.specs.declared.layout.PcapFault.{PcapFault}
use Rattle.mdp_pcap.specs.declared.pcap_reader.Halt.{Halt}
use Rattle.mdp_pcap.specs.declared.pcap_reader.Halt.TheVariants as halts
use Rattle.mdp_pcap.proofs.Blocks.{blocks_join, blocks_more}
use Rattle.mdp_pcap.proofs.Fronts.{whole_more, whole_least, faulty_more}

pub numbered-append : (number : ℕ) (frames others : List CapturedContent) → numbered number (frames ++ others) ≡ numbered number frames ++ numbered (number_after number frames) others
numbered-append number [] others = refl
numbered-append number (frame ∷ frames) others = let later = numbered-append (next_number number) frames others in cc

number_after-append : (number : ℕ) (frames others : List CapturedContent) → number_after number (frames ++ others) ≡ number_after (number_after number frames) others
number_after-append number [] others = refl
number_after-append number (frame ∷ frames) others = number_after-append (next_number number) frames others

-- nothing is read
pub reads_none : {B S : Type 0} (holds : B → S → List NumberedFrame → Type 0) (now : ReaderContent) (text : List ℕ) (sink : S) → IsReadOn (Takes holds sink sink) now now text text
reads_none holds now text sink = record { blocks = []; follow = (refl, refl); taken = λ beside frames held. subst (holds beside sink) (sym (append-nil frames)) held; counted = refl }

-- What is read and then read on is read: whatever is known of the frames so far and of those behind them, as it follows of all.
pub reads_follow : (Before Behind All : List NumberedFrame → Type 0) (old middle now : ReaderContent) (text rest left : List ℕ)
    → ((frames more : List NumberedFrame) → Before frames → Behind more → All (frames ++ more))
    → IsReadOn Before old middle text rest → IsReadOn Behind middle now rest left → IsReadOn All old now text left
reads_follow Before Behind All old middle now text rest left join first second =
    let frames = flat_map frames_of first.blocks in
    let others = flat_map frames_of second.blocks in
    let both : flat_map frames_of (first.blocks ++ second.blocks) ≡ frames ++ others = flat_map-append frames_of first.blocks second.blocks in
    let numbers : numbered old.number (flat_map frames_of (first.blocks ++ second.blocks)) ≡ numbered old.number frames ++ numbered middle.number others =
    ap (numbered old.number) both ∙ numbered-append old.number frames others ∙ ap (λ (n : ℕ). numbered old.number frames ++ numbered n others) first.counted in
    record {
      blocks = first.blocks ++ second.blocks;
      follow = blocks_join old.reading text first.blocks second.blocks middle.reading rest now.reading left first.follow second.follow;
      taken = subst All (sym numbers) (join (numbered old.number frames) (numbered middle.number others) first.taken second.taken);
      counted = ap (number_after old.number) both ∙ number_after-append old.number frames others ∙ ap (λ (n : ℕ). number_after n others) first.counted ∙ second.counted;
    }

takes_join : {B S : Type 0} (holds : B → S → List NumberedFrame → Type 0) (before between after : S) (frames more : List NumberedFrame)
    → Takes holds before between frames → Takes holds between after more → Takes holds before after (frames ++ more)
takes_join holds before between after frames more first second =
    λ beside earlier held. subst (holds beside after) (append_assoc earlier frames more) (second beside (earlier ++ frames) (first beside earlier held))

pub reads_join : {B S : Type 0} (holds : B → S → List NumberedFrame → Type 0) (old middle now : ReaderContent) (text rest left : List ℕ) (before between after : S) → IsReadOn (Takes holds before between) old middle text rest → IsReadOn (Takes holds between after) middle now rest left → IsReadOn (Takes holds before after) old now text left
reads_join holds old middle now text rest left before between after first second =
    reads_follow (Takes holds before between) (Takes holds between after) (Takes holds before after) old middle now text rest left (takes_join holds before between after) first second

pub whole_follow : (Before Behind All : List NumberedFrame → Type 0) (old middle now : ReaderContent) (text rest : List ℕ)
    → ((frames more : List NumberedFrame) → Before frames → Behind more → All (frames ++ more))
    → IsReadOn Before old middle text rest → IsReadWhole Behind middle now rest → IsReadWhole All old now text
whole_follow Before Behind All old middle now text rest join first second =
    record { left = second.left; so_far = reads_follow Before Behind All old middle now text rest second.left join first second.so_far; stands = second.stands }

pub whole_join : {B S : Type 0} (holds : B → S → List NumberedFrame → Type 0) (old middle now : ReaderContent) (text rest : List ℕ) (before between after : S) → IsReadOn (Takes holds before between) old middle text rest → IsReadWhole (Takes holds between after) middle now rest → IsReadWhole (Takes holds before after) old now text
whole_join holds old middle now text rest before between after first second =
    whole_follow (Takes holds before between) (Takes holds between after) (Takes holds before after) old middle now text rest (takes_join holds before between after) first second

-- one block is read
reads_one : {B S : Type 0} (holds : B → S → List NumberedFrame → Type 0) (old now : ReaderContent) (text : List ℕ) (before after : S) (count : ℕ) (block : BlockContent) → front_of old.reading.layout old.reading.interfaces text ≡ Whole count block → read_on old.reading block ≡ now.reading → number_after old.number (frames_of block) ≡ now.number → Takes holds before after (numbered old.number (frames_of block)) → IsReadOn (Takes holds before after) old now text (drop count text)
reads_one holds old now text before after count block front reading counted taken =
    let alone : flat_map frames_of (block ∷ []) ≡ frames_of block = append-nil (frames_of block) in
    record {
      blocks = block ∷ [];
      follow = (count, front, (reading, refl));
      taken = λ beside frames held. subst (λ (fs : List CapturedContent). holds beside after (frames ++ numbered old.number fs)) (sym alone) (taken beside frames held);
      counted = ap (number_after old.number) alone ∙ counted;
    }

-- the block lay whole in the piece
pub went_in_piece : {B S : Type 0} (holds : B → S → List NumberedFrame → Type 0) (old now : ReaderContent) (rest : List ℕ) (before after : S) (count : ℕ) (block : Block) → old.held ≡ [] → old.fault ≡ None → front_of old.reading.layout old.reading.interfaces rest ≡ Whole count (block_in (take count rest) block) → HasMovedOn block old now → Takes holds before after (numbered old.number (frames_of (block_in (take count rest) block))) → HasGoneOn (Takes holds before after) old now rest count
went_in_piece holds old now rest before after count block empty going front moved taken =
    let said = block_in (take count rest) block in
    let least = whole_least old.reading.layout old.reading.interfaces rest count said front in
    let one = reads_one holds old now rest before after count said front (moved.reading (take count rest)) (moved.counted (take count rest)) taken in
    let held : now.held ≡ [] = moved.held ∙ empty in
    let first : rest ≡ old.held ++ rest = sym (ap (λ (h : List ℕ). h ++ rest) empty) in
    let last : drop count rest ≡ now.held ++ drop count rest = sym (ap (λ (h : List ℕ). h ++ drop count rest) held) in
    record {
      fits = least.1;
      read = subst (λ (t : List ℕ). IsReadOn (Takes holds before after) old now t (now.held ++ drop count rest)) first (subst (λ (t : List ℕ). IsReadOn (Takes holds before after) old now rest t) last one);
      going = moved.going ∙ going;
      less = omega (arith, least.0, least.1, ap length held, ap length empty);
    }

-- the block was held whole
pub went_in_held : {B S : Type 0} (holds : B → S → List NumberedFrame → Type 0) (old middle now : ReaderContent) (rest : List ℕ) (before after : S) (count : ℕ) (block : Block) → middle ≡ record old { held = drop count old.held } → old.fault ≡ None → front_of old.reading.layout old.reading.interfaces old.held ≡ Whole count (block_in (take count old.held) block) → HasMovedOn block middle now → Takes holds before after (numbered old.number (frames_of (block_in (take count old.held) block))) → HasGoneOn (Takes holds before after) old now rest 0
went_in_held holds old middle now rest before after count block dropped going front moved taken =
    let said = block_in (take count old.held) block in
    let least = whole_least old.reading.layout old.reading.interfaces old.held count said front in
    let same : HasMovedOn block (record old { held = drop count old.held }) now = subst (λ (m : ReaderContent). HasMovedOn block m now) dropped moved in
    let text = old.held ++ rest in
    let one = reads_one holds old now text before after count said (whole_more old.reading.layout old.reading.interfaces old.held rest count said front) (same.reading (take count old.held)) (same.counted (take count old.held)) taken in
    let left : drop count text ≡ now.held ++ drop 0 rest = drop-append-le count old.held rest least.1 ∙ ap (λ (h : List ℕ). h ++ rest) (sym same.held) in
    record {
      fits = omega arith;
      read = subst (λ (t : List ℕ). IsReadOn (Takes holds before after) old now text t) left one;
      going = same.going ∙ going;
      less = omega (arith, least.0, least.1, ap length same.held, length-drop count old.held);
    }

-- what is held begins no block
pub stopped_in_held : {B S : Type 0} (holds : B → S → List NumberedFrame → Type 0) (old now : ReaderContent) (rest : List ℕ) (sink : S) (fault : PcapFault) → now ≡ record old { held = []; fault = Some fault } → front_of old.reading.layout old.reading.interfaces old.held ≡ Faulty fault → IsReadWhole (Takes holds sink sink) old now (old.held ++ rest)
stopped_in_held holds old now rest sink fault is front =
    let stopped : ReaderContent = record old { held = []; fault = Some fault } in
    let so_far : IsReadOn (Takes holds sink sink) old stopped (old.held ++ rest) (old.held ++ rest) = record { blocks = []; follow = (refl, refl); taken = λ beside frames held. subst (holds beside sink) (sym (append-nil frames)) held; counted = refl } in
    let whole : IsReadWhole (Takes holds sink sink) old stopped (old.held ++ rest) =
    record { left = old.held ++ rest; so_far = so_far; stands = (refl, faulty_more old.reading.layout old.reading.interfaces old.held rest fault front) } in
    subst (λ (n : ReaderContent). IsReadWhole (Takes holds sink sink) old n (old.held ++ rest)) (sym is) whole

-- ---- halts

-- what was read before a halt is read
pub halts_later : {B S E : Type 0} (holds : B → S → List NumberedFrame → Type 0) (old middle : ReaderContent) (text rest : List ℕ) (before between after : S) (halt : Halt E) → IsReadOn (Takes holds before between) old middle text rest → HasHalted (Takes holds between after) middle rest halt → HasHalted (Takes holds before after) old text halt
halts_later holds old middle text rest before between after halts.Memory first halted =
    (halted.0, (halted.1.0, reads_join holds old middle halted.0 text rest halted.1.0 before between after first halted.1.1))
halts_later holds old middle text rest before between after (halts.Stop stop) first halted = tt

-- a block was read, and then memory ran out
pub halts_after : {B S : Type 0} (holds : B → S → List NumberedFrame → Type 0) (old : ReaderContent) (text : List ℕ) (before after : S) (count : ℕ) (block : BlockContent) → front_of old.reading.layout old.reading.interfaces text ≡ Whole count block → Takes holds before after (numbered old.number (frames_of block)) → IsReadSome (Takes holds before after) old text
halts_after holds old text before after count block front taken =
    let now : ReaderContent = record { reading = read_on old.reading block; held = []; number = number_after old.number (frames_of block); fault = None } in
    (now, (drop count text, reads_one holds old now text before after count block front refl refl taken))

-- ---- whole texts

-- a reader with no fault has read no more than what stands before the bytes that it holds
reads_more : (Taken : List NumberedFrame → Type 0) (old now : ReaderContent) (text left more : List ℕ) → IsReadOn Taken old now text left → IsReadOn Taken old now (text ++ more) (left ++ more)
reads_more Taken old now text left more read =
    record { blocks = read.blocks; follow = blocks_more old.reading text more read.blocks now.reading left read.follow; taken = read.taken; counted = read.counted }

stands_held : (left held : List ℕ) (fault : Option PcapFault) (front : FrontContent) → fault ≡ None → StandsAs left held fault front → left ≡ held
stands_held left held None front none stands = stands.0
stands_held left held (Some fault) front none stands = cc

-- a piece more, whatever is known of the frames before it and of its own
pub pieces_follow : (Before Behind All : List NumberedFrame → Type 0) (old middle now : ReaderContent) (text piece : List ℕ)
    → ((frames more : List NumberedFrame) → Before frames → Behind more → All (frames ++ more))
    → IsReadWhole Before old middle text → middle.fault ≡ None → IsReadWhole Behind middle now (middle.held ++ piece) → IsReadWhole All old now (text ++ piece)
pieces_follow Before Behind All old middle now text piece join first going second =
    let held : first.left ≡ middle.held = stands_held first.left middle.held middle.fault (front_of middle.reading.layout middle.reading.interfaces first.left) going first.stands in
    let read = reads_more Before old middle text first.left piece first.so_far in
    let then = subst (λ (t : List ℕ). IsReadOn Before old middle (text ++ piece) (t ++ piece)) held read in
    whole_follow Before Behind All old middle now (text ++ piece) (middle.held ++ piece) join then second

pub pieces_add : {B S : Type 0} (holds : B → S → List NumberedFrame → Type 0) (old middle now : ReaderContent) (text piece : List ℕ) (before between after : S) → IsReadWhole (Takes holds before between) old middle text → middle.fault ≡ None → IsReadWhole (Takes holds between after) middle now (middle.held ++ piece) → IsReadWhole (Takes holds before after) old now (text ++ piece)
pieces_add holds old middle now text piece before between after first going second =
    pieces_follow (Takes holds before between) (Takes holds between after) (Takes holds before after) old middle now text piece (takes_join holds before between after) first going second

stands_more : (reading : Reading) (left more held : List ℕ) (fault : Option PcapFault) (found : PcapFault) → fault ≡ Some found → StandsAs left held fault (front_of reading.layout reading.interfaces left) → StandsAs (left ++ more) held fault (front_of reading.layout reading.interfaces (left ++ more))
stands_more reading left more held None found some stands = cc
stands_more reading left more held (Some fault) found some stands = (stands.0, faulty_more reading.layout reading.interfaces left more fault stands.1)

pub faults_stay : (Taken : List NumberedFrame → Type 0) (old now : ReaderContent) (text piece : List ℕ) (fault : PcapFault) → IsReadWhole Taken old now text → now.fault ≡ Some fault → IsReadWhole Taken old now (text ++ piece)
faults_stay Taken old now text piece fault whole stopped =
    record {
      left = whole.left ++ piece;
      so_far = reads_more Taken old now text whole.left piece whole.so_far;
      stands = stands_more now.reading whole.left piece now.held now.fault fault stopped whole.stands;
    }

ends_so : (layout : Layout) (left held : List ℕ) (fault : Option PcapFault) (front : FrontContent) → StandsAs left held fault front → EndsAs layout left (ending_with layout held fault) front
ends_so layout left held None front stands =
    subst (EndsAs layout left (cut_end layout held)) (sym stands.1.1) (ap (cut_end layout) (sym stands.0))
ends_so layout left held (Some fault) front stands = subst (EndsAs layout left (Some fault)) (sym stands.1) refl

pub whole_file : (Taken : List NumberedFrame → Type 0) (now : ReaderContent) (text : List ℕ) → IsReadWhole Taken at_first now text → HasHandedOn Taken now text
whole_file Taken now text whole =
    let read = whole.so_far in
    record {
      frames = flat_map frames_of read.blocks;
      is = record {
        blocks = read.blocks;
        now = now.reading;
        left = whole.left;
        follow = read.follow;
        ends = ends_so now.reading.layout whole.left now.held now.fault (front_of now.reading.layout now.reading.interfaces whole.left) whole.stands;
        frames_are = refl;
      };
      counted = read.counted;
      taken = read.taken;
    }
