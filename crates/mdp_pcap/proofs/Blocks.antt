-- The blocks of a text, one after another: one way to read them, and the next ones of a piece more.
use Rattle.std.proofs.Common.{◌≡◌, ℕ, zero, suc, ◌<◌, List, [], ◌∷◌, ◌++◌, drop, length, sym, ap, subst, ◌∙◌, arith, refl, Option, Some}
use Rattle.std.proofs.lemmas.List.{length-drop, drop-append-le}
use Rattle.mdp_pcap.specs.Block.{Reading, BlockContent, read_on}
use Rattle.mdp_pcap.specs.File.{FrontContent, Unfinished, Faulty, Whole, front_of, AreBlocks, EndsAs, cut_end}
use Rattle.mdp_pcap.specs.declared.layout.PcapFault.{PcapFault}
use Rattle.mdp_pcap.proofs.Fronts.{whole_more, whole_least}

pub blocks_join : (start : Reading) (text : List ℕ) (blocks others : List BlockContent) (middle : Reading) (held : List ℕ) (now : Reading) (left : List ℕ) → AreBlocks start text blocks middle held → AreBlocks middle held others now left → AreBlocks start text (blocks ++ others) now left
blocks_join start text [] others middle held now left first second =
    subst (λ (r : Reading). AreBlocks r text others now left) (sym first.0) (subst (λ (t : List ℕ). AreBlocks middle t others now left) (sym first.1) second)
blocks_join start text (block ∷ blocks) others middle held now left first second =
    (first.0, first.1, blocks_join (read_on start block) (drop first.0 text) blocks others middle held now left first.2 second)

-- what follows a text changes none of its blocks
pub blocks_more : (start : Reading) (text more : List ℕ) (blocks : List BlockContent) (now : Reading) (left : List ℕ) → AreBlocks start text blocks now left → AreBlocks start (text ++ more) blocks now (left ++ more)
blocks_more start text more [] now left are = (are.0, ap (λ (t : List ℕ). t ++ more) are.1)
blocks_more start text more (block ∷ blocks) now left are =
    let fits = (whole_least start.layout start.interfaces text are.0 block are.1).1 in
    let behind : drop are.0 (text ++ more) ≡ drop are.0 text ++ more = drop-append-le are.0 text more fits in
    let others = blocks_more (read_on start block) (drop are.0 text) more blocks now left are.2 in
    (are.0, whole_more start.layout start.interfaces text more are.0 block are.1, subst (λ (t : List ℕ). AreBlocks (read_on start block) t blocks now (left ++ more)) (sym behind) others)

-- ---- one reading

-- where a block stands no text ends
ends_not : (now : Reading) (text : List ℕ) (fault : Option PcapFault) (count : ℕ) (block : BlockContent) (front : FrontContent) → front ≡ Whole count block → EndsAs now.layout text fault front → ⊥
ends_not now text fault count block (Unfinished n) e ends = cc
ends_not now text fault count block (Faulty f) e ends = cc
ends_not now text fault count block (Whole n b) e ends = ends

pub one_ending : (now : Reading) (text : List ℕ) (a b : Option PcapFault) (front : FrontContent) → EndsAs now.layout text a front → EndsAs now.layout text b front → a ≡ b
one_ending now text a b (Unfinished n) p q = p ∙ sym q
one_ending now text a b (Faulty f) p q = p ∙ sym q
one_ending now text a b (Whole n block) p q = absurd p

abbrev pub EndsHere : Reading → List ℕ → Option PcapFault → Type 0
EndsHere now left fault = EndsAs now.layout left fault (front_of now.layout now.interfaces left)

pub one_reading : (start : Reading) (text : List ℕ) (blocks others : List BlockContent) (now then : Reading) (left rest : List ℕ) (a b : Option PcapFault) → AreBlocks start text blocks now left → AreBlocks start text others then rest → EndsHere now left a → EndsHere then rest b → (blocks ≡ others) × (a ≡ b)
one_reading start text [] [] now then left rest a b p q x y =
    let here : EndsHere start text a = subst (λ (r : Reading). EndsHere r text a) (sym p.0) (subst (λ (t : List ℕ). EndsHere now t a) (sym p.1) x) in
    let there : EndsHere start text b = subst (λ (r : Reading). EndsHere r text b) (sym q.0) (subst (λ (t : List ℕ). EndsHere then t b) (sym q.1) y) in
    (refl, one_ending start text a b (front_of start.layout start.interfaces text) here there)
one_reading start text [] (other ∷ others) now then left rest a b p q x y =
    let here : EndsHere start text a = subst (λ (r : Reading). EndsHere r text a) (sym p.0) (subst (λ (t : List ℕ). EndsHere now t a) (sym p.1) x) in
    absurd (ends_not start text a q.0 other (front_of start.layout start.interfaces text) q.1 here)
one_reading start text (block ∷ blocks) [] now then left rest a b p q x y =
    let there : EndsHere start text b = subst (λ (r : Reading). EndsHere r text b) (sym q.0) (subst (λ (t : List ℕ). EndsHere then t b) (sym q.1) y) in
    absurd (ends_not start text b p.0 block (front_of start.layout start.interfaces text) p.1 there)
one_reading start text (block ∷ blocks) (other ∷ others) now then left rest a b p q x y =
    let both : Whole p.0 block ≡ Whole q.0 other = sym p.1 ∙ q.1 in
    let count : p.0 ≡ q.0 = cc in
    let same : block ≡ other = cc in
    let behind : AreBlocks (read_on start other) (drop q.0 text) blocks now left =
    subst (λ (n : ℕ). AreBlocks (read_on start other) (drop n text) blocks now left) count (subst (λ (c : BlockContent). AreBlocks (read_on start c) (drop p.0 text) blocks now left) same p.2) in
    let later = one_reading (read_on start other) (drop q.0 text) blocks others now then left rest a b behind q.2 x y in
    let others_are : blocks ≡ others = later.0 in
    let all : block ∷ blocks ≡ other ∷ others = cc in
    (all, later.1)

-- ---- each text can be read

pub record Reads (start : Reading) (text : List ℕ) : Type 0 where
  pub blocks : List BlockContent
  pub now : Reading
  pub left : List ℕ
  pub fault : Option PcapFault
  pub follow : AreBlocks start text blocks now left
  pub ends : EndsHere now left fault

reads_front : (start : Reading) (text : List ℕ) (front : FrontContent) → front_of start.layout start.interfaces text ≡ front → ((now : Reading) (after : List ℕ) → length after < length text → Reads now after) → Reads start text
reads_front start text (Unfinished n) e others =
    record { blocks = []; now = start; left = text; fault = cut_end start.layout text; follow = (refl, refl); ends = subst (EndsAs start.layout text (cut_end start.layout text)) (sym e) refl }
reads_front start text (Faulty fault) e others =
    record { blocks = []; now = start; left = text; fault = Some fault; follow = (refl, refl); ends = subst (EndsAs start.layout text (Some fault)) (sym e) refl }
reads_front start text (Whole count block) e others =
    let least = whole_least start.layout start.interfaces text count block e in
    let r = others (read_on start block) (drop count text) (omega (arith, length-drop count text, least.0, least.1)) in
    record { blocks = block ∷ r.blocks; now = r.now; left = r.left; fault = r.fault; follow = (count, e, r.follow); ends = r.ends }

reads_below : (most : ℕ) (start : Reading) (text : List ℕ) → length text < most → Reads start text
reads_below zero start text below = absurd (omega arith)
reads_below (suc most) start text below = reads_front start text (front_of start.layout start.interfaces text) refl (λ now after less. reads_below most now after (omega (arith, less, below)))

pub reads : (start : Reading) (text : List ℕ) → Reads start text
reads start text = reads_below (suc (length text)) start text (omega arith)
