-- How many bytes a block needs: told by its first bytes, whatever follows them, and never fewer than 12.
use Rattle.std.proofs.Common.{◌≡◌, ◌⊎◌, ℕ, ◌+◌, ◌<◌, ◌≤◌, Bool, true, false, cond, ltb, ◌==◌, ◌%◌, List, ◌++◌, length, sym, ap, subst, ◌∙◌, arith, refl, inl, inr, Option, Some, None, Result, Ok, Err, is_some}
use Rattle.std.proofs.lemmas.Bool.{cases_lt, lt-ltb, le-ltb, ltb-true, ltb-false, cond-true, cond-false, cond_both}
use Rattle.std.proofs.lemmas.List.{length-append}
use Rattle.mdp_pcap.specs.Number.{number_in, big_at}
use Rattle.mdp_pcap.specs.Extent.{needed, section_length, section_total, section_order, record_length, block_length, file_order}
use Rattle.mdp_pcap.specs.declared.number.Endianness.{Endianness}
use Rattle.mdp_pcap.specs.declared.layout.Layout.{Layout}
use Rattle.mdp_pcap.specs.declared.layout.Layout.TheVariants as layouts
use Rattle.mdp_pcap.specs.declared.layout.PcapFault.{PcapFault}
use Rattle.mdp_pcap.specs.declared.layout.PcapFault.TheVariants as faults
use Rattle.mdp_pcap.proofs.Numbers.{big_at-more, number_in-more}

-- What is needed where a text goes on is what was needed before, unless more was needed than there is.
abbrev pub Told : List ℕ → Result ℕ PcapFault → Result ℕ PcapFault → Type 0
Told text now later = ((n : ℕ) × ((now ≡ Ok n) × (length text < n))) ⊎ (later ≡ now)

told_if : (text : List ℕ) (b : Bool) (x y later_x later_y : Result ℕ PcapFault) → Told text x later_x → Told text y later_y → Told text (cond b x y) (cond b later_x later_y)
told_if text true x y later_x later_y p q = p
told_if text false x y later_x later_y p q = q

-- what is told once so many bytes are there
told_by : (text more : List ℕ) (least : ℕ) (x later : Result ℕ PcapFault) → (least ≤ length text → Told text x later) → Told text (cond (ltb (length text) least) (Ok least) x) (cond (ltb (length (text ++ more)) least) (Ok least) later)
told_by text more least x later told =
    elim (cases_lt (length text) least) [
      | inl short ↦ inl (least, (cond-true (ltb (length text) least) (Ok least) x (lt-ltb (length text) least short), short))
      | inr long ↦
          let longer : least ≤ length (text ++ more) = omega (arith, long, length-append text more) in
          let here : cond (ltb (length text) least) (Ok least) x ≡ x = cond-false (ltb (length text) least) (Ok least) x (le-ltb (length text) least long) in
          let there : cond (ltb (length (text ++ more)) least) (Ok least) later ≡ later = cond-false (ltb (length (text ++ more)) least) (Ok least) later (le-ltb (length (text ++ more)) least longer) in
          subst (λ (r : Result ℕ PcapFault). Told text r (cond (ltb (length (text ++ more)) least) (Ok least) later)) (sym here)
          (subst (λ (r : Result ℕ PcapFault). Told text x r) (sym there) (told long))
    ]

section_total-more : (fault : PcapFault) (order : Option Endianness) (text more : List ℕ) → 12 ≤ length text → section_total fault order (text ++ more) ≡ section_total fault order text
section_total-more fault None text more long = refl
section_total-more fault (Some order) text more long = ap block_length (number_in-more order 4 4 text more (omega (arith, long)))

section_told : (fault : PcapFault) (text more : List ℕ) → Told text (section_length fault text) (section_length fault (text ++ more))
section_told fault text more =
    told_by text more 12 (section_total fault (section_order (big_at 8 4 text)) text) (section_total fault (section_order (big_at 8 4 (text ++ more))) (text ++ more))
    (λ long. inr (ap (λ (magic : ℕ). section_total fault (section_order magic) (text ++ more)) (big_at-more 8 4 text more (omega (arith, long))) ∙ section_total-more fault (section_order (big_at 8 4 text)) text more long))

abbrev first_needed : ℕ → Result ℕ PcapFault → Result ℕ PcapFault
first_needed magic section = cond (magic == 0x0a0d0d0a) section (cond (is_some (file_order magic)) (Ok 24) (Err faults.NotPcap))

pub needed_told : (layout : Layout) (text more : List ℕ) → Told text (needed layout text) (needed layout (text ++ more))
needed_told layouts.Start text more =
    told_by text more 4 (first_needed (big_at 0 4 text) (section_length faults.NotPcap text)) (first_needed (big_at 0 4 (text ++ more)) (section_length faults.NotPcap (text ++ more)))
    (λ long. subst (λ (magic : ℕ). Told text (first_needed (big_at 0 4 text) (section_length faults.NotPcap text)) (first_needed magic (section_length faults.NotPcap (text ++ more))))
    (sym (big_at-more 0 4 text more (omega (arith, long))))
    (told_if text (big_at 0 4 text == 0x0a0d0d0a) (section_length faults.NotPcap text) (cond (is_some (file_order (big_at 0 4 text))) (Ok 24) (Err faults.NotPcap))
    (section_length faults.NotPcap (text ++ more)) (cond (is_some (file_order (big_at 0 4 text))) (Ok 24) (Err faults.NotPcap)) (section_told faults.NotPcap text more) (inr refl)))
needed_told (layouts.Records order) text more =
    told_by text more 16 (record_length (number_in order 8 4 text)) (record_length (number_in order 8 4 (text ++ more)))
    (λ long. inr (ap record_length (number_in-more order 8 4 text more (omega (arith, long)))))
needed_told (layouts.Blocks order) text more =
    told_by text more 8 (cond (big_at 0 4 text == 0x0a0d0d0a) (section_length faults.RecordSize text) (block_length (number_in order 4 4 text)))
    (cond (big_at 0 4 (text ++ more) == 0x0a0d0d0a) (section_length faults.RecordSize (text ++ more)) (block_length (number_in order 4 4 (text ++ more))))
    (λ long. subst (λ (magic : ℕ). Told text (cond (big_at 0 4 text == 0x0a0d0d0a) (section_length faults.RecordSize text) (block_length (number_in order 4 4 text)))
    (cond (magic == 0x0a0d0d0a) (section_length faults.RecordSize (text ++ more)) (block_length (number_in order 4 4 (text ++ more)))))
    (sym (big_at-more 0 4 text more (omega (arith, long))))
    (told_if text (big_at 0 4 text == 0x0a0d0d0a) (section_length faults.RecordSize text) (block_length (number_in order 4 4 text))
    (section_length faults.RecordSize (text ++ more)) (block_length (number_in order 4 4 (text ++ more))) (section_told faults.RecordSize text more)
    (inr (ap block_length (number_in-more order 4 4 text more (omega (arith, long)))))))

-- ---- no block has fewer than 12 bytes

abbrev Least : List ℕ → Result ℕ PcapFault → Type 0
Least text r = (n : ℕ) → r ≡ Ok n → n ≤ length text → 12 ≤ n

pub same_ok : (r : Result ℕ PcapFault) (m n : ℕ) → r ≡ Ok m → r ≡ Ok n → m ≡ n
same_ok r m n p q = cc

least_err : (text : List ℕ) (fault : PcapFault) → Least text (Err fault)
least_err text fault n is fits = cc

least_short : (text : List ℕ) (least : ℕ) → length text < least → Least text (Ok least)
least_short text least short n is fits = let same = same_ok (Ok least) least n refl is in absurd (omega (arith, same, fits, short))

least_long : (text : List ℕ) (count : ℕ) → 12 ≤ count → Least text (Ok count)
least_long text count long n is fits = let same = same_ok (Ok count) count n refl is in omega (arith, same, long)

record_least : (text : List ℕ) (captured : ℕ) → Least text (record_length captured)
record_least text captured =
    cond_both (ltb 262144 captured) (Err faults.RecordSize) (Ok (16 + captured)) (Least text) (λ _. least_err text faults.RecordSize) (λ _. least_long text (16 + captured) (omega arith))

block_least : (text : List ℕ) (total : ℕ) → Least text (block_length total)
block_least text total =
    cond_both (ltb total 12) (Err faults.RecordSize) (cond (ltb 16777216 total) (Err faults.RecordSize) (cond (total % 4 == 0) (Ok total) (Err faults.RecordSize))) (Least text) (λ _. least_err text faults.RecordSize)
    (λ few. cond_both (ltb 16777216 total) (Err faults.RecordSize) (cond (total % 4 == 0) (Ok total) (Err faults.RecordSize)) (Least text) (λ _. least_err text faults.RecordSize)
    (λ _. cond_both (total % 4 == 0) (Ok total) (Err faults.RecordSize) (Least text) (λ _. least_long text total (ltb-false total 12 few)) (λ _. least_err text faults.RecordSize)))

section_total-least : (fault : PcapFault) (order : Option Endianness) (text : List ℕ) → Least text (section_total fault order text)
section_total-least fault None text = least_err text fault
section_total-least fault (Some order) text = block_least text (number_in order 4 4 text)

section_least : (fault : PcapFault) (text : List ℕ) → Least text (section_length fault text)
section_least fault text =
    cond_both (ltb (length text) 12) (Ok 12) (section_total fault (section_order (big_at 8 4 text)) text) (Least text) (λ _. least_long text 12 (omega arith)) (λ _. section_total-least fault (section_order (big_at 8 4 text)) text)

pub needed_least : (layout : Layout) (text : List ℕ) → Least text (needed layout text)
needed_least layouts.Start text =
    cond_both (ltb (length text) 4) (Ok 4) (first_needed (big_at 0 4 text) (section_length faults.NotPcap text)) (Least text) (λ short. least_short text 4 (ltb-true (length text) 4 short))
    (λ _. cond_both (big_at 0 4 text == 0x0a0d0d0a) (section_length faults.NotPcap text) (cond (is_some (file_order (big_at 0 4 text))) (Ok 24) (Err faults.NotPcap)) (Least text) (λ _. section_least faults.NotPcap text)
    (λ _. cond_both (is_some (file_order (big_at 0 4 text))) (Ok 24) (Err faults.NotPcap) (Least text) (λ _. least_long text 24 (omega arith)) (λ _. least_err text faults.NotPcap)))
needed_least (layouts.Records order) text =
    cond_both (ltb (length text) 16) (Ok 16) (record_length (number_in order 8 4 text)) (Least text) (λ _. least_long text 16 (omega arith)) (λ _. record_least text (number_in order 8 4 text))
needed_least (layouts.Blocks order) text =
    cond_both (ltb (length text) 8) (Ok 8) (cond (big_at 0 4 text == 0x0a0d0d0a) (section_length faults.RecordSize text) (block_length (number_in order 4 4 text))) (Least text) (λ short. least_short text 8 (ltb-true (length text) 8 short))
    (λ _. cond_both (big_at 0 4 text == 0x0a0d0d0a) (section_length faults.RecordSize text) (block_length (number_in order 4 4 text)) (Least text) (λ _. section_least faults.RecordSize text) (λ _. block_least text (number_in order 4 4 text)))
