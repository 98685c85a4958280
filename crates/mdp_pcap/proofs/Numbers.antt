-- Reads of numbers: what stands behind a number changes nothing of it.
use Rattle.std.proofs.Common.{◌≡◌, ℕ, zero, suc, ◌+◌, ◌-◌, ◌≤◌, List, ◌++◌, take, drop, length, slice_index, ap, ◌∙◌, arith, refl}
use Rattle.std.proofs.lemmas.List.{drop-append-le, length-drop, take_rest, get_or_append_left}
use Rattle.byteorder.specs.Endian.{little_from, little_number, big_from, big_number}
use Rattle.mdp_pcap.specs.Number.{big_at, little_at, number_in}
use Rattle.mdp_pcap.specs.declared.number.Endianness.{Endianness}
use Rattle.mdp_pcap.specs.declared.number.Endianness.TheVariants as orders

-- a number that is read of what stands from an offset on is the number at that offset
pub big_at-rest : (offset size : ℕ) (text : List ℕ) → big_number size (take (length text - offset) (drop offset text)) ≡ big_at offset size text
unfolding big_at
big_at-rest offset size text = ap (big_number size) (take_rest text offset)

pub little_at-rest : (offset size : ℕ) (text : List ℕ) → little_number size (take (length text - offset) (drop offset text)) ≡ little_at offset size text
unfolding little_at
little_at-rest offset size text = ap (little_number size) (take_rest text offset)

little_from-more : (i size : ℕ) (text more : List ℕ) → i + size ≤ length text → little_from i size (text ++ more) ≡ little_from i size text
little_from-more i zero text more inside = refl
little_from-more i (suc size) text more inside =
    let digit : slice_index (text ++ more) i ≡ slice_index text i = get_or_append_left text more 0 i (omega arith) in
    let others = little_from-more (suc i) size text more (omega arith) in
    cc (digit, others)

big_from-more : (i size : ℕ) (text more : List ℕ) → i + size ≤ length text → big_from i size (text ++ more) ≡ big_from i size text
big_from-more i zero text more inside = refl
big_from-more i (suc size) text more inside =
    let digit : slice_index (text ++ more) i ≡ slice_index text i = get_or_append_left text more 0 i (omega arith) in
    let others = big_from-more (suc i) size text more (omega arith) in
    cc (digit, others)

pub big_at-more : (offset size : ℕ) (text more : List ℕ) → offset + size ≤ length text → big_at offset size (text ++ more) ≡ big_at offset size text
unfolding big_at
big_at-more offset size text more inside =
    let within : 0 + size ≤ length (drop offset text) = simp length-drop (omega arith) in
    ap (big_number size) (drop-append-le offset text more (omega arith)) ∙ big_from-more 0 size (drop offset text) more within

little_at-more : (offset size : ℕ) (text more : List ℕ) → offset + size ≤ length text → little_at offset size (text ++ more) ≡ little_at offset size text
unfolding little_at
little_at-more offset size text more inside =
    let within : 0 + size ≤ length (drop offset text) = simp length-drop (omega arith) in
    ap (little_number size) (drop-append-le offset text more (omega arith)) ∙ little_from-more 0 size (drop offset text) more within

pub number_in-more : (order : Endianness) (offset size : ℕ) (text more : List ℕ) → offset + size ≤ length text → number_in order offset size (text ++ more) ≡ number_in order offset size text
number_in-more orders.Little offset size text more inside = little_at-more offset size text more inside
number_in-more orders.Big offset size text more inside = big_at-more offset size text more inside
