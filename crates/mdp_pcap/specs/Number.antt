-- Numbers at an offset of a text: those of a file in its byte order, those of the network with the highest byte first.
use Rattle.std.specs.Prelude.{ℕ, List, drop}
use Rattle.byteorder.specs.Endian.{little_number, big_number}
use Rattle.mdp_pcap.specs.declared.number.Endianness.{Endianness}
use Rattle.mdp_pcap.specs.declared.number.Endianness.TheVariants as orders

-- the number in so many bytes of a text from an offset on, the highest byte first
unfoldable pub big_at : ℕ → ℕ → List ℕ → ℕ
big_at offset size text = big_number size (drop offset text)

-- the number in so many bytes of a text from an offset on, the lowest byte first
unfoldable pub little_at : ℕ → ℕ → List ℕ → ℕ
little_at offset size text = little_number size (drop offset text)

-- the number in so many bytes of a text from an offset on, in this byte order
abbrev pub number_in : Endianness → ℕ → ℕ → List ℕ → ℕ
number_in orders.Little offset size text = little_at offset size text
number_in orders.Big offset size text = big_at offset size text
