-- A line that was decoded by itself, and what its decoder keeps.
use Rattle.std.specs.Prelude.{◌≡◌, ℕ, Bool, true, List, Some}
use Rattle.mdp_capture.specs.Line.{LineContent, Blank, Listing, Packet, Closing, Skipped, line_of}
use Rattle.mdp_capture.specs.Repeats.{bytes_in}
use Rattle.mdp_capture.specs.declared.decoder.DecodedLine.{DecodedLine}
use Rattle.mdp_capture.specs.declared.decoder.DecodedLine.TheVariants as decoded

-- what a decoder of lines keeps: the bytes of a datagram, and whether the line that it decoded last brought them
pub record DecoderContent : Type 0 where
  pub bytes : List ℕ
  pub is_known : Bool

-- what a decoded line says, where its decoder has these bytes
abbrev pub content_with : List ℕ → DecodedLine → LineContent
content_with bytes decoded.Blank = Blank
content_with bytes (decoded.Instrument instrument) = Listing instrument
content_with bytes (decoded.Datagram feed) = Packet feed bytes
content_with bytes decoded.Close = Closing
content_with bytes (decoded.Skipped skip) = Skipped skip

-- where a decoder knows a datagram, this line brings its bytes
abbrev pub KnowsDatagramOf : List ℕ → DecoderContent → Type 0
KnowsDatagramOf text decoder = decoder.is_known ≡ true → bytes_in (line_of text) ≡ Some decoder.bytes
