use Rattle.std.proofs.Common.{◌∙◌, sym}
use Rattle.hex.proofs.HexLemmas.{decode_sized-twice}
use Rattle.mdp_capture.proofs.Decoding.{written_is}
use Rattle.mdp_capture.proofs.blocks.put_bytes.Goals as goal

pub returns-then-bytes-lt-LANES : goal.returns-then-bytes-lt-LANES
returns-then-bytes-lt-LANES c = λ good.
    sym (decode_sized-twice c.args.digits.now _ c.requires) ∙ written_is _ _ c.decode_to_slice.new.out c.decode_to_slice.ensures.value (sym c.is_ok.ensures.value ∙ good)
