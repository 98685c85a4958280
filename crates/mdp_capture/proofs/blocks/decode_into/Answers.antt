use Rattle.std.proofs.Common.{◌≡◌, ◌*◌, ◌<◌, ◌≤◌, length, drop, sym, subst, ap, arith}
use Rattle.std.proofs.lemmas.Bool.Decides.{nat_tests}
use Rattle.std.proofs.lemmas.List.{take_at}
use Rattle.hex.proofs.HexLemmas.{decode_of-ok}
use Rattle.mdp_capture.specs.Repeats.{Spells}
use Rattle.mdp_capture.proofs.Spelling.{spells}
use Rattle.mdp_capture.proofs.blocks.decode_into.Goals as goal

pub returns : goal.returns
returns g c good =
    let digits = c.args.digits.now in
    let bytes = c.put_bytes-is_spelt.new.bytes in
    let items = c.advance_mut.new.self.items in
    let decoded = c.put_bytes-is_spelt.ensures good in
    let twice : length digits ≡ 2 * length bytes = (decode_of-ok digits bytes decoded).2 in
    let some : 0 < length bytes = grind (arith, nat_tests, twice) in
    let few : length bytes ≤ 2048 = grind (arith, nat_tests, twice) in
    let all : length bytes ≡ length items = omega (arith, twice, c.advance_mut.ensures.len, ap length c.in_ok-make_room.ensures.empty) in
    subst (Spells digits) (sym (take_at bytes (drop (length bytes) items) (length items) all)) (spells digits bytes decoded some few)
