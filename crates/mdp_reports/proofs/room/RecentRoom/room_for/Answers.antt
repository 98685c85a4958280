use Rattle.std.proofs.Common.{◌<◌, ◌≤◌, ◌*◌, ℕ, arith, sym, subst}
use Rattle.std.proofs.Math.Nat.{mul-div-le}
use Rattle.std.proofs.lemmas.Bool.Decides.{nat_tests}
use Rattle.mdp_reports.proofs.Halving.{share-half}
use Rattle.mdp_reports.proofs.room.RecentRoom.room_for.Goals as goal

pub returns-clause-half : goal.returns-clause-half
returns-clause-half c =
    let recent = c.args.self.now in
    let some : 0 < recent.moves = grind (arith, nat_tests, c.if-self-eq0.false) in
    let half : 2 * c.min-parts.result ≤ recent.moves = grind (arith, c.min-parts.ensures, mul-div-le recent.moves 2) in (
      subst (λ (n : ℕ). 2 * n ≤ recent.room.bytes) (sym c.share_of.ensures) (share-half recent.room.bytes c.min-parts.result recent.moves some half),
      (
        subst (λ (n : ℕ). 2 * n ≤ recent.room.rows) (sym c.share_of-2.ensures) (share-half recent.room.rows c.min-parts.result recent.moves some half),
        subst (λ (n : ℕ). 2 * n ≤ recent.room.places) (sym c.share_of-3.ensures) (share-half recent.room.places c.min-parts.result recent.moves some half),
      ),
    )
