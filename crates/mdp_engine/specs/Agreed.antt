-- Moves that are a complete feed's.
use Rattle.std.specs.Prelude.{◌≡◌, ℕ, ◌+◌, List, [], ◌∷◌, take, ⊤}
use Rattle.std.specs.List.{AllZip}
use Rattle.mdp_templates.specs.Packet.{PacketContent}
use Rattle.mdp_templates.specs.Snapshot.{SnapshotContent}
use Rattle.mdp_templates.specs.declared.instrument.Instrument.{Instrument}
use Rattle.mdp_books.specs.Feed.{sent_by, book_at}
use Rattle.mdp_engine.specs.Feed.{IsIn, IsJumpedTo}
use Rattle.mdp_engine.specs.Owed.{NumberedFooting}
use Rattle.mdp_arbiter.specs.Machine.{Move}
use Rattle.mdp_desks.specs.Shown.{Footing}
use Rattle.mdp_arbiter.specs.Machine.Move.{passed, jumped}

-- From packet `next` on, each packet that passes is the feed's next, and a jump's snapshots are books of the feed that
-- leave out no packet behind the jump.
abbrev pub AreOf : List Instrument → List PacketContent → ℕ → List Move → Type 0
AreOf listed feed next [] = ⊤
AreOf listed feed next (passed packet ∷ moves) =
    (packet.number ≡ next) × IsIn feed packet × AreOf listed feed (next + 1) moves
AreOf listed feed next (jumped old new snapshots ∷ moves) =
    AllZip (λ (i : Instrument) (s : SnapshotContent). IsJumpedTo feed new i s) listed snapshots
    × AreOf listed feed new moves

-- a listed security as the complete feed has it: its book after the packet that is its base
abbrev pub footing_of : List PacketContent → NumberedFooting → Footing
footing_of feed i =
    record {
      instrument = i.instrument;
      base = i.base;
      jumped = i.jumped;
      book = book_at i.instrument (sent_by (take i.base feed));
    }
