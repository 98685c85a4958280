-- Why a security hears only what stands behind its base: the messages in front of it make no difference to when it is
-- printed.
use Rattle.std.specs.Prelude.{◌≡◌, ℕ, List, false, not, ◌&&◌, ◌||◌, take}
use Rattle.mdp_templates.specs.Packet.{PacketContent}
use Rattle.mdp_books.specs.Feed.{sent_by, since_end, touches, has_end, behind}
use Rattle.mdp_desks.specs.Due.{is_due}
use Rattle.mdp_engine.specs.Feed.{IsFeed}
use Rattle.mdp_engine.specs.Owed.{NumberedFooting}

-- An entry has named the security since the last event end of the whole feed, or there was a jump and no event end
-- behind the base since: said of a front of the feed, that is the same as what the security heard says.
abbrev pub LawOfMarks : Type 0
LawOfMarks = (feed : List PacketContent) (i : NumberedFooting) (n : ℕ) → IsFeed feed → (i.jumped ≡ false → i.base ≡ 0)
    → is_due i.instrument.id i.jumped (behind i.base (sent_by (take n feed)))
    ≡ (touches i.instrument.id (since_end (sent_by (take n feed)))
    || (i.jumped && not (has_end (behind i.base (sent_by (take n feed))))))
