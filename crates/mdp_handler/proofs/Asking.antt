-- What the settings ask for, and the channel that a file says.
use Rattle.std.proofs.Common.{◌≡◌, Bool, true, false, List, Option, Some, None, inl, inr, refl, subst}
use Rattle.std.specs.Prelude.{IsSome, codes}
use denote.Ref.{Bor}
use Rattle.clap.specs.Words.{Text}
use Rattle.mdp_channel.specs.Channel.{whole}
use Rattle.mdp_channel.specs.declared.fault.ChannelFault.TheVariants as faults
use Rattle.mdp_handler.specs.CommandLine.{AreSettings, AsksForPieces, IsFlag, IsText}
use Rattle.mdp_handler.specs.Outcome.{way_asked, way_of}
use Rattle.mdp_handler.specs.Outcome.Way.{Whole}
use Rattle.mdp_handler.specs.declared.settings.Settings.{Settings}

-- a run of which nothing is asked for as it comes is one over a whole capture
pub asked_whole : (words : List Text) (settings : Settings) → AreSettings words settings → ¬ (AsksForPieces words) → way_asked settings ≡ Whole
asked_whole words settings are none = go settings.live settings.channel are.live are.channel
  where
    go : (live : Bool) (channel : Option (Bor Text)) → IsFlag (codes "live") words live → IsText (codes "channel") words channel → way_of live channel ≡ Whole
    go live (Some name) flag is = absurd (none (inr (subst IsSome is refl)))
    go true None flag is = absurd (none (inl flag))
    go false None flag is = refl
