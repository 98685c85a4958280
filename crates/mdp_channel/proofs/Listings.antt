-- What becomes of a line that says no address.
use Rattle.std.proofs.Common.{◌≡◌, List, [], ◌∷◌, ◌++◌, Option, None, Some, refl, sym, ap, ◌∙◌}
use Rattle.std.specs.Prelude.{if◌then◌else◌}
use Rattle.std.specs.Option.{is_none, option_map}
use Rattle.std.proofs.lemmas.List.{append-nil}
use Rattle.mdp_capture.specs.Capture.{refusal_after}
use Rattle.mdp_capture.specs.Listed.{answer_after, judgement, listed_after_line}
use Rattle.mdp_capture.specs.declared.fault.CaptureRefusal.{CaptureRefusal}
use Rattle.mdp_pcap.specs.declared.addresses.FeedAddress.{FeedAddress}
use Rattle.mdp_templates.specs.declared.instrument.Instrument.{Instrument}
use Rattle.mdp_channel.specs.Channel.{ChannelContent, line_refusal, refusal_in, with_line}
use Rattle.mdp_channel.specs.ChannelLine.{said_line}
use Rattle.mdp_channel.specs.declared.fault.LineRefusal.TheVariants.{Listing}

judged : (refusal : Option CaptureRefusal) → refusal_in (judgement refusal) ≡ option_map Listing refusal
judged None = refl
judged (Some refusal) = refl

-- why the line is refused, by what is answered to it
pub listing_answered : (channel : ChannelContent) (said : Option Instrument) → refusal_in (answer_after channel.instruments said) ≡ line_refusal channel (said_line None said)
listing_answered channel None = refl
listing_answered channel (Some instrument) = judged (refusal_after channel.instruments instrument)

abbrev pub channel : List Instrument → List FeedAddress → ChannelContent
channel instruments addresses = record { instruments = instruments; addresses = addresses }

not_refused : (refusal : Option CaptureRefusal) (with without : List Instrument) → option_map Listing refusal ≡ None → (if is_none refusal then with else without) ≡ with
not_refused None with without none = refl
not_refused (Some refusal) with without none = absurd (cc)

-- what is listed where it isn't refused
pub listing_taken : (old : ChannelContent) (said : Option Instrument) → line_refusal old (said_line None said) ≡ None
    → channel (listed_after_line old.instruments said) old.addresses ≡ with_line old (said_line None said)
listing_taken old None none = absurd (cc)
listing_taken old (Some instrument) none =
    let more = old.instruments ++ instrument ∷ [] in
    ap (λ (is : List Instrument). channel is old.addresses) (not_refused (refusal_after old.instruments instrument) more old.instruments none)
    ∙ ap (channel more) (sym (append-nil old.addresses))
