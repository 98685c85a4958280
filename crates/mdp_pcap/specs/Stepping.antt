-- What a step of a reader does.
use Rattle.std.specs.Prelude.{◌≡◌, ℕ, ◌+◌, ◌-◌, ◌*◌, ◌<◌, ◌≤◌, List, ◌++◌, length, drop, None}
use Rattle.mdp_pcap.specs.Block.{read_on, frames_of}
use Rattle.mdp_pcap.specs.Placing.{block_in}
use Rattle.mdp_pcap.specs.Reader.{NumberedFrame, number_after, ReaderContent, IsReadOn, IsReadWhole}
use Rattle.mdp_pcap.specs.declared.block.Block.{Block}
use Rattle.mdp_pcap.specs.declared.pcap_reader.Halt.{Halt}
use Rattle.mdp_pcap.specs.declared.pcap_reader.Halt.TheVariants as halts
use Rattle.mdp_pcap.specs.declared.pcap_reader.Advance.{Advance}
use Rattle.mdp_pcap.specs.declared.pcap_reader.Advance.TheVariants as advances

-- what takes the frames took no more
abbrev pub IsStop : {E : Type 0} → Halt E → Type 0
IsStop halts.Memory = ⊥
IsStop (halts.Stop stop) = Unit {0}

-- the reader took note of a block, wherever its frame stands
pub record HasMovedOn (block : Block) (old now : ReaderContent) : Type 0 where
  pub reading : (bytes : List ℕ) → read_on old.reading (block_in bytes block) ≡ now.reading
  pub counted : (bytes : List ℕ) → number_after old.number (frames_of (block_in bytes block)) ≡ now.number
  pub held : now.held ≡ old.held
  pub going : now.fault ≡ old.fault

-- a step took so many bytes of a piece, and left less to read
pub record HasGoneOn (Taken : List NumberedFrame → Type 0) (old now : ReaderContent) (rest : List ℕ)
    (count : ℕ) : Type 0 where
  pub fits : count ≤ length rest
  pub read : IsReadOn Taken old now (old.held ++ rest) (now.held ++ drop count rest)
  pub going : now.fault ≡ None
  pub less : 2 * (length rest - count) + length now.held < 2 * length rest + length old.held

abbrev pub HasStepped : (List NumberedFrame → Type 0) → ReaderContent → ReaderContent → List ℕ → Advance → Type 0
HasStepped Taken old now rest (advances.On count) = HasGoneOn Taken old now rest count
HasStepped Taken old now rest advances.Done = IsReadWhole Taken old now (old.held ++ rest)
