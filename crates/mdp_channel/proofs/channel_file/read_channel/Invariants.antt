use Rattle.std.proofs.Common.{◌+◌, ◌≤◌, length}
use Rattle.std.specs.Str.Lines.{lines}
use Rattle.mdp_channel.specs.ChannelFile.{channel_in}
use Rattle.mdp_channel.specs.ChannelLine.{channel_lines}
use Rattle.mdp_channel.proofs.Fronts.{TakesFront}
use Rattle.mdp_channel.proofs.channel_file.read_channel.Given as goal

abbrev pub invariant-loop-line : goal.invariant-loop-line
invariant-loop-line g l = record {
  taken : TakesFront (channel_lines l.text) (channel_lines l.line-iterator.rest.now) l.before (channel_in l.file);
  few : l.before + length (lines l.line-iterator.rest.now) ≤ length l.text;
}
