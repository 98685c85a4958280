-- The table of refusals: the number and the name of each.
use Rattle.std.specs.Prelude.{ℕ, List, codes}
use Rattle.mdp_sbe.specs.declared.refusal.Refusal.{Refusal}
use Rattle.mdp_sbe.specs.declared.refusal.Refusal.TheVariants as refusals

abbrev pub refusal_number : Refusal → ℕ
refusal_number refusals.TooShort = 1
refusal_number refusals.NumberZero = 2
refusal_number refusals.SizeCut = 3
refusal_number refusals.SizeSmall = 4
refusal_number refusals.SizePast = 5
refusal_number refusals.Schema = 6
refusal_number refusals.BlockShort = 7
refusal_number refusals.BlockPast = 8
refusal_number refusals.GroupCut = 9
refusal_number refusals.GroupShort = 10
refusal_number refusals.GroupPast = 11
refusal_number refusals.Action = 12
refusal_number refusals.EntryType = 13
refusal_number refusals.Level = 14
refusal_number refusals.Price = 15
refusal_number refusals.Size = 16
refusal_number refusals.ChannelReset = 17
refusal_number refusals.SnapshotLevels = 18

abbrev pub refusal_name : Refusal → List ℕ
refusal_name refusals.TooShort = codes "TooShort"
refusal_name refusals.NumberZero = codes "NumberZero"
refusal_name refusals.SizeCut = codes "SizeCut"
refusal_name refusals.SizeSmall = codes "SizeSmall"
refusal_name refusals.SizePast = codes "SizePast"
refusal_name refusals.Schema = codes "Schema"
refusal_name refusals.BlockShort = codes "BlockShort"
refusal_name refusals.BlockPast = codes "BlockPast"
refusal_name refusals.GroupCut = codes "GroupCut"
refusal_name refusals.GroupShort = codes "GroupShort"
refusal_name refusals.GroupPast = codes "GroupPast"
refusal_name refusals.Action = codes "Action"
refusal_name refusals.EntryType = codes "EntryType"
refusal_name refusals.Level = codes "Level"
refusal_name refusals.Price = codes "Price"
refusal_name refusals.Size = codes "Size"
refusal_name refusals.ChannelReset = codes "ChannelReset"
refusal_name refusals.SnapshotLevels = codes "SnapshotLevels"
