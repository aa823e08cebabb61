-- Its bytes encode a name, as all eight do.
use Rattle.encoding.specs.Bytes.{part}
use Rattle.encoding.specs.Decode.{hold_encodes}
use Rattle.encoding.proofs.PartLaws.{parts_pass_at}
use Rattle.wellformed.proofs.names.Named.hold.Goals as goal

pub returns : goal.returns
returns c = c.hold.ensures c.requires (parts_pass_at 8 8 c.args.k hold_encodes (part c.args.self.now.entry.bytes.now 16 64) c.args.self.now.whole c.requires)
