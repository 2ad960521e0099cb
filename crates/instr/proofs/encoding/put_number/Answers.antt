-- There is room, so the number goes in.
use mathlib.Core.Path.{refl}
use Rattle.leb128.proofs.Puts.{goes_in}
use Rattle.instr.proofs.Sets.{put-number}
use Rattle.instr.proofs.encoding.put_number.Goals as goal

pub unwrap-requires : goal.unwrap-requires
unwrap-requires g c = rw (goes_in c.write.ensures c.requires) refl

pub returns : goal.returns
returns g c = put-number c.write.ensures c.requires _ c.unwrap.ensures
