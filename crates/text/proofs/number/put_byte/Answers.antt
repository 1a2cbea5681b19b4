use Rattle.text.proofs.NumberLaws.{store_byte}
use Rattle.text.proofs.number.put_byte.Goals as goal

pub returns : goal.returns
returns c = store_byte _ _ _
