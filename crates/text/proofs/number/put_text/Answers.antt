use Rattle.text.proofs.NumberLaws.{text_stored}
use Rattle.text.proofs.number.put_text.Goals as goal

pub returns : goal.returns
returns c = text_stored _ _ _ _ c.requires c.copy_from_slice.ensures.after
