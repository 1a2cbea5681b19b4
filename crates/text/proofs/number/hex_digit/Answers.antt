use Rattle.text.proofs.NumberLaws.{hex_table_lem}
use Rattle.text.proofs.number.hex_digit.Goals as goal

pub returns : goal.returns
returns c = hex_table_lem _ c.requires
