-- The paper's cases with a ● hold of the definitions: one fact over the table (`edges_hold`). Assumes nothing.
use mathlib.Core.Path.{◌≡◌, refl}
use mathlib.Core.Bool.{true}
use Rattle.convergents.specs.Pairs.{differs}
use Rattle.convergents.specs.Convergents.{euclid, quotients, recurrence, convergents}
use Rattle.convergents.specs.Rounding.{held, last_held, round}
use Rattle.slash.specs.Bits.{least_from, least_power, bit_count, bits, bit, bit_of, word_of_fields}
use Rattle.slash.specs.Formats.{k_fits, known, check_format, slash_bits, width_of, holds}
use Rattle.slash.specs.Rounding.{round_ratio}
use Rattle.slash.specs.Reading.{fixed_value, fixed_number, slash_position, slash_undefined, floating_fraction, floating_number, number_of, is_above, check_word, read_word}
use Rattle.slash.specs.Writing.{fixed_word, floating_word, floating_pair, pair_word, word_for, is_over_zero, write_number}
use Rattle.slash.specs.Numbers.{is_nan}
use Rattle.arithmetic.specs.Operands.{operand_of}
use Rattle.arithmetic.specs.Operations.{sum_size, sum_sign, sum_parts, sum_of, exact_of, exact_value, is_binary, combined, check_binary, binary_word}
use Rattle.arithmetic.specs.Edges.{edges, is_rounded, is_positive, is_read, is_word, agrees, all_agree}

pub edges_hold : all_agree edges ≡ true
unfolding edges is_rounded is_positive is_read is_word agrees all_agree round_ratio write_number word_for is_over_zero round last_held held convergents recurrence quotients euclid differs holds k_fits known check_format slash_bits least_power least_from bit_count pair_word fixed_word floating_pair floating_word word_of_fields bit_of binary_word check_binary combined is_binary exact_value exact_of sum_of sum_parts sum_size sum_sign operand_of is_nan read_word check_word is_above width_of number_of fixed_number fixed_value floating_number floating_fraction slash_position slash_undefined bits bit
edges_hold = refl
