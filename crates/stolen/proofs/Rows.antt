-- The laws of what specs/Rows.antt defines.
use Rattle.std.specs.Prelude.{ℕ, zero, suc, ◌-◌, Bool, cond, ◌&&◌, List, [], ◌∷◌, T, eqb, ltb, leb, replicate}
use Rattle.basics.specs.Sets.{below}
use Rattle.basics.specs.Lists.{same}
use Rattle.ordered.specs.Keys.{with_key, above}
use Rattle.hashing.specs.Hash.{tabulation_length, slots_in_range, station_in_range, blank, tables, hash}
use Rattle.probing.specs.Rule.{after, place, placed, table_image, looks, look, table_keys}
use Rattle.stolen.specs.Answers.{stolen_image, stolen_canonical, stolen_lookup_refusal, stolen_lookup_values}
use Rattle.stolen.specs.Answers.{stolen_insert_refusal, stolen_insert_words}
use Rattle.stolen.specs.Rows.{stolen_board, stolen_rows}

pub follow : T stolen_rows
unfolding same below above with_key slots_in_range station_in_range blank hash after place placed table_image looks look table_keys stolen_board stolen_canonical stolen_lookup_refusal stolen_lookup_values stolen_insert_refusal stolen_insert_words
follow = tt
