-- What the getters of matches read of their rows.
use Rattle.std.proofs.Common.{◌≡◌, ℕ, List, option_map}
use Rattle.clap.specs.Words.{all_of, first_of, first_value, found_of, matched_of, raw_values, rows_of}
use Rattle.clap.specs.declared.parser.matches.ArgMatches.{ArgMatches}
use Rattle.clap.proofs.WalkLemmas.{first_value-rows, raw_values-rows}

pub first_text : (matches : ArgMatches) (name : List ℕ)
    → first_value (found_of matches) name ≡ first_of name (rows_of (found_of matches))
first_text matches name = first_value-rows (found_of matches) name

pub every_text : (matches : ArgMatches) (name : List ℕ)
    → option_map raw_values (matched_of (found_of matches) name) ≡ all_of name (rows_of (found_of matches))
every_text matches name = raw_values-rows (found_of matches) name
