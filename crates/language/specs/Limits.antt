-- The limits of the walk and of a run.
use Rattle.std.specs.Prelude.{ℕ}

abbrev pub quantities : ℕ
quantities = 16

abbrev pub most_facts : ℕ
most_facts = 24

abbrev pub most_obligations : ℕ
most_obligations = 128

-- the constant and the coefficients of a term lie at most so far from 0, and so does a side
abbrev pub term_limit : ℕ
term_limit = 1000000

-- so many expressions may stand one in another; at the next a run stops deep
abbrev pub most_depth : ℕ
most_depth = 2000

abbrev pub most_fuel : ℕ
most_fuel = 1000000

abbrev pub longest_part : ℕ
longest_part = 4096

-- the room that a prover is given
abbrev pub longest_proposal : ℕ
longest_proposal = 128
