-- The term of some numbers, and how far the numbers of a total lie from 0.
use Rattle.std.specs.Prelude.{ℕ, ◌*◌, Bool, cond, ◌&&◌, List, ℤ, pos, Some, None, Option, nat_le}
use Rattle.ints.specs.Tests.{within, all_within}
use Rattle.language.specs.declared.term.Term.{Term}
use Rattle.terms.specs.declared.wide.Wide.{Wide}

abbrev pub term_of : ℤ → List ℤ → Term
term_of c cs = record { constant = c; coefs = cs }

abbrev pub wide_term : Wide → Term
wide_term w = term_of w.constant w.coefs

-- the same numbers, where each lies within the limit
abbrev pub narrowed : ℤ → Wide → Option Term
narrowed limit w = cond (within limit w.constant && all_within limit w.coefs) (Some (wide_term w)) None

-- a number within this limit and any product of two numbers of 32 bits have a sum of 64 bits
abbrev pub room : ℕ
room = 4611686018427387903

-- no item of a total comes to more
abbrev pub most_item : ℕ
most_item = 1000000000000

-- the sum of a total of n items
abbrev pub modest : ℕ → Wide → Bool
modest n w = nat_le n 16384 && (within (pos (n * most_item)) w.constant && all_within (pos (n * most_item)) w.coefs)
