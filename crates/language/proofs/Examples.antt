-- The worked sheets, by computing.
use Rattle.std.proofs.Common.{refl}
use Rattle.ints.specs.Tests.{all_below}
use Rattle.rows.specs.Limits.{all_small}
use Rattle.rows.specs.Rows.{row_of}
use Rattle.language.specs.Tree.{at_lists, shape, lent_of}
use Rattle.language.specs.Terms.{each, constant, quantity, plus, minus, scaled, worth, all_near, worked}
use Rattle.language.specs.Comparing.{at_most, unequal, side_value, side_term, condition_rows}
use Rattle.language.specs.Walking.{limit, owe, owe_all, assume, assume_all, owe_checks, fresh, fresh_with, or_fresh, finish, join, same_params, walk, walks, start_known, walk_rules, obligations_of, first_fault}
use Rattle.language.specs.Running.{give, halt, emit, ◌>>=◌, spend, check, inside, load, store, fit, values, node, run, made_in}
use Rattle.language.specs.Drafts.{refusal_of, first_open}
use Rattle.language.specs.Entering.{gathered, every, first_broken}
use Rattle.language.specs.Examples.{Worked}

pub by-computing : Worked
unfolding at_lists shape lent_of each constant quantity plus minus scaled worth all_near worked at_most unequal side_value side_term condition_rows limit owe owe_all assume assume_all owe_checks fresh fresh_with or_fresh finish join same_params walk walks start_known walk_rules obligations_of first_fault give halt emit ◌>>=◌ spend check inside load store fit values node run made_in refusal_of first_open gathered every first_broken all_small row_of all_below
by-computing = record {
  pick-value = (refl, refl, refl, refl, refl);
  pick-spent = (refl, refl, refl, refl, refl);
  pick-above = (refl, refl, refl, refl, refl);
  pick-needs = refl;
  total-closed = refl;
  total-value = (refl, refl, refl, refl, refl);
  total-dropped = (refl, refl, refl, refl, refl);
  total-long = (refl, refl, refl, refl, refl);
  total-deep = (refl, refl, refl, refl, refl);
  total-owes = refl;
  mark-owes = refl;
}
