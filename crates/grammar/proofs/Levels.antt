-- The levels of an expression, one call deep.
use Rattle.std.proofs.Common.{◌≡◌, ℕ, Bool, true, List, length, Result, refl, ap, ◌∙◌}
use Rattle.letters.specs.declared.kind.Kind.{Kind}
use Rattle.letters.specs.declared.kind.Kind.TheVariants.{Comma, Times}
use Rattle.grammar.specs.declared.misplaced.Misplaced.{Misplaced}
use Rattle.grammar.specs.Raw.{Condition, Param}
use Rattle.grammar.specs.Parsers.{is_a, done, seq}
use Rattle.grammar.specs.Sheets.{sum_sign, conditions_s, optional_s, params_s, expr_by, atom_by, args_by, calc_on, arg_on, expr_s, sum_s, sum_from_s, product_s, product_from_s, args_s, args_from_s, atom_s}
use Rattle.grammar.specs.Stretches.{conditions_at, optional_at, params_at}
use Rattle.grammar.specs.Trees.{Source, look_of}
use Rattle.grammar.specs.Held.{Held, look, Lasts, Comes, Stands, ArgsStand, Went}
use Rattle.grammar.proofs.Laws.{fuelled}
use Rattle.grammar.proofs.Loops.{Chained}
use Rattle.grammar.proofs.Rereads.{conditions-came, optional-came, params-came}

module _ {r : Result ℕ Misplaced} {s s' : Held} where
  pub expr-by : Went Stands r (λ f. expr_by (sum_s f) (expr_s f)) s s' → Went Stands r expr_s s s'
  unfolding expr_s
  expr-by w = fuelled expr_s _ (λ f. refl) w

  pub sum_by : Went Stands r (λ f. seq (product_s f) (sum_from_s f)) s s' → Went Stands r sum_s s s'
  unfolding sum_s
  sum_by w = fuelled sum_s _ (λ f. refl) w

  pub product-by : Went Stands r (λ f. seq (atom_s f) (product_from_s f)) s s' → Went Stands r product_s s s'
  unfolding product_s
  product-by w = fuelled product_s _ (λ f. refl) w

  pub atom-by : Went Stands r (λ f. atom_by (sum_s f) (args_s f) (expr_s f) (conditions_s true f)) s s' → Went Stands r atom_s s s'
  unfolding atom_s
  atom-by w = fuelled atom_s _ (λ f. refl) w

  pub args_by-law : Went ArgsStand r (λ f. args_by (sum_s f) (args_from_s f)) s s' → Went ArgsStand r args_s s s'
  unfolding args_s
  args_by-law w = fuelled args_s _ (λ f. refl) w

pub sum-chained : Chained sum_sign (λ f. calc_on (product_s f)) sum_from_s
unfolding sum_from_s
sum-chained = record { by = λ f x. refl }

pub product-chained : Chained (is_a Times) (λ f. calc_on (atom_s f)) product_from_s
unfolding product_from_s
product-chained = record { by = λ f x. refl }

pub args-chained : Chained (is_a Comma) (λ f xs _. arg_on (sum_s f) xs) args_from_s
unfolding args_from_s
args-chained = record { by = λ f x. refl }

-- a stretch that was parsed is read later as it was
module _ {s s' : Held} (h : Lasts s s') {j : ℕ} where
  pub keep-conditions : (res : Bool) (i : ℕ) {x : List Condition} → Comes (conditions_s res) (look s) i (done x j) → (conditions_at (length s'.source.tokens) (look s') i).value ≡ x
  keep-conditions res i {x} c = ap (λ (z : Source). (conditions_at (length z.tokens) (look_of z) i).value) h.same ∙ conditions-came s.source res i x j c

  pub keep-optional : (k : Kind) (res : Bool) (i : ℕ) {x : List Condition} → Comes (optional_s k res) (look s) i (done x j) → optional_at (length s'.source.tokens) (look s') k i ≡ x
  keep-optional k res i {x} c = ap (λ (z : Source). optional_at (length z.tokens) (look_of z) k i) h.same ∙ optional-came s.source k res i x j c

  pub keep-params : (i : ℕ) {x : List Param} → Comes params_s (look s) i (done x j) → params_at (length s'.source.tokens) (look s') i ≡ x
  keep-params i {x} c = ap (λ (z : Source). params_at (length z.tokens) (look_of z) i) h.same ∙ params-came s.source i x j c
